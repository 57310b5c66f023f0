-- How a turn changes what a seat knows.
-- This project's own choice.
use Rattle.std.specs.Prelude.{List, ℕ, None, Some}
use Rattle.board_rule.specs.declared.view.Marks.{Marks}
use Rattle.board_rule.specs.declared.view.At.TheVariants.{Home, Away}
use Rattle.board_rule.specs.declared.view.View.{View}
use Rattle.board_rule.specs.Views.{story}

module _ {E : Type 0} where
  -- the seat has the turn, and slot 0's value: this history, with these authors and marks
  abbrev pub holding : View E → List E → List ℕ → Marks → View E
  holding v entries authors marks =
      record v { turn = Some (story entries authors marks); core = Away; next = None; tried = None }

  -- the turn is over, and these marks are the named ones
  abbrev pub left : View E → Marks → View E
  left v marks =
      record v {
        ticket = None;
        turn = None;
        core = Home;
        next = None;
        tried = None;
        stop = marks.stop;
        covered = marks.covered;
      }
