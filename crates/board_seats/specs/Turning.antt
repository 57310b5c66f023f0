-- How a turn changes what a seat knows, in lists of entries. `f` gives an entry's code.
-- This project's own choice.
use Rattle.std.specs.Prelude.{ℕ, List, [], ◌∷◌, ◌++◌, Some}
use base.Stored.{Gv}
use Rattle.board_rule.specs.declared.view.Marks.{Marks}
use Rattle.board_rule.specs.declared.view.Grab.TheVariants.{Free}
use Rattle.board_rule.specs.declared.view.Code.{Code}
use Rattle.board_rule.specs.declared.view.View.{View}
use Rattle.board_rule.specs.Views.{codes, tried_down, story, named_of, drew, counted}
use Rattle.board_turn.specs.Turn.{holding, left}

-- the seat drew the ticket t and has the turn:
-- slot 0's value stands for this list, of these authors, and has these marks
abbrev pub entered : {A : Type 0} → (A → Gv) → View Code → ℕ → List A → List ℕ → Marks → View Code
entered f v t entries authors marks = holding (drew v t) (codes f entries) authors marks

-- the seat added the entry t, which is the last of this list, and tried each of n sessions
abbrev pub gained : {A : Type 0} → (A → Gv) → View Code → ℕ → List A → List ℕ → ℕ → View Code
gained f v t entries authors n =
    record v {
      turn = Some (story (codes f entries) authors (named_of v));
      seen = codes f entries;
      commits = v.commits ++ t ∷ [];
      grab = Free;
      tried = tried_down n (Some []);
    }

-- the turn is over, and it has seen this list, the whole history
abbrev pub left_seen : {A : Type 0} → (A → Gv) → View Code → List A → Marks → View Code
left_seen f v entries marks = left (counted v (codes f entries)) marks
