-- The view of a seat.
-- This project's own choice.
use Rattle.std.specs.Prelude.{List, [], ◌∷◌}
use Rattle.board_rule.specs.declared.view.Code.{Code}
use Rattle.board_rule.specs.declared.view.View.{View}
use Rattle.board_rule.specs.Views.{spent}

abbrev pub first_of : List (View Code) → View Code
first_of [] = spent
first_of (v ∷ vs) = v
