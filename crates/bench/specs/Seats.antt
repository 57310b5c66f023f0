-- What a seat of the benchmark knows before it begins.
-- This project's own choice.
use Rattle.std.specs.Prelude.{◌≡◌}
use Rattle.board_rule.specs.declared.view.Code.{Code}
use Rattle.board_rule.specs.declared.view.View.{View}
use Rattle.board_rule.specs.Views.{IsIdle}

-- the seat has done nothing
abbrev pub IsFresh : View Code → Type 0
IsFresh v = IsIdle v × (v.draws ≡ 0)
