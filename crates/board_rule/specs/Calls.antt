-- What the clauses of the steps say of a seat and of its board.
-- This project's own choice.
use Rattle.atomic_table.specs.Seated.{TableId}
use Rattle.board_rule.specs.declared.seat.BoardSeat.{BoardSeat}
use Rattle.board_rule.specs.declared.view.Code.{Code}
use Rattle.board_rule.specs.declared.view.View.{View}
use Rattle.board_rule.specs.Seat.{first_of}

-- what the seat knows
abbrev pub view_of : BoardSeat → View Code
view_of s = first_of s.badge.views

-- the board that it is a seat of
abbrev pub board_of : BoardSeat → TableId
board_of s = s.badge.table_id
