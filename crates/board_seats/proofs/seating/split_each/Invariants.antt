use Rattle.std.proofs.Common.{◌≡◌, ◌≤◌, length}
use Rattle.std.specs.Prelude.{vec_capacity}
use Rattle.board_rule.specs.declared.view.Code.{Code}
use Rattle.board_rule.specs.declared.view.View.{View}
use Rattle.board_rule.specs.Calls.{view_of, board_of}
use Rattle.board_seats.specs.Seating.{AreNew}
use Rattle.board_seats.proofs.seating.split_each.Given as goal

abbrev pub invariant-loop : goal.invariant-loop
invariant-loop g l =
    (board_of l.first ≡ board_of l.initial.first)
    × (let v : View Code = view_of l.initial.first in view_of l.first ≡ record v { given = l.counter }) × (length l.seats.items ≡ l.counter)
    × (l.fn.count ≤ vec_capacity l.seats)
    × AreNew l.board.table.shared.table_id (view_of l.initial.first).start (view_of l.initial.first).seen l.seats.items
