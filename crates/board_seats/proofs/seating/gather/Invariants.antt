use Rattle.std.proofs.Common.{◌≡◌, ◌⊎◌, ℕ, ◌+◌, map, length}
use mathlib.Core.Option.{some}
use lib.ListN.{get_elem?}
use Rattle.board_rule.specs.declared.seat.BoardSeat.{BoardSeat}
use Rattle.board_rule.specs.declared.view.Code.{Code}
use Rattle.board_rule.specs.declared.view.View.{View}
use Rattle.board_rule.specs.Calls.{view_of, board_of}
use Rattle.board_seats.specs.Seating.{AreIdle, IsNoted, HasSeen}
use Rattle.board_seats.proofs.seating.gather.Given as goal

abbrev pub invariant-loop-seat : goal.invariant-loop-seat
invariant-loop-seat g l =
    (board_of l.first ≡ board_of l.initial.first)
    × (let v : View Code = view_of l.initial.first in let w : View Code = view_of l.first in
    w ≡ record v { seats = w.seats; seen = w.seen; joined = w.joined })
    × ((view_of l.first).seats + length l.seats.items ≡ (view_of l.initial.first).seats + length l.initial.seats.items)
    × AreIdle l.board.table.shared.table_id (map g.T.Seated.seat l.seats.items)
    × ((k : ℕ) (s : BoardSeat) → get_elem? (map g.T.Seated.seat l.initial.seats.items) k ≡ some s
    → (get_elem? (map g.T.Seated.seat l.seats.items) k ≡ some s) ⊎ IsNoted (view_of s) (view_of l.first))
    × HasSeen (view_of l.initial.first).seen (view_of l.first)

abbrev pub decreases-loop-seat : goal.decreases-loop-seat
decreases-loop-seat g l = length l.seats.items
