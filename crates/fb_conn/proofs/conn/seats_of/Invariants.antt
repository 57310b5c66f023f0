use Rattle.std.proofs.Common.{◌≡◌, ◌+◌, ◌≤◌, ◌++◌, map, length}
use Rattle.std.specs.Prelude.{vec_len, vec_capacity}
use Rattle.std.specs.Vec.Iter.{into_iter_items, into_iter_len}
use Rattle.fb_conn.specs.Seats.{board_in, last_in}
use Rattle.fb_conn.proofs.conn.seats_of.Given as goal

abbrev pub invariant-loop-board : goal.invariant-loop-board
invariant-loop-board l =
    (map board_in l.seats.items ++ into_iter_items l.boards ≡ into_iter_items l.initial.boards)
    × (map last_in l.seats.items ++ into_iter_items l.lasts ≡ into_iter_items l.initial.lasts)
    × (into_iter_len l.lasts ≡ into_iter_len l.boards)
    × (vec_len l.seats + into_iter_len l.boards ≤ vec_capacity l.seats)
    × (length (into_iter_items l.boards) ≡ into_iter_len l.boards)
    × (length (into_iter_items l.lasts) ≡ into_iter_len l.lasts)

abbrev pub decreases-loop-board : goal.decreases-loop-board
decreases-loop-board l = into_iter_len l.boards
