use Rattle.std.proofs.Common.{◌≡◌, ◌+◌, ◌≤◌, ◌++◌, map, length}
use Rattle.std.specs.Prelude.{vec_len, vec_capacity}
use Rattle.std.specs.List.{All, AllByRecursion}
use Rattle.std.specs.Vec.Iter.{into_iter_items, into_iter_len}
use Rattle.fb_conn.specs.Seats.{IsSeatOf}
use Rattle.fb_run.proofs.jobs.jobs_of.Given as goal

abbrev pub invariant-loop-seat : goal.invariant-loop-seat
invariant-loop-seat g l =
    (map (λ job. job.desk.seat) l.jobs.items ++ into_iter_items l.seats ≡ into_iter_items l.initial.seats)
    × (map (λ job. job.out) l.jobs.items ++ into_iter_items l.opened ≡ into_iter_items l.initial.opened) × All (λ job. job.desk.conn.now ≡
    l.conn) l.jobs.items
    × AllByRecursion (λ seat. IsSeatOf l.conn seat) (into_iter_items l.seats) × (into_iter_len l.opened ≡ into_iter_len l.seats)
    × (length (into_iter_items l.seats) ≡ into_iter_len l.seats) × (length (into_iter_items l.opened) ≡ into_iter_len l.opened)
    × (vec_len l.jobs + into_iter_len l.seats ≤ vec_capacity l.jobs)

abbrev pub decreases-loop-seat : goal.decreases-loop-seat
decreases-loop-seat g l = into_iter_len l.seats
