use Rattle.std.proofs.Common.{◌≡◌, ◌<◌}
use Rattle.board_rule.specs.Views.{StartsWith}
use Rattle.board_rule.specs.Calls.{view_of}
use Rattle.fb_conn.specs.Seats.{IsWorkerOf}
use Rattle.merge_worker.specs.Work.{IsSameWorker, AreStill}
use Rattle.merge_worker.proofs.catching_up.catch_up.Given as goal

abbrev pub invariant-loop : goal.invariant-loop
invariant-loop g l =
    IsWorkerOf l.conn l.seat
    × IsSameWorker (view_of l.initial.seat.board) (view_of l.seat.board)
    × ((view_of l.seat.board).covered ≡ (view_of l.initial.seat.board).covered)
    × AreStill l.initial.seat.last.entries l.seat.last.entries
    × ((view_of l.seat.board).draws < 4294967296)
    × StartsWith l.seat.last.entries l.ahead.entries
    × (l.ahead.covered ≡ l.initial.ahead.covered)
