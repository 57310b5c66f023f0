use Rattle.std.proofs.Common.{◌≡◌, ◌≤◌}
use Rattle.board_rule.specs.Views.{IsIdle}
use Rattle.board_rule.specs.Calls.{view_of, board_of}
use Rattle.test_board.specs.Books.{IsSameSeat}
use Rattle.test_board.proofs.crew.work.Given as goal

abbrev pub invariant-loop-k : goal.invariant-loop-k
invariant-loop-k g l =
    (board_of l.worker.seat ≡ board_of l.initial.worker.seat) × IsIdle (view_of l.worker.seat) × ((view_of l.worker.seat).draws ≤ l.k)
    × IsSameSeat (view_of l.initial.worker.seat) (view_of l.worker.seat)
