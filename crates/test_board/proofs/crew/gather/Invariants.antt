use Rattle.std.proofs.Common.{◌≡◌, ◌+◌, length}
use Rattle.std.specs.List.{All}
use Rattle.board_rule.specs.Views.{IsIdle}
use Rattle.board_rule.specs.Calls.{view_of, board_of}
use Rattle.test_board.specs.Books.{IsDone}
use Rattle.test_board.proofs.crew.gather.Given as goal

abbrev pub invariant-loop-worker : goal.invariant-loop-worker
invariant-loop-worker l =
    (board_of l.first ≡ board_of l.initial.first) × IsIdle (view_of l.first)
    × All (λ w. (board_of w.seat ≡ l.board.table.shared.table_id) × IsDone (view_of w.seat)) l.workers.items
    × ((view_of l.first).number ≡ (view_of l.initial.first).number) × ((view_of l.first).given ≡ (view_of l.initial.first).given)
    × ((view_of l.first).seats + length l.workers.items ≡ (view_of l.initial.first).seats + length l.initial.workers.items)

abbrev pub decreases-loop-worker : goal.decreases-loop-worker
decreases-loop-worker l = goal.left-loop-worker l
