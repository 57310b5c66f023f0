use Rattle.std.proofs.Common.{◌≡◌, length}
use Rattle.std.specs.List.{All}
use Rattle.board_rule.specs.declared.view.Code.{Code}
use Rattle.board_rule.specs.declared.view.View.{View}
use Rattle.board_rule.specs.Calls.{view_of, board_of}
use Rattle.test_board.specs.Books.{IsHired}
use Rattle.test_board.proofs.crew.hire.Given as goal

abbrev pub invariant-loop-i : goal.invariant-loop-i
invariant-loop-i l =
    (board_of l.first ≡ board_of l.initial.first)
    × (let v : View Code = view_of l.initial.first in view_of l.first ≡ record v { given = l.i }) × (length l.workers.items ≡ l.i)
    × All (λ w. (board_of w.seat ≡ l.board.table.shared.table_id) × IsHired l.i (view_of w.seat)) l.workers.items
