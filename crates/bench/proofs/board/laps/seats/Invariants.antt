use Rattle.std.proofs.Common.{◌≡◌}
use Rattle.std.specs.List.{All}
use Rattle.board_rule.specs.declared.view.Code.{Code}
use Rattle.board_rule.specs.declared.view.View.{View}
use Rattle.board_rule.specs.Calls.{view_of, board_of}
use Rattle.bench.specs.Seats.{IsFresh}
use Rattle.bench.proofs.board.laps.seats.Given as goal

abbrev pub invariant-loop : goal.invariant-loop
invariant-loop l =
    (board_of l.first ≡ board_of l.initial.first)
    × (let v : View Code = view_of l.initial.first in view_of l.first ≡ record v { given = l.counter })
    × All (λ s. (board_of s ≡ l.board.table.shared.table_id) × IsFresh (view_of s)) l.seats.items
