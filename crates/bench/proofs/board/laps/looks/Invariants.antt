use Rattle.std.proofs.Common.{◌≡◌}
use Rattle.board_rule.specs.Views.{IsIdle}
use Rattle.board_rule.specs.Calls.{view_of, board_of}
use Rattle.bench.proofs.board.laps.looks.Given as goal

abbrev pub invariant-loop : goal.invariant-loop
invariant-loop l =
    (board_of l.seat ≡ board_of l.initial.seat) × IsIdle (view_of l.seat) × ((view_of l.seat).number ≡ (view_of l.initial.seat).number)
