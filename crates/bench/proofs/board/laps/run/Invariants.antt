use Rattle.std.proofs.Common.{◌≡◌, ◌≤◌}
use Rattle.board_rule.specs.Views.{IsIdle}
use Rattle.board_rule.specs.Calls.{view_of, board_of}
use Rattle.bench.proofs.board.laps.run.Given as goal

abbrev pub invariant-loop : goal.invariant-loop
invariant-loop g l = (board_of l.seat ≡ board_of l.initial.seat) × IsIdle (view_of l.seat) × ((view_of l.seat).draws ≤ l.counter)
