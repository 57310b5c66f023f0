use Rattle.std.proofs.Common.{◌≡◌}
use Rattle.board_rule.specs.Calls.{view_of, board_of}
use Rattle.board_turn.proofs.turns.wait_for_turn.Given as goal

abbrev pub invariant-loop : goal.invariant-loop
invariant-loop g l =
    (goal.iterator-loop g).can_next l.iterator' × (goal.iterator-loop g).is_finite l.iterator' × (board_of l.seat ≡ board_of l.initial.seat)
    × (view_of l.seat ≡ view_of l.initial.seat)
