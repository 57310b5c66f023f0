use Rattle.std.proofs.Common.{◌≡◌, ◌||◌, drop}
use Rattle.tx_rules.specs.Places.{earlier, first_where}
use Rattle.tx_rules.specs.Neighbours.{behind}
use Rattle.tx_rules.specs.Holders.{is_taken_twice, is_held_by_another, first_among}
use Rattle.tx_rules.proofs.holders.first_among.Given as goal

abbrev pub invariant-loop-i : goal.invariant-loop-i
invariant-loop-i g l =
    earlier l.first (first_where (λ t. is_taken_twice (behind l.takers) t || is_held_by_another (g.F.Facts.history l.facts) l.schema l.changes t)
    (λ t. t.added) (drop l.i (behind l.takers)))
    ≡ first_among (g.F.Facts.history l.facts) l.schema l.changes (behind l.takers)
