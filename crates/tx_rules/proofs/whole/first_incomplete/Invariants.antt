use Rattle.std.proofs.Common.{◌≡◌, drop}
use Rattle.std.specs.Prelude.{IfSome}
use Rattle.tx_after.specs.After.{after}
use Rattle.tx_rules.specs.Places.{earlier, first_where}
use Rattle.tx_rules.specs.Whole.{describes, lack_of, lack_at, first_incomplete}
use Rattle.tx_rules.proofs.whole.first_incomplete.Given as goal

abbrev pub invariant-loop-triple : goal.invariant-loop-triple
invariant-loop-triple g l = record {
  known : IfSome l.last (λ lack. lack ≡ lack_of l.schema (after (g.F.Facts.history l.facts) l.changes) lack.e);
  places : earlier l.first (first_where describes (λ t. lack_at (lack_of l.schema (after (g.F.Facts.history l.facts) l.changes) t.e) t)
      (drop l.triple-index l.triples))
      ≡ first_incomplete l.schema (after (g.F.Facts.history l.facts) l.changes) l.triples;
}
