use Rattle.std.proofs.Common.{◌≡◌, drop}
use Rattle.std.specs.Prelude.{IfSome}
use Rattle.tx_after.specs.After.{after}
use Rattle.tx_rules.specs.Places.{earlier, first_where}
use Rattle.tx_rules.specs.Promises.{promises_anew, broken_at, verdict_of, first_broken}
use Rattle.tx_rules.proofs.promises.first_broken_by.Given as goal

abbrev pub invariant-loop-triple : goal.invariant-loop-triple
invariant-loop-triple g l = record {
  known : IfSome l.last (λ verdict. verdict ≡ verdict_of l.schema (after (g.F.Facts.history l.facts) l.changes) verdict.e);
  places : earlier l.first (first_where promises_anew
      (λ t. broken_at (verdict_of l.schema (after (g.F.Facts.history l.facts) l.changes) t.e) t) (drop l.triple-index l.triples))
      ≡ first_broken l.schema (after (g.F.Facts.history l.facts) l.changes) l.triples;
}
