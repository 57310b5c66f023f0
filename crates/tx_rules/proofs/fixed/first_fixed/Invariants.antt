use Rattle.std.proofs.Common.{◌≡◌, drop}
use Rattle.tx_rules.specs.Places.{earlier, recorded_at, first_where}
use Rattle.tx_rules.specs.Fixed.{is_fixed}
use Rattle.tx_rules.proofs.fixed.first_fixed.Given as goal

abbrev pub invariant-loop-triple : goal.invariant-loop-triple
invariant-loop-triple l =
    earlier l.first (first_where (is_fixed l.schema) recorded_at (drop l.triple-index l.triples))
    ≡ first_where (is_fixed l.schema) recorded_at l.triples
