use Rattle.std.proofs.Common.{◌≡◌, ◌++◌, drop, map}
use Rattle.fb_values.specs.declared.facts.Datom.{Datom}
use Rattle.tx_after.proofs.values.values_in.Given as goal

abbrev pub invariant-loop-d : goal.invariant-loop-d
invariant-loop-d l =
    l.values.items ++ map (λ (d : Datom). d.v) (drop l.d-index l.facts) ≡ map (λ (d : Datom). d.v) l.facts
