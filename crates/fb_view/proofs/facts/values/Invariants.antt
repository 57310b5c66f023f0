use Rattle.std.proofs.Common.{◌≡◌, ◌++◌, drop}
use Rattle.std.specs.Prelude.{map}
use Rattle.fb_values.specs.declared.facts.Datom.{Datom}
use Rattle.fb_view.proofs.facts.values.Given as goal

abbrev pub invariant-loop-d : goal.invariant-loop-d
invariant-loop-d l = l.values.items ++ map (λ (d : Datom). d.v) (drop l.d-index l.facts) ≡ map (λ (d : Datom). d.v) l.facts
