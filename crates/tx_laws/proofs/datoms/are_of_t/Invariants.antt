use Rattle.std.proofs.Common.{◌≡◌, drop, eqb}
use Rattle.std.specs.List.{list_all}
use Rattle.fb_values.specs.declared.facts.Datom.{Datom}
use Rattle.tx_laws.proofs.datoms.are_of_t.Given as goal

abbrev pub invariant-loop-d : goal.invariant-loop-d
invariant-loop-d l = list_all (λ (d : Datom). eqb d.t l.t) (drop l.d-index l.datoms) ≡ list_all (λ (d : Datom). eqb d.t l.t) l.datoms
