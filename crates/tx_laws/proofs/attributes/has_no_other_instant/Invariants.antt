use Rattle.std.proofs.Common.{◌≡◌, ◌||◌, not, eqb, drop}
use Rattle.std.specs.List.{list_all}
use Rattle.fb_values.specs.declared.facts.Datom.{Datom}
use Rattle.fb_model.specs.Laws.{is_own_instant}
use Rattle.fb_numbers.specs.Numbers.{tx_instant}
use Rattle.tx_laws.proofs.attributes.has_no_other_instant.Given as goal

abbrev pub invariant-loop-d : goal.invariant-loop-d
invariant-loop-d l =
    list_all (λ (d : Datom). not (eqb d.a tx_instant) || is_own_instant l.entry d) (drop l.d-index l.datoms)
    ≡ list_all (λ (d : Datom). not (eqb d.a tx_instant) || is_own_instant l.entry d) l.datoms
