use Rattle.std.proofs.Common.{◌≡◌, not, drop}
use Rattle.std.specs.List.{list_any}
use Rattle.fb_values.specs.declared.facts.Value.{Value}
use Rattle.fb_model.specs.Facts.{is_of}
use Rattle.tx_laws.proofs.values.one_stays.Given as goal

abbrev pub invariant-loop-v : goal.invariant-loop-v
invariant-loop-v l =
    list_any (λ (v : Value). not (list_any (is_of l.d.e l.d.a v) l.datoms)) (drop l.v-index l.values)
    ≡ list_any (λ (v : Value). not (list_any (is_of l.d.e l.d.a v) l.datoms)) l.values
