use Rattle.std.proofs.Common.{◌≡◌, drop, map}
use Rattle.std.specs.List.{list_any}
use Rattle.tx_asks.specs.Acts.{model_act, is_cas_of_many}
use Rattle.tx_rules.proofs.cas.has_cas_of_many.Given as goal

abbrev pub invariant-loop-act : goal.invariant-loop-act
invariant-loop-act l = list_any is_cas_of_many (map model_act (drop l.act-index l.form)) ≡ list_any is_cas_of_many (map model_act l.form)
