use Rattle.std.proofs.Common.{◌≡◌, drop, map}
use Rattle.std.specs.List.{list_any}
use Rattle.tx_asks.specs.Acts.{model_act}
use Rattle.tx_rules.specs.Cas.{finds_another}
use Rattle.tx_rules.proofs.cas.has_failed.Given as goal

abbrev pub invariant-loop-act : goal.invariant-loop-act
invariant-loop-act g l =
    list_any (finds_another (g.F.Facts.history l.facts)) (map model_act (drop l.act-index l.form))
    ≡ list_any (finds_another (g.F.Facts.history l.facts)) (map model_act l.form)
