use Rattle.std.proofs.Common.{◌≡◌, drop, cond, not}
use Rattle.std.specs.List.{list_all}
use Rattle.fb_values.specs.declared.facts.Datom.{Datom}
use Rattle.fb_model.specs.Facts.{holds}
use Rattle.tx_laws.proofs.datoms.has_changes_alone.Given as goal

abbrev pub invariant-loop-d : goal.invariant-loop-d
invariant-loop-d g l =
    list_all
    (λ (d : Datom). cond d.added (not (holds (g.F.Facts.history l.facts) d.e d.a d.v)) (holds (g.F.Facts.history l.facts) d.e d.a d.v))
    (drop l.d-index l.datoms)
    ≡ list_all
    (λ (d : Datom). cond d.added (not (holds (g.F.Facts.history l.facts) d.e d.a d.v)) (holds (g.F.Facts.history l.facts) d.e d.a d.v))
    l.datoms
