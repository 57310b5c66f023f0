use Rattle.std.proofs.Common.{◌≡◌, ◌&&◌, not, drop}
use Rattle.std.specs.List.{list_all}
use Rattle.fb_values.specs.declared.facts.Datom.{Datom}
use Rattle.tx_laws.specs.Additions as additions
use Rattle.tx_laws.proofs.values.singles_meet_none.Given as goal

abbrev pub invariant-loop-d : goal.invariant-loop-d
invariant-loop-d g l =
    list_all (λ (d : Datom). not (additions.is_single l.schema l.altered d && additions.meets_value (g.F.Facts.history l.facts) l.datoms d))
    (drop l.d-index l.datoms)
    ≡ list_all
    (λ (d : Datom). not (additions.is_single l.schema l.altered d && additions.meets_value (g.F.Facts.history l.facts) l.datoms d)) l.datoms
