use Rattle.std.proofs.Common.{◌≡◌, ◌&&◌, not, nat_eq, drop}
use Rattle.std.specs.List.{list_any}
use Rattle.fb_values.specs.declared.facts.Datom.{Datom}
use Rattle.fb_checks.proofs.values.fails_under.Given as goal

abbrev pub invariant-loop-d : goal.invariant-loop-d
invariant-loop-d g l =
    list_any (λ (d : Datom). d.added && nat_eq d.a l.a && not (g.T.Check.passes l.test d)) (drop l.d-index l.changes)
    ≡ list_any (λ (d : Datom). d.added && nat_eq d.a l.a && not (g.T.Check.passes l.test d)) l.changes
