use Rattle.std.proofs.Common.{◌≡◌, true, false, sym, subst}
use Rattle.fb_values.specs.declared.facts.Datom.{Datom}
use Rattle.fb_prefix.specs.declared.probes.Sought.{Sought}
use Rattle.fb_prefix.specs.Prefixes.{is_lesser, prefix_in}
use Rattle.fb_prefix.specs.Probes.{is_below}
use Rattle.fb_prefix.proofs.Least.{below_sought, above_sought}
use Rattle.fb_prefix.proofs.Telling.{whole_sought}
use Rattle.fb_prefix.proofs.probes.sought_by.Goals as goal

pub returns-clause-below : goal.returns-clause-below
returns-clause-below c =
    let p = c.args.probe.now in
    subst (λ (s : Sought). (d : Datom) → is_lesser (prefix_in p.order d) s.from ≡ true → is_below p d ≡ true) (sym c.by_order.ensures)
    (below_sought p)

pub returns-clause-above : goal.returns-clause-above
returns-clause-above c =
    let p = c.args.probe.now in
    subst (λ (s : Sought). (d : Datom) → is_lesser s.from (prefix_in p.order d) ≡ true → is_below p d ≡ false) (sym c.by_order.ensures)
    (above_sought p)

pub returns-clause-whole : goal.returns-clause-whole
returns-clause-whole c =
    let p = c.args.probe.now in
    subst (λ (s : Sought). s.is_whole ≡ true → (d : Datom) → prefix_in p.order d ≡ s.from → is_below p d ≡ false) (sym c.by_order.ensures)
    (whole_sought p)
