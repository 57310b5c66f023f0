use Rattle.std.proofs.Common.{◌≡◌, ◌∙◌, true, ap, sym, subst}
use Rattle.fb_values.specs.declared.indexes.Order.TheVariants.{Eavt, Aevt}
use Rattle.fb_model.specs.History.{said}
use Rattle.fb_facts.specs.FactLists.{is_under, facts_under}
use Rattle.tx_after.specs.Triples.{triples_rise, with_changes}
use Rattle.tx_after.proofs.Orders.{apart_at_t, under_one}
use Rattle.tx_after.proofs.WithChanges.{told-rises, told_with_changes, apart-from_triples, under-IsOnTriples}
use Rattle.tx_after.proofs.Results.{IfOk-map}
use Rattle.tx_after.proofs.facts.facts_under.Goals as goal

pub merged-requires-clause-before : goal.merged-requires-clause-before
merged-requires-clause-before g c =
    let h = g.F.Facts.history c.args.facts.now in
    subst (λ l. triples_rise Aevt l ≡ true) (sym (c.as_slice.ensures ∙ c.in_ok-before.ensures))
    (told-rises Aevt (is_under c.args.a) (said h))

pub merged-requires-clause-changes : goal.merged-requires-clause-changes
merged-requires-clause-changes g c =
    subst (λ l. triples_rise Aevt l ≡ true) (sym (c.under.ensures ∙ c.requires.parts c.args.a))
    (under_one c.args.a c.args.changes.now
    (apart_at_t Eavt c.requires.changes.t c.args.changes.now c.requires.changes.rising c.requires.changes.of_t))

pub returns : goal.returns
returns g c =
    let h = g.F.Facts.history c.args.facts.now in
    let changes = c.args.changes.now in
    let rise = apart_at_t Eavt c.requires.changes.t changes c.requires.changes.rising c.requires.changes.of_t in
    let is = ap (λ l. with_changes Aevt l c.under.result.now) (c.as_slice.ensures ∙ c.in_ok-before.ensures)
    ∙ ap (with_changes Aevt (facts_under h c.args.a)) (c.under.ensures ∙ c.requires.parts c.args.a)
    ∙ told_with_changes h changes (apart-from_triples Eavt changes rise) Aevt (is_under c.args.a) (under-IsOnTriples c.args.a) in
    IfOk-map _ _ (λ list same. same ∙ is) c.merged.result c.merged.ensures
