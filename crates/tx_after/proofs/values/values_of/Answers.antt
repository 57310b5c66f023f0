use Rattle.std.proofs.Common.{◌≡◌, ◌∙◌, true, map, ap, sym, subst}
use Rattle.fb_values.specs.declared.indexes.Order.TheVariants.{Eavt}
use Rattle.fb_model.specs.History.{said}
use Rattle.fb_model.specs.Schema.{is_about}
use Rattle.fb_facts.specs.FactLists.{facts_in, is_under}
use Rattle.std.specs.Prelude.{filter}
use Rattle.tx_after.specs.Triples.{without_time, triples_rise, with_changes}
use Rattle.tx_after.proofs.Orders.{apart_at_t, triples_rise-filter}
use Rattle.tx_after.proofs.WithChanges.{told-rises, told_with_changes, apart-from_triples, about-filter}
use Rattle.tx_after.proofs.Timeless.{values, made, made-rises, same_values, facts_about, about-IsOnTriples}
use Rattle.tx_after.proofs.Results.{IfOk-map}
use Rattle.tx_after.proofs.values.values_of.Goals as goal

pub merged-requires-clause-before : goal.merged-requires-clause-before
merged-requires-clause-before g c =
    let h = g.F.Facts.history c.args.facts.now in
    let e = c.args.e in
    let a = c.args.a in
    subst (λ l. triples_rise Eavt l ≡ true)
    (sym (c.deref-2.ensures.value ∙ c.in_ok-before.ensures ∙ ap (map (without_time e a)) (c.deref.ensures.value ∙ c.in_ok-values_of.ensures)))
    (made-rises e a (facts_in Eavt (is_about e a) h) (facts_about e a h) ∙ told-rises Eavt (is_about e a) (said h))

pub merged-requires-clause-changes : goal.merged-requires-clause-changes
merged-requires-clause-changes g c =
    let e = c.args.e in
    let a = c.args.a in
    let changes = c.args.changes.now in
    subst (λ l. triples_rise Eavt l ≡ true)
    (sym (c.deref-3.ensures.value ∙ c.in_ok-told.ensures ∙ ap (filter (is_under a)) c.part_of.ensures ∙ about-filter e a changes))
    (triples_rise-filter Eavt (is_about e a) changes (apart_at_t Eavt c.requires.t changes c.requires.rising c.requires.of_t))

pub returns : goal.returns
returns g c =
    let h = g.F.Facts.history c.args.facts.now in
    let e = c.args.e in
    let a = c.args.a in
    let changes = c.args.changes.now in
    let rise = apart_at_t Eavt c.requires.t changes c.requires.rising c.requires.of_t in
    let before = c.deref-2.ensures.value ∙ c.in_ok-before.ensures ∙ ap (map (without_time e a)) (c.deref.ensures.value ∙ c.in_ok-values_of.ensures) in
    let told = c.deref-3.ensures.value ∙ c.in_ok-told.ensures ∙ ap (filter (is_under a)) c.part_of.ensures ∙ about-filter e a changes in
    let ds = facts_in Eavt (is_about e a) h in
    let is =
    ap values
    (c.deref-4.ensures.value
    ∙ c.in_ok-after.ensures
    ∙ ap (λ l. with_changes Eavt l c.deref-3.result.now) before
    ∙ ap (with_changes Eavt (made e a ds)) told)
    ∙ same_values e a ds (filter (is_about e a) changes) (facts_about e a h) (told-rises Eavt (is_about e a) (said h))
    (triples_rise-filter Eavt (is_about e a) changes rise)
    ∙ ap values
    (told_with_changes h changes (apart-from_triples Eavt changes rise) Eavt (is_about e a) (about-IsOnTriples e a)) in
    IfOk-map _ _ (λ list same. same ∙ is) c.values_in.result c.values_in.ensures
