use Rattle.std.proofs.Common.{◌≡◌, ◌∙◌, true, ap, sym, subst}
use Rattle.fb_values.specs.declared.indexes.Order.TheVariants.{Eavt}
use Rattle.fb_model.specs.History.{said}
use Rattle.fb_facts.specs.FactLists.{is_of_entity, facts_of}
use Rattle.tx_after.specs.Triples.{triples_rise, with_changes}
use Rattle.tx_after.proofs.Orders.{apart_at_t, triples_rise-filter}
use Rattle.tx_after.proofs.WithChanges.{told-rises, told_with_changes, apart-from_triples, entity-IsOnTriples}
use Rattle.tx_after.proofs.Results.{IfOk-map}
use Rattle.tx_after.proofs.facts.facts_of.Goals as goal

pub merged-requires-clause-before : goal.merged-requires-clause-before
merged-requires-clause-before g c =
    let h = g.F.Facts.history c.args.facts.now in
    subst (λ l. triples_rise Eavt l ≡ true) (sym (c.as_slice.ensures ∙ c.in_ok-before.ensures))
    (told-rises Eavt (is_of_entity c.args.e) (said h))

pub merged-requires-clause-changes : goal.merged-requires-clause-changes
merged-requires-clause-changes g c =
    subst (λ l. triples_rise Eavt l ≡ true) (sym c.part_of.ensures)
    (triples_rise-filter Eavt (is_of_entity c.args.e) c.args.changes.now
    (apart_at_t Eavt c.requires.t c.args.changes.now c.requires.rising c.requires.of_t))

pub returns : goal.returns
returns g c =
    let h = g.F.Facts.history c.args.facts.now in
    let changes = c.args.changes.now in
    let rise = apart_at_t Eavt c.requires.t changes c.requires.rising c.requires.of_t in
    let is = ap (λ l. with_changes Eavt l c.part_of.result.now) (c.as_slice.ensures ∙ c.in_ok-before.ensures)
    ∙ ap (with_changes Eavt (facts_of h c.args.e)) c.part_of.ensures
    ∙ told_with_changes h changes (apart-from_triples Eavt changes rise) Eavt (is_of_entity c.args.e) (entity-IsOnTriples c.args.e) in
    IfOk-map _ _ (λ list same. same ∙ is) c.merged.result c.merged.ensures
