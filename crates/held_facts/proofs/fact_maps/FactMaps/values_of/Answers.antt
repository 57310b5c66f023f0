use Rattle.std.proofs.Common.{◌∙◌}
use Rattle.fb_values.specs.declared.facts.Datom.{Datom}
use Rattle.fb_model.specs.Schema.{is_about}
use Rattle.held_facts.specs.FactMaps.{fact_of_entity}
use Rattle.held_facts.proofs.Ranges.{begun_by}
use Rattle.held_facts.proofs.Openings.{about_opens}
use Rattle.held_facts.proofs.fact_maps.FactMaps.values_of.Goals as goal

pub loop-place-init : goal.loop-place-init
loop-place-init c =
    let range = c.range-place-items.ensures in
    begun_by (λ (d : Datom). d.v) fact_of_entity
    (is_about c.args.e c.args.a) _ _ _ c.args.self.now.by_entity.entries c.new-values.ensures.items
    (c.into_iter-place-iterator.ensures.into_iter_gives ∙ range.between tt)
    (about_opens c.args.e c.args.a c.in_ok-least_value.field-0 c.in_ok-least_value.ensures c.args.self.now.by_entity range.ordered)
