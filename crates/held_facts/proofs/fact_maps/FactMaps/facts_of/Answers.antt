use Rattle.std.proofs.Common.{◌∙◌}
use Rattle.fb_facts.specs.FactLists.{is_of_entity}
use Rattle.held_facts.specs.FactMaps.{fact_of_entity}
use Rattle.held_facts.proofs.Ranges.{begun}
use Rattle.held_facts.proofs.Openings.{entity_opens}
use Rattle.held_facts.proofs.fact_maps.FactMaps.facts_of.Goals as goal

pub loop-place-init : goal.loop-place-init
loop-place-init c =
    let range = c.range-place-items.ensures in
    begun fact_of_entity (is_of_entity c.args.e) _ _ _ c.args.self.now.by_entity.entries c.new-facts.ensures.items
    (c.into_iter-place-iterator.ensures.into_iter_gives ∙ range.between tt)
    (entity_opens c.args.e c.in_ok-least_value.field-0 c.in_ok-least_value.ensures c.args.self.now.by_entity range.ordered)
