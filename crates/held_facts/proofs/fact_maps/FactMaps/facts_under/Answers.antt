use Rattle.std.proofs.Common.{◌∙◌}
use Rattle.fb_facts.specs.FactLists.{is_under}
use Rattle.held_facts.specs.FactMaps.{fact_of_attribute}
use Rattle.held_facts.proofs.Ranges.{begun}
use Rattle.held_facts.proofs.Openings.{attribute_opens}
use Rattle.held_facts.proofs.fact_maps.FactMaps.facts_under.Goals as goal

pub loop-place-init : goal.loop-place-init
loop-place-init c =
    let range = c.range-place-items.ensures in
    begun fact_of_attribute (is_under c.args.a) _ _ _ c.args.self.now.by_attribute.entries c.new-facts.ensures.items
    (c.into_iter-place-iterator.ensures.into_iter_gives ∙ range.between tt)
    (attribute_opens c.args.a c.in_ok-least_value.field-0 c.in_ok-least_value.ensures c.args.self.now.by_attribute range.ordered)
