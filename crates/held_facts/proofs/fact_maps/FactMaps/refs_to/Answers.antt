use Rattle.std.proofs.Common.{◌∙◌}
use Rattle.fb_facts.specs.FactLists.{is_ref_to}
use Rattle.held_facts.specs.FactMaps.{fact_of_value}
use Rattle.held_facts.proofs.Ranges.{begun}
use Rattle.held_facts.proofs.Openings.{refs_open}
use Rattle.held_facts.proofs.fact_maps.FactMaps.refs_to.Goals as goal

pub loop-content-init : goal.loop-content-init
loop-content-init c =
    let range = c.range-content-items.ensures in
    begun fact_of_value (is_ref_to c.args.e) _ _ _ c.args.self.now.by_value.entries c.new-facts.ensures.items
    (c.into_iter-content-iterator.ensures.into_iter_gives ∙ range.between tt)
    (refs_open c.args.e c.args.self.now.by_value range.ordered)
