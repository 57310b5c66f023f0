use Rattle.std.proofs.Common.{◌≡◌, ◌++◌, map}
use Rattle.std.specs.Prelude.{filter}
use Rattle.fb_facts.specs.FactLists.{is_ref_to}
use Rattle.held_facts.specs.FactMaps.{fact_of_value, facts_by_value}
use Rattle.held_facts.proofs.Ranges.{ComeFirst}
use Rattle.held_facts.proofs.fact_maps.FactMaps.refs_to.Given as goal

abbrev pub invariant-loop-content : goal.invariant-loop-content
invariant-loop-content l =
    (l.facts.items ++ filter (is_ref_to l.e) (map fact_of_value l.content-iterator) ≡ filter (is_ref_to l.e) (facts_by_value l.self))
    × ComeFirst (is_ref_to l.e) (map fact_of_value l.content-iterator)
