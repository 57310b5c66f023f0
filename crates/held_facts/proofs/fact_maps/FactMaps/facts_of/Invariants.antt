use Rattle.std.proofs.Common.{◌≡◌, ◌++◌, map}
use Rattle.std.specs.Prelude.{filter}
use Rattle.fb_facts.specs.FactLists.{is_of_entity}
use Rattle.held_facts.specs.FactMaps.{fact_of_entity, facts_by_entity}
use Rattle.held_facts.proofs.Ranges.{ComeFirst}
use Rattle.held_facts.proofs.fact_maps.FactMaps.facts_of.Given as goal

abbrev pub invariant-loop-place : goal.invariant-loop-place
invariant-loop-place l =
    (l.facts.items ++ filter (is_of_entity l.e) (map fact_of_entity l.place-iterator) ≡ filter (is_of_entity l.e) (facts_by_entity l.self))
    × ComeFirst (is_of_entity l.e) (map fact_of_entity l.place-iterator)
