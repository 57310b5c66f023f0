use Rattle.std.proofs.Common.{◌≡◌, ◌++◌, map}
use Rattle.std.specs.Prelude.{filter}
use Rattle.fb_facts.specs.FactLists.{is_under}
use Rattle.held_facts.specs.FactMaps.{fact_of_attribute, facts_by_attribute}
use Rattle.held_facts.proofs.Ranges.{ComeFirst}
use Rattle.held_facts.proofs.fact_maps.FactMaps.facts_under.Given as goal

abbrev pub invariant-loop-place : goal.invariant-loop-place
invariant-loop-place l =
    (l.facts.items ++ filter (is_under l.a) (map fact_of_attribute l.place-iterator) ≡ filter (is_under l.a) (facts_by_attribute l.self))
    × ComeFirst (is_under l.a) (map fact_of_attribute l.place-iterator)
