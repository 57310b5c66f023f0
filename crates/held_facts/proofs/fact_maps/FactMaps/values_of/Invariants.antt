use Rattle.std.proofs.Common.{◌≡◌, ◌++◌, map}
use Rattle.std.specs.Prelude.{filter}
use Rattle.fb_values.specs.declared.facts.Datom.{Datom}
use Rattle.fb_model.specs.Schema.{is_about}
use Rattle.held_facts.specs.FactMaps.{fact_of_entity, facts_by_entity}
use Rattle.held_facts.proofs.Ranges.{ComeFirst}
use Rattle.held_facts.proofs.fact_maps.FactMaps.values_of.Given as goal

abbrev pub invariant-loop-place : goal.invariant-loop-place
invariant-loop-place l =
    (l.values.items ++ map (λ (d : Datom). d.v) (filter (is_about l.e l.a) (map fact_of_entity l.place-iterator))
    ≡ map (λ (d : Datom). d.v) (filter (is_about l.e l.a) (facts_by_entity l.self)))
    × ComeFirst (is_about l.e l.a) (map fact_of_entity l.place-iterator)
