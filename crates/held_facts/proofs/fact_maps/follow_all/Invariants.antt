use Rattle.std.proofs.Common.{List, ◌++◌, take}
use Rattle.fb_values.specs.declared.facts.Datom.{Datom}
use Rattle.held_facts.specs.FactMaps.{HasFacts}
use Rattle.held_facts.proofs.fact_maps.follow_all.Given as goal

abbrev pub invariant-loop-d : goal.invariant-loop-d
invariant-loop-d l = (before : List Datom) → HasFacts before l.fn.kept → HasFacts (before ++ take l.d-index l.datoms) l.kept
