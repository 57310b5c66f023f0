use Rattle.std.proofs.Common.{◌≡◌, ◌++◌, drop, map}
use Rattle.std.specs.Prelude.{filter_map}
use Rattle.fb_model.specs.Schema.{entity_in}
use Rattle.fb_pull.proofs.facts.entities.Given as goal

abbrev pub invariant-loop-d : goal.invariant-loop-d
invariant-loop-d l =
    l.list.items ++ filter_map entity_in (map (λ d. d.now.v) (drop l.d-index l.datoms)) ≡ filter_map entity_in (map (λ d. d.now.v) l.datoms)
