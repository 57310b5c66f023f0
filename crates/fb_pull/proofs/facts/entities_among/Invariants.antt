use Rattle.std.proofs.Common.{◌≡◌, ◌++◌, eqb, take, drop, map}
use Rattle.std.specs.Prelude.{filter, filter_map}
use Rattle.fb_model.specs.Schema.{entity_in}
use Rattle.fb_pull.specs.Near.{lent}
use Rattle.fb_pull.proofs.facts.entities_among.Given as goal

abbrev pub invariant-loop-d : goal.invariant-loop-d
invariant-loop-d l =
    l.list.items ++ filter_map entity_in (map (λ d. d.v) (take l.left (filter (λ d. eqb d.a l.a) (drop l.d-index (lent l.datoms))))) ≡ filter_map
    entity_in (map (λ d. d.v) (take l.most (filter (λ d. eqb d.a l.a) (lent l.datoms))))
