use Rattle.std.proofs.Common.{map}
use Rattle.std.specs.Arc.{arc_value}
use Rattle.fact_trees.proofs.Walking.{IsMade}
use Rattle.fact_trees.proofs.facts.tree_of_facts.Given as goal

-- the tree of the leaves so far
abbrev pub invariant-loop-place : goal.invariant-loop-place
invariant-loop-place l = IsMade l.first (map arc_value l.leaves.items) l.place l.facts
