use Rattle.std.proofs.Common.{map}
use Rattle.std.specs.Arc.{arc_value}
use Rattle.seg_merge.proofs.Planning.{IsPlanning}
use Rattle.seg_merge.proofs.order.planned.Given as goal

-- the leaves so far are planned
abbrev pub invariant-loop-place : goal.invariant-loop-place
invariant-loop-place l = IsPlanning l.order l.covers (map arc_value l.leaves) l.added l.place l.left l.plan
