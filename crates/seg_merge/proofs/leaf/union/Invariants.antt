use Rattle.std.proofs.Common.{take, drop}
use Rattle.std.specs.Prelude.{IsTrue}
use Rattle.live_index.specs.Growth.{is_held}
use Rattle.seg_merge.proofs.Midway.{IsMidway}
use Rattle.seg_merge.proofs.leaf.union.Given as goal

-- the added datoms so far stand among the older ones before them
abbrev pub invariant-loop-datom : goal.invariant-loop-datom
invariant-loop-datom l =
    IsMidway l.order (λ d. IsTrue (is_held l.covers l.order d)) l.old l.rest (take l.datom-index l.added)
    (drop l.datom-index l.added) l.all.items
