use Rattle.std.proofs.Common.{take}
use Rattle.std.specs.Prelude.{IsTrue}
use Rattle.std.specs.List.{All}
use Rattle.live_index.specs.Growth.{is_held}
use Rattle.seg_merge.proofs.leaf.are_each_held.Given as goal

-- those so far are held
abbrev pub invariant-loop-datom : goal.invariant-loop-datom
invariant-loop-datom l = All (λ d. IsTrue (is_held l.covers l.order d)) (take l.datom-index l.datoms)
