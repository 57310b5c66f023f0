use Rattle.std.proofs.Common.{map, take}
use Rattle.std.specs.Prelude.{All}
use Rattle.std.specs.Arc.{arc_value}
use Rattle.seg_store.specs.Counts.{IsSmallLeaf}
use Rattle.seg_store.proofs.counts.know_leaves.Given as goal

abbrev pub invariant-loop-leaf : goal.invariant-loop-leaf
invariant-loop-leaf l = All IsSmallLeaf (map arc_value (take l.leaf-index l.leaves))
