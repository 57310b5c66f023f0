use Rattle.std.proofs.Common.{map, take}
use Rattle.std.specs.Arc.{arc_value}
use Rattle.seg_tree.specs.Chunks.{AreFirsts}
use Rattle.seg_tree.proofs.nodes.firsts_of.Given as goal

-- those of the leaves so far
abbrev pub invariant-loop-leaf : goal.invariant-loop-leaf
invariant-loop-leaf l = AreFirsts l.firsts.items (map (λ leaf. leaf.datoms) (map arc_value (take l.leaf-index l.leaves.items)))
