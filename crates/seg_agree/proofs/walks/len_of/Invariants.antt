use Rattle.std.proofs.Common.{◌≡◌, ◌≤◌, ◌+◌, ◌*◌, drop, length, map}
use Rattle.std.specs.Arc.{arc_value}
use Rattle.seg_tree.specs.Nodes.{leaf_datoms}
use Rattle.seg_agree.proofs.walks.len_of.Given as goal

abbrev pub invariant-loop-leaf : goal.invariant-loop-leaf
invariant-loop-leaf l = record {
  rest : l.len + length (leaf_datoms (map arc_value (drop l.leaf-index l.leaf-items))) ≡ length (leaf_datoms l.directory.leaves);
  small : l.len ≤ 512 * l.leaf-index;
}
