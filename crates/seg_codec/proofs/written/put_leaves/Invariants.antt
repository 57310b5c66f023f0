use Rattle.std.proofs.Common.{◌≡◌, ◌++◌, length, take}
use Rattle.std.specs.Prelude.{flat_map}
use Rattle.std.specs.Arc.{arc_value}
use Rattle.log_model.specs.Fields.{u32_bytes}
use Rattle.log_model.specs.Nodes.{leaf_bytes}
use Rattle.seg_tree.specs.Nodes.{LeafNode}
use Rattle.seg_codec.specs.Trees.{file_leaf}
use Rattle.seg_codec.proofs.written.put_leaves.Given as goal

abbrev pub invariant-loop-leaf : goal.invariant-loop-leaf
invariant-loop-leaf l =
    l.out.items ≡ (l.fn.out.items ++ u32_bytes (length l.leaves.items)) ++ flat_map (λ leaf. leaf_bytes (file_leaf
    (arc_value {X = LeafNode} leaf))) (take l.leaf-index l.leaves.items)
