use Rattle.std.proofs.Common.{◌≡◌, ◌++◌, length, take}
use Rattle.std.specs.Prelude.{flat_map}
use Rattle.std.specs.Arc.{arc_value}
use Rattle.log_model.specs.Fields.{u32_bytes, u64_bytes}
use Rattle.seg_tree.specs.Nodes.{LeafNode}
use Rattle.seg_codec.proofs.written.put_directory.Given as goal

abbrev pub invariant-loop-leaf : goal.invariant-loop-leaf
invariant-loop-leaf l =
    l.out.items
    ≡ ((l.fn.out.items ++ u64_bytes l.directory.id) ++ u32_bytes (length l.leaves)) ++ flat_map
    (λ leaf. u64_bytes (arc_value {X = LeafNode} leaf).id) (take l.leaf-index l.leaves)
