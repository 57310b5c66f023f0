use Rattle.std.proofs.Common.{◌≡◌, ◌++◌, not, map, take}
use Rattle.std.specs.Prelude.{filter}
use Rattle.std.specs.Arc.{arc_value}
use Rattle.log_model.specs.Nodes.{is_among}
use Rattle.seg_tree.specs.Nodes.{LeafNode}
use Rattle.seg_codec.proofs.written.add_new_leaves.Given as goal

abbrev pub invariant-loop-leaf : goal.invariant-loop-leaf
invariant-loop-leaf l =
    map arc_value l.new.items ≡ map arc_value l.fn.new.items ++ filter (λ (leaf : LeafNode). not (is_among l.in_file leaf.id))
    (map arc_value (take l.leaf-index l.leaf-items))
