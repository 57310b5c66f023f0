use Rattle.std.proofs.Common.{◌≡◌, ◌||◌, ℕ, map, take}
use Rattle.std.specs.Arc.{arc_value}
use Rattle.log_model.specs.Nodes.{is_among}
use Rattle.seg_tree.specs.Ids.{leaf_ids}
use Rattle.seg_codec.proofs.wanted.add_leaves.Given as goal

-- those of the leaves so far
abbrev pub invariant-loop-leaf : goal.invariant-loop-leaf
invariant-loop-leaf l = (id : ℕ)
    → is_among l.ids id ≡ (is_among l.fn.ids id || is_among (leaf_ids (map arc_value (take l.leaf-index l.leaves.items))) id)
