use Rattle.std.proofs.Common.{◌≡◌, false, map, take}
use Rattle.std.specs.Arc.{arc_value}
use Rattle.log_model.specs.Nodes.{is_among}
use Rattle.seg_tree.specs.Ids.{leaf_ids}
use Rattle.seg_codec.proofs.directories.is_listed.Given as goal

abbrev pub invariant-loop-leaf : goal.invariant-loop-leaf
invariant-loop-leaf l = is_among (leaf_ids (map arc_value (take l.leaf-index l.leaves.items))) l.id ≡ false
