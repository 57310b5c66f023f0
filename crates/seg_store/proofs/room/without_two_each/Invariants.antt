use Rattle.std.proofs.Common.{◌≡◌, ◌*◌, ◌-◌, drop, length, map}
use Rattle.std.specs.Arc.{arc_value}
use Rattle.seg_tree.specs.Ids.{node_ids}
use Rattle.seg_store.proofs.room.without_two_each.Given as goal

abbrev pub invariant-loop-directory : goal.invariant-loop-directory
invariant-loop-directory l =
    l.left - 2 * length (node_ids (map arc_value (drop l.directory-index l.directory-items))) ≡ l.count - 2 * length (node_ids l.tree)
