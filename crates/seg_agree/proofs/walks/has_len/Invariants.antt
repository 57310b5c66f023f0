use Rattle.std.proofs.Common.{◌≡◌, ◌+◌, drop, length, map}
use Rattle.std.specs.Arc.{arc_value}
use Rattle.seg_tree.specs.Nodes.{tree_datoms}
use Rattle.seg_agree.proofs.walks.has_len.Given as goal

abbrev pub invariant-loop-directory : goal.invariant-loop-directory
invariant-loop-directory l =
    l.len + length (tree_datoms (map arc_value (drop l.directory-index l.directory-items))) ≡ l.left + length (tree_datoms l.tree)
