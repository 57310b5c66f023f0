use Rattle.std.proofs.Common.{◌≡◌, map, take}
use Rattle.std.specs.Arc.{arc_value}
use Rattle.seg_tree.specs.Nodes.{tree_leaves}
use Rattle.seg_tree.proofs.tree.Tree.leaves.Given as goal

-- those of the directories so far
abbrev pub invariant-loop-directory : goal.invariant-loop-directory
invariant-loop-directory l = map arc_value l.leaves.items ≡ tree_leaves (map arc_value (take l.directory-index l.directory-items))
