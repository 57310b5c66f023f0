use Rattle.std.proofs.Common.{◌≡◌, ◌++◌, map, take}
use Rattle.std.specs.Arc.{arc_value}
use Rattle.seg_tree.proofs.tree.with_leaves.Given as goal

-- those of the directory so far
abbrev pub invariant-loop-leaf : goal.invariant-loop-leaf
invariant-loop-leaf l =
    map arc_value l.leaves.items ≡ map arc_value l.initial.leaves.items ++ map arc_value (take l.leaf-index l.leaf-items)
