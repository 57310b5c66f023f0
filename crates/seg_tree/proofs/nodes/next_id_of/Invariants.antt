use Rattle.std.proofs.Common.{◌≡◌, ◌≤◌, ◌^◌, [], ◌∷◌, ◌++◌, map, take}
use Rattle.std.specs.Arc.{arc_value}
use Rattle.seg_tree.specs.Ids.{leaf_ids, next_above}
use Rattle.seg_tree.proofs.nodes.next_id_of.Given as goal

-- above the directory's id and those of the leaves so far
abbrev pub invariant-loop-leaf : goal.invariant-loop-leaf
invariant-loop-leaf l = record {
  is : l.next ≡ next_above (leaf_ids (map arc_value (take l.leaf-index l.leaves.items)) ++ l.id ∷ []);
  small : l.next ≤ 2 ^ 62;
}
