use Rattle.std.proofs.Common.{◌≡◌, ◌≤◌, ◌^◌, map, take}
use Rattle.std.specs.Arc.{arc_value}
use Rattle.seg_tree.specs.Ids.{node_ids, next_above}
use Rattle.seg_tree.proofs.tree.next_id_of.Given as goal

-- above the ids of the directories so far
abbrev pub invariant-loop-directory : goal.invariant-loop-directory
invariant-loop-directory l = record {
  is : l.next ≡ next_above (node_ids (map arc_value (take l.directory-index l.directories.items)));
  small : l.next ≤ 2 ^ 62;
}
