use Rattle.std.proofs.Common.{map, take}
use Rattle.std.specs.Arc.{arc_value}
use Rattle.std.specs.List.{All}
use Rattle.seg_tree.specs.Chunks.{AreFirsts}
use Rattle.seg_tree.specs.Nodes.{leaf_datoms, StartsFull}
use Rattle.seg_tree.proofs.tree.firsts_of.Given as goal

-- those of the directories so far
abbrev pub invariant-loop-directory : goal.invariant-loop-directory
invariant-loop-directory l = record {
  firsts : AreFirsts l.firsts.items (map (λ d. leaf_datoms d.leaves) (map arc_value (take l.directory-index l.directories.items)));
  starts : All StartsFull (map arc_value (take l.directory-index l.directories.items));
}
