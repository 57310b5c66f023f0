use Rattle.std.proofs.Common.{map, take}
use Rattle.std.specs.Arc.{arc_value}
use Rattle.seg_codec.specs.Answers.{AreFound}
use Rattle.seg_codec.proofs.roots.tree_of.Given as goal

abbrev pub invariant-loop-id : goal.invariant-loop-id
invariant-loop-id l = AreFound l.nodes (take l.id-index l.ids.items) (map arc_value l.directories.items)
