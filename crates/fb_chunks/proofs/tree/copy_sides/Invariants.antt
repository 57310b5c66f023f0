use Rattle.std.proofs.Common.{◌≡◌, map, take}
use Rattle.std.specs.Arc.{arc_value}
use Rattle.fb_chunks.proofs.tree.copy_sides.Given as goal

abbrev pub invariant-loop-side : goal.invariant-loop-side
invariant-loop-side g l = map arc_value l.copy.items ≡ map arc_value (take l.side-index l.sides)
