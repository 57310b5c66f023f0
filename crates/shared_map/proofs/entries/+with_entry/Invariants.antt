use Rattle.std.proofs.Common.{length}
use Rattle.std.specs.Arc.{arc_value}
use Rattle.shared_map.proofs.entries.+with_entry.Given as goal

abbrev pub decreases-with_entry : goal.decreases-with_entry
decreases-with_entry g l = length (arc_value l.tree.now).0
