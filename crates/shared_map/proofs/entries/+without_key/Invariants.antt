use Rattle.std.proofs.Common.{length}
use Rattle.std.specs.Arc.{arc_value}
use Rattle.shared_map.proofs.entries.+without_key.Given as goal

abbrev pub decreases-without_key : goal.decreases-without_key
decreases-without_key g l = length (arc_value l.tree.now).0
