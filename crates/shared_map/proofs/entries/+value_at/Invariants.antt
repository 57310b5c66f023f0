use Rattle.std.proofs.Common.{length}
use Rattle.shared_map.proofs.entries.+value_at.Given as goal

abbrev pub decreases-value_at : goal.decreases-value_at
decreases-value_at g l = length l.tree.now.0
