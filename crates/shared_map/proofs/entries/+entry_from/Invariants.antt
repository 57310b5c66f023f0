use Rattle.std.proofs.Common.{length}
use Rattle.shared_map.proofs.entries.+entry_from.Given as goal

abbrev pub decreases-entry_from : goal.decreases-entry_from
decreases-entry_from g l = length l.tree.now.0
