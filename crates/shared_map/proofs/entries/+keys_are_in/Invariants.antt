use Rattle.std.proofs.Common.{length}
use Rattle.shared_map.proofs.entries.+keys_are_in.Given as goal

abbrev pub decreases-keys_are_in : goal.decreases-keys_are_in
decreases-keys_are_in g l = length l.tree.now.0
