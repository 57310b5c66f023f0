use Rattle.std.proofs.Common.{length}
use Rattle.seg_tree.proofs.build.Builder.+add.Given as goal

abbrev pub decreases-add : goal.decreases-add
decreases-add l = length l.datoms.items
