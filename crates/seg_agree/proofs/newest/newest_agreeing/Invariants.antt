use Rattle.std.proofs.Common.{vec_len}
use Rattle.seg_agree.proofs.Descending.{IsPassed}
use Rattle.seg_agree.proofs.newest.newest_agreeing.Given as goal

abbrev pub invariant-loop-trees : goal.invariant-loop-trees
invariant-loop-trees l = IsPassed l.entries l.initial.older.items l.older.items

abbrev pub decreases-loop-trees : goal.decreases-loop-trees
decreases-loop-trees l = vec_len l.older
