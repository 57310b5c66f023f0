use Rattle.std.proofs.Common.{arith}
use Rattle.std.proofs.lemmas.Int.{ints, to_z-of_z}
use Rattle.std.proofs.lemmas.List.Sums.{fold_more}
use Rattle.fb_run.proofs.summary.total.Goals as goal

pub loop-datom-preserved : goal.loop-datom-preserved
loop-datom-preserved c = (grind (arith, ints, to_z-of_z, fold_more), omega (arith, ints), omega (arith, ints))
