use Rattle.std.proofs.Common.{refl}
use Rattle.fb_run.proofs.copying.copy_trees.Goals as goal

pub returns-in-Ok-clause-ended : goal.returns-in-Ok-clause-ended
returns-in-Ok-clause-ended g c = (refl, record { copy = c.in-Ok.ensures.copy; unfailed = c.in-Ok.ensures.counted })
