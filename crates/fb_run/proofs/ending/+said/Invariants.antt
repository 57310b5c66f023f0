-- A script fewer each time.
use Rattle.std.proofs.Common.{length}
use Rattle.fb_run.proofs.ending.+said.Given as goal

abbrev pub decreases-said : goal.decreases-said
decreases-said g l = length l.scripts.now
