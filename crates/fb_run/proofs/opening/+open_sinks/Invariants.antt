-- A script fewer each time.
use Rattle.std.proofs.Common.{length}
use Rattle.fb_run.proofs.opening.+open_sinks.Given as goal

abbrev pub decreases-open_sinks : goal.decreases-open_sinks
decreases-open_sinks g l = length l.scripts.now
