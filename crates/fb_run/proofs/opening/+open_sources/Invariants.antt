-- A script fewer each time.
use Rattle.std.proofs.Common.{length}
use Rattle.fb_run.proofs.opening.+open_sources.Given as goal

abbrev pub decreases-open_sources : goal.decreases-open_sources
decreases-open_sources g l = length l.scripts.now
