-- A name fewer each time.
use Rattle.std.proofs.Common.{length}
use Rattle.command_line.proofs.scripts.+clashes.Given as goal

abbrev pub decreases-clashes : goal.decreases-clashes
decreases-clashes l = length l.others.now
