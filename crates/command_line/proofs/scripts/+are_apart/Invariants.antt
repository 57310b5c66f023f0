-- A name fewer each time.
use Rattle.std.proofs.Common.{length}
use Rattle.command_line.proofs.scripts.+are_apart.Given as goal

abbrev pub decreases-are_apart : goal.decreases-are_apart
decreases-are_apart l = length l.names.now
