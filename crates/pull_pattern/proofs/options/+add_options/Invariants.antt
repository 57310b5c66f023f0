-- Two forms fewer each time.
use Rattle.std.proofs.Common.{length}
use Rattle.pull_pattern.proofs.options.+add_options.Given as goal

abbrev pub decreases-add_options : goal.decreases-add_options
decreases-add_options l = length l.forms.now
