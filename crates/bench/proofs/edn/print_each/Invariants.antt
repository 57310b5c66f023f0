use Rattle.std.proofs.Common.{◌-◌, length}
use Rattle.bench.proofs.edn.print_each.Given as goal

abbrev pub decreases-loop-form : goal.decreases-loop-form
decreases-loop-form g l = length l.bytes - l.at
