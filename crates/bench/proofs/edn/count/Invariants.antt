use Rattle.std.proofs.Common.{◌-◌, length}
use Rattle.bench.proofs.edn.count.Given as goal

abbrev pub decreases-loop-form : goal.decreases-loop-form
decreases-loop-form l = length l.bytes - l.at
