use Rattle.std.proofs.Common.{◌-◌}
use Rattle.real_ports.proofs.synced.write_again.Given as goal

abbrev pub decreases-loop-at : goal.decreases-loop-at
decreases-loop-at l = l.len - l.at
