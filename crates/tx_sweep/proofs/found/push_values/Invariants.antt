use Rattle.std.proofs.Common.{◌≡◌, ◌++◌, map}
use Rattle.tx_sweep.specs.Sweep.{value_at}
use Rattle.tx_sweep.proofs.found.push_values.Given as goal

abbrev pub invariant-loop-v : goal.invariant-loop-v
invariant-loop-v l = l.askings.items ≡ l.fn.askings.items ++ map (value_at l.place l.e l.a) l.yielded
