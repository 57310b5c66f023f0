use Rattle.std.proofs.Common.{◌≡◌, take}
use Rattle.live_runs.proofs.table.copy_last.Given as goal

abbrev pub invariant-loop-d : goal.invariant-loop-d
invariant-loop-d l = l.copy.items ≡ take l.d-index l.last.items
