use Rattle.std.proofs.Common.{◌≡◌, ◌++◌, take}
use Rattle.log_sweep.specs.Groups.{lent}
use Rattle.log_sweep.proofs.gathered.push_datoms.Given as goal

abbrev pub invariant-loop-d : goal.invariant-loop-d
invariant-loop-d l = lent l.list.items ≡ lent l.initial.list.items ++ take l.d-index l.fn.entry.datoms
