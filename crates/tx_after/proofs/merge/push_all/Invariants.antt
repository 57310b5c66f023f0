use Rattle.std.proofs.Common.{◌≡◌, ◌++◌, drop}
use Rattle.tx_after.proofs.merge.push_all.Given as goal

abbrev pub invariant-loop-d : goal.invariant-loop-d
invariant-loop-d l = l.list.items ++ drop l.d-index l.datoms ≡ l.fn.list.items ++ l.datoms
