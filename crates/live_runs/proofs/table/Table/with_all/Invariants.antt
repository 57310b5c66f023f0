use Rattle.std.proofs.Common.{◌≡◌, ◌++◌, take}
use Rattle.live_runs.proofs.table.Table.with_all.Given as goal

abbrev pub invariant-loop-d : goal.invariant-loop-d
invariant-loop-d l = l.table ≡ l.self ++ take l.d-index l.datoms
