use Rattle.std.proofs.Common.{◌+◌}
use Rattle.bench.specs.Entries.{LiveIsBefore}
use Rattle.bench.proofs.live.install_each.Given as goal

abbrev pub invariant-loop-i : goal.invariant-loop-i
invariant-loop-i l = LiveIsBefore l.index.covers (l.n + l.i) l.index.live
