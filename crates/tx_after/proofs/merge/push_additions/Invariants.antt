use Rattle.std.proofs.Common.{◌≡◌, ◌++◌, drop}
use Rattle.std.specs.Prelude.{filter}
use Rattle.tx_after.specs.Triples.{is_added}
use Rattle.tx_after.proofs.merge.push_additions.Given as goal

abbrev pub invariant-loop-d : goal.invariant-loop-d
invariant-loop-d l = l.list.items ++ filter is_added (drop l.d-index l.changes) ≡ l.fn.list.items ++ filter is_added l.changes
