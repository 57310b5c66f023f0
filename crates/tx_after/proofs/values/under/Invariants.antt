use Rattle.std.proofs.Common.{◌≡◌, ◌++◌, drop}
use Rattle.std.specs.Prelude.{filter}
use Rattle.fb_facts.specs.FactLists.{is_under}
use Rattle.tx_after.proofs.values.under.Given as goal

abbrev pub invariant-loop-d : goal.invariant-loop-d
invariant-loop-d l = l.told.items ++ filter (is_under l.a) (drop l.d-index l.changes) ≡ filter (is_under l.a) l.changes
