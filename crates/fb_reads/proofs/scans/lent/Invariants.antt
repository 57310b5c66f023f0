use Rattle.std.proofs.Common.{◌≡◌, Bor, length, map, ◌++◌}
use Rattle.fb_values.specs.declared.facts.Entry.{Entry}
use Rattle.fb_reads.proofs.scans.lent.Given as goal

abbrev pub invariant-loop-entry : goal.invariant-loop-entry
invariant-loop-entry l = map (λ (entry : Bor Entry). entry.now) l.entries.items ++ l.txs ≡ l.fn.txs

abbrev pub decreases-loop-entry : goal.decreases-loop-entry
decreases-loop-entry l = length l.txs
