use Rattle.std.proofs.Common.{◌≡◌, ◌≤◌, true, length, drop}
use Rattle.tx_after.specs.Promises as promises
use Rattle.tx_after.proofs.promises.are_of_other_values.Given as goal

abbrev pub invariant-loop-i : goal.invariant-loop-i
invariant-loop-i l = record {
  in_range : l.i ≤ length l.facts;
  apart : promises.are_of_other_values (drop l.i l.facts) ≡ true;
  has_met : promises.HasValues l.met (drop l.i l.facts);
}

abbrev pub decreases-loop-i : goal.decreases-loop-i
decreases-loop-i l = l.i
