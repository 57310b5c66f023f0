use Rattle.std.proofs.Common.{◌≡◌, ◌+◌, ◌-◌, ◌≤◌, ◌++◌, length, drop, true}
use Rattle.tx_after.specs.Triples.{triples_rise, with_changes}
use Rattle.tx_after.proofs.merge.merged.Given as goal

abbrev pub invariant-loop-old : goal.invariant-loop-old
invariant-loop-old l = record {
  old_in : l.old ≤ length l.before;
  new_in : l.new ≤ length l.changes;
  so_far : l.after.items ++ with_changes l.order (drop l.old l.before) (drop l.new l.changes) ≡ with_changes l.order l.before l.changes;
  before_rises : triples_rise l.order (drop l.old l.before) ≡ true;
  changes_rise : triples_rise l.order (drop l.new l.changes) ≡ true;
}

abbrev pub decreases-loop-old : goal.decreases-loop-old
decreases-loop-old l = (length l.before - l.old) + (length l.changes - l.new)
