use Rattle.std.proofs.Common.{◌≡◌, ◌-◌, ◌≤◌, length, drop}
use Rattle.fb_values.specs.declared.indexes.Order.TheVariants.{Eavt}
use Rattle.fb_values.specs.Rising.{rises}
use Rattle.tx_laws.proofs.datoms.rise.Given as goal

abbrev pub invariant-loop-i : goal.invariant-loop-i
invariant-loop-i l = record {
  from_one : 1 ≤ l.i;
  left : rises Eavt (drop (l.i - 1) l.datoms) ≡ rises Eavt l.datoms;
}

abbrev pub decreases-loop-i : goal.decreases-loop-i
decreases-loop-i l = length l.datoms - l.i
