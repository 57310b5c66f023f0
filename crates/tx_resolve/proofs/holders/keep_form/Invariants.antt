use Rattle.std.proofs.Common.{◌≡◌, ◌≤◌, length, drop}
use Rattle.tx_resolve.specs.Holders.{slots_of}
use Rattle.tx_resolve.proofs.holders.keep_form.Given as goal

abbrev pub invariant-loop-i : goal.invariant-loop-i
invariant-loop-i l = record {
  in_range : l.i ≤ length l.drafts;
  kept : l.slots ≡ slots_of l.initial.slots (drop l.i l.drafts);
}

abbrev pub decreases-loop-i : goal.decreases-loop-i
decreases-loop-i l = l.i
