use Rattle.std.proofs.Common.{◌≡◌, ◌≤◌, length, drop}
use Rattle.tx_resolve.specs.Holders.{slots_of}
use Rattle.tx_resolve.specs.Meeting.{drafts_in}
use Rattle.tx_resolve.proofs.holders.keep_holders.Given as goal

abbrev pub invariant-loop-i : goal.invariant-loop-i
invariant-loop-i l = record {
  in_range : l.i ≤ length l.forms;
  kept : l.slots ≡ slots_of l.initial.slots (drafts_in (drop l.i l.forms));
}

abbrev pub decreases-loop-i : goal.decreases-loop-i
decreases-loop-i l = l.i
