use Rattle.std.proofs.Common.{◌-◌, ◌≤◌, length}
use Rattle.fb_names.specs.Early.{count_early}
use Rattle.fb_names.proofs.instants.count_early.Given as goal

-- the end of the early entries lies between the two
abbrev pub invariant-loop-from : goal.invariant-loop-from
invariant-loop-from l =
    record {
      ends : l.from ≤ l.to;
      within : l.to ≤ length l.entries;
      behind : l.from ≤ count_early l.entries l.early;
      upto : count_early l.entries l.early ≤ l.to;
    }

abbrev pub decreases-loop-from : goal.decreases-loop-from
decreases-loop-from l = l.to - l.from
