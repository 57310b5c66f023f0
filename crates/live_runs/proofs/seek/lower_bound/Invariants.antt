use Rattle.std.proofs.Common.{◌-◌, ℕ, ◌+◌, ◌^◌, ◌<◌, ◌≤◌, length}
use Rattle.fb_search.specs.Places.{place_of}
use Rattle.live_runs.specs.Members.{held_by}
use Rattle.live_runs.proofs.seek.lower_bound.Given as goal

-- The place lies between the two ends, and what is between them has as many binary digits as comparisons are left.
abbrev pub invariant-loop-from : goal.invariant-loop-from
invariant-loop-from g l =
    record {
      ends : l.from ≤ l.to;
      within : l.to ≤ length l.others;
      behind : l.from ≤ place_of l.aim (held_by g.N.Numbered.member_of l.table l.others);
      upto : place_of l.aim (held_by g.N.Numbered.member_of l.table l.others) ≤ l.to;
      left : (digits : ℕ) → length l.others < 2 ^ digits
          → (few : ℕ) × (l.to - l.from < 2 ^ few) × (l.steps + few ≤ l.initial.steps + digits);
    }

abbrev pub decreases-loop-from : goal.decreases-loop-from
decreases-loop-from g l = l.to - l.from
