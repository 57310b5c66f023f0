use Rattle.std.proofs.Common.{◌-◌, ◌≤◌, length}
use Rattle.fb_search.specs.Places.{place_of, probe_of}
use Rattle.live_runs.specs.Members.{datom_of, held_by}
use Rattle.live_runs.proofs.members.place_among.Given as goal

-- the place lies between the two ends
abbrev pub invariant-loop-from : goal.invariant-loop-from
invariant-loop-from g l =
    record {
      ends : l.from ≤ l.to;
      within : l.to ≤ length l.others;
      behind : l.from ≤ place_of (probe_of l.order (datom_of l.table l.m.number)) (held_by g.N.Numbered.member_of l.table l.others);
      upto : place_of (probe_of l.order (datom_of l.table l.m.number)) (held_by g.N.Numbered.member_of l.table l.others) ≤ l.to;
    }

abbrev pub decreases-loop-from : goal.decreases-loop-from
decreases-loop-from g l = l.to - l.from
