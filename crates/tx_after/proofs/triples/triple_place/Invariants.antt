use Rattle.std.proofs.Common.{◌-◌, ◌≤◌, length}
use Rattle.tx_after.specs.Places as places
use Rattle.tx_after.proofs.triples.triple_place.Given as goal

-- the place lies between the two ends
abbrev pub invariant-loop-from : goal.invariant-loop-from
invariant-loop-from l = record {
  ends : l.from ≤ l.to;
  within : l.to ≤ length l.changes;
  behind : l.from ≤ places.triple_place l.e l.a l.v l.changes;
  upto : places.triple_place l.e l.a l.v l.changes ≤ l.to;
}

abbrev pub decreases-loop-from : goal.decreases-loop-from
decreases-loop-from l = l.to - l.from
