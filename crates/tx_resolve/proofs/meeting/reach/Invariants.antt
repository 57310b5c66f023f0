use Rattle.std.proofs.Common.{◌≡◌, ◌+◌, ◌-◌, ℕ, length, slice_index_or, None}
use Rattle.tx_resolve.proofs.meeting.reach.Given as goal

abbrev pub invariant-loop-places : goal.invariant-loop-places
invariant-loop-places l = (k : ℕ) → slice_index_or l.places.items k None ≡ slice_index_or l.initial.places.items k None

abbrev pub decreases-loop-places : goal.decreases-loop-places
decreases-loop-places l = l.n + 1 - length l.places.items
