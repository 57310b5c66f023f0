use Rattle.std.proofs.Common.{length, ◌-◌, ◌≤◌}
use Rattle.tx_after.specs.Places.{front_of}
use Rattle.tx_after.proofs.parts.front_of.Given as goal

abbrev pub invariant-loop-to : goal.invariant-loop-to
invariant-loop-to l = record { within : l.to ≤ length l.datoms; upto : l.to ≤ front_of l.e l.datoms }

abbrev pub decreases-loop-to : goal.decreases-loop-to
decreases-loop-to l = length l.datoms - l.to
