use Rattle.std.proofs.Common.{◌≡◌, ◌≤◌, true, length, drop}
use Rattle.tx_laws.specs.Additions as additions
use Rattle.tx_laws.proofs.values.singles_are_apart.Given as goal

abbrev pub invariant-loop-i : goal.invariant-loop-i
invariant-loop-i l = record {
  in_range : l.i ≤ length l.datoms;
  apart : additions.are_apart (additions.is_single l.schema l.altered) (drop l.i l.datoms) ≡ true;
  has : additions.HasPlaces l.met (additions.is_single l.schema l.altered) (drop l.i l.datoms);
}

abbrev pub decreases-loop-i : goal.decreases-loop-i
decreases-loop-i l = l.i
