use Rattle.std.proofs.Common.{◌≡◌, ◌≤◌, drop}
use Rattle.log_sweep.specs.Groups.{lent}
use Rattle.log_sweep.specs.Sweeps.{keeps_swept}
use Rattle.log_sweep.proofs.sweep.keeps_swept.Given as goal

abbrev pub invariant-loop-i : goal.invariant-loop-i
invariant-loop-i l = record {
  few : l.standing ≤ l.i;
  left : keeps_swept l.law l.schema l.standing (lent (drop l.i l.sorted)) ≡ keeps_swept l.law l.schema 0 (lent l.sorted);
}
