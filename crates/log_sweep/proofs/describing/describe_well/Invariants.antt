use Rattle.std.proofs.Common.{◌≡◌, drop}
use Rattle.std.specs.List.{list_all}
use Rattle.log_sweep.specs.Alone.{describes_well}
use Rattle.log_sweep.proofs.describing.describe_well.Given as goal

abbrev pub invariant-loop-d : goal.invariant-loop-d
invariant-loop-d l =
    list_all (describes_well l.before l.after) (drop l.d-index l.datoms) ≡ list_all (describes_well l.before l.after) l.datoms
