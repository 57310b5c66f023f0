use Rattle.std.proofs.Common.{[], ◌∷◌, take}
use Rattle.log_sweep.specs.Alone.{KeepAlone, IsKnownOf}
use Rattle.log_sweep.proofs.alone.schema_after.Given as goal

abbrev pub invariant-loop-entry : goal.invariant-loop-entry
invariant-loop-entry l = record {
  keep : KeepAlone (l.first ∷ []) (take l.entry-index l.entries);
  known : IsKnownOf l.known (l.first ∷ take l.entry-index l.entries);
}
