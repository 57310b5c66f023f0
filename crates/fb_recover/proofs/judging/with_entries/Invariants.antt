use Rattle.std.proofs.Common.{◌≡◌, ◌∷◌}
use Rattle.fb_model.specs.FirstEntry.{first_entry}
use Rattle.fb_recover.proofs.judging.with_entries.Given as goal

abbrev pub invariant-loop-entry : goal.invariant-loop-entry
invariant-loop-entry l = l.history ≡ first_entry ∷ l.yielded
