use Rattle.std.proofs.Common.{◌≡◌, ◌∷◌, take}
use Rattle.fb_model.specs.History.{said}
use Rattle.log_sweep.specs.Groups.{lent}
use Rattle.log_sweep.proofs.gathered.datoms_of.Given as goal

abbrev pub invariant-loop-entry : goal.invariant-loop-entry
invariant-loop-entry l = lent l.list.items ≡ said (l.fn.first ∷ take l.entry-index l.fn.entries)
