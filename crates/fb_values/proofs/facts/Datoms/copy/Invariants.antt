use Rattle.std.proofs.Common.{◌≡◌, take}
use Rattle.fb_values.proofs.facts.Datoms.copy.Given as goal

abbrev pub invariant-loop-datom : goal.invariant-loop-datom
invariant-loop-datom l = l.items.items ≡ take l.datom-index l.datom-items
