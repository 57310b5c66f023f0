-- The entities of the changes so far.
use Rattle.std.proofs.Common.{◌≡◌, map, take}
use Rattle.fb_tuples.proofs.renewed.entities_of.Given as goal

abbrev pub invariant-loop-d : goal.invariant-loop-d
invariant-loop-d l = l.entities.items ≡ map (λ d. d.e) (take l.d-index l.fn.changes)
