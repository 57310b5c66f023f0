-- What was pushed.
use Rattle.std.proofs.Common.{◌≡◌, ◌++◌, map, take}
use Rattle.fb_tuples.specs.Lent.{datoms_lent}
use Rattle.fb_tuples.proofs.rows.push_entities.Given as goal

abbrev pub invariant-loop-d : goal.invariant-loop-d
invariant-loop-d l = l.entities.items ≡ l.initial.entities.items ++ map (λ d. d.e) (datoms_lent (take l.d-index l.fn.list))
