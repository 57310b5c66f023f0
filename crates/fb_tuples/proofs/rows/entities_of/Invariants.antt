-- The entities of the lists so far.
use Rattle.std.proofs.Common.{◌≡◌, take}
use Rattle.fb_tuples.specs.Lent.{lists_lent}
use Rattle.fb_tuples.specs.Gathered.{entities_in}
use Rattle.fb_tuples.proofs.rows.entities_of.Given as goal

abbrev pub invariant-loop-list : goal.invariant-loop-list
invariant-loop-list l = l.entities.items ≡ entities_in (lists_lent (take l.list-index l.fn.lists))
