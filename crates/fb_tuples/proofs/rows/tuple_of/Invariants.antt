-- The first values in the lists so far.
use Rattle.std.proofs.Common.{◌≡◌, map, take}
use Rattle.fb_tuples.specs.Lent.{tuple_lent, lists_lent}
use Rattle.fb_tuples.specs.Gathered.{first_of}
use Rattle.fb_tuples.proofs.rows.tuple_of.Given as goal

abbrev pub invariant-loop-list : goal.invariant-loop-list
invariant-loop-list l = tuple_lent l.tuple.items ≡ map (first_of l.fn.e) (lists_lent (take l.list-index l.fn.lists))
