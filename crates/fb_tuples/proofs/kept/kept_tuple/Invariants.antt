-- The members so far.
use Rattle.std.proofs.Common.{◌≡◌, take}
use Rattle.fb_tuples.specs.Lent.{tuple_lent}
use Rattle.fb_tuples.proofs.kept.kept_tuple.Given as goal

abbrev pub invariant-loop-member : goal.invariant-loop-member
invariant-loop-member l = l.kept.items ≡ tuple_lent (take l.member-index l.fn.tuple)
