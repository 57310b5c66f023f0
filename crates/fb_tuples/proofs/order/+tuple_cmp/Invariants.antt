-- A member fewer each time.
use Rattle.std.proofs.Common.{length}
use Rattle.fb_tuples.proofs.order.+tuple_cmp.Given as goal

abbrev pub decreases-tuple_cmp : goal.decreases-tuple_cmp
decreases-tuple_cmp l = length l.tuple.now
