-- A member fewer each time.
use Rattle.std.proofs.Common.{length}
use Rattle.fb_tuple_guard.proofs.tuples.+is_same.Given as goal

abbrev pub decreases-is_same : goal.decreases-is_same
decreases-is_same l = length l.tuple.now
