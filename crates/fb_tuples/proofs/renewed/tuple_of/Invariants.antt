-- The members of the attributes so far.
use Rattle.std.proofs.Common.{◌≡◌, take}
use Rattle.tuple_model.specs.Tuples.{tuple_of}
use Rattle.tx_after.specs.After.{after}
use Rattle.fb_tuples.proofs.renewed.tuple_of.Given as goal

abbrev pub invariant-loop-a : goal.invariant-loop-a
invariant-loop-a l = l.tuple.items ≡ tuple_of (after l.fn.before.entries l.fn.changes) (take l.a-index l.fn.attrs) l.fn.e
