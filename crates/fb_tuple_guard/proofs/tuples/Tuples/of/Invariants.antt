-- The members so far.
use Rattle.std.proofs.Common.{◌≡◌, take}
use Rattle.tuple_model.specs.Tuples.{tuple_of}
use Rattle.fb_tuple_guard.specs.Sharing.{facts_after}
use Rattle.fb_tuple_guard.proofs.tuples.Tuples.of.Given as goal

abbrev pub invariant-loop-a : goal.invariant-loop-a
invariant-loop-a l = l.tuple.items ≡ tuple_of (facts_after l.fn.self) (take l.a-index l.fn.self.attrs.now) l.fn.e
