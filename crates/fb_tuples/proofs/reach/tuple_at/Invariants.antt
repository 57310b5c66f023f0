-- The members of the attributes so far.
use Rattle.std.proofs.Common.{take}
use Rattle.fb_db.specs.Seen.{window_of}
use Rattle.tuple_model.specs.Seen.{AreMembers}
use Rattle.fb_tuples.specs.Lent.{tuple_lent}
use Rattle.fb_tuples.proofs.reach.tuple_at.Given as goal

abbrev pub invariant-loop-a : goal.invariant-loop-a
invariant-loop-a g l =
    AreMembers l.fn.db.snapshot.entries (window_of l.fn.db) (g.S.Selector.selects l.fn.db.filter) l.fn.e (take l.a-index l.fn.attrs)
    (tuple_lent l.tuple.items)
