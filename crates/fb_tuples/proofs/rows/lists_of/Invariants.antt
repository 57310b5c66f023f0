-- The lists of the attributes so far.
use Rattle.std.proofs.Common.{take}
use Rattle.fb_db.specs.Seen.{window_of}
use Rattle.fb_tuples.specs.Lent.{lists_lent}
use Rattle.fb_tuples.specs.Gathered.{AreLists}
use Rattle.fb_tuples.proofs.rows.lists_of.Given as goal

abbrev pub invariant-loop-a : goal.invariant-loop-a
invariant-loop-a g l =
    AreLists l.fn.db.snapshot.entries (window_of l.fn.db) (g.S.Selector.selects l.fn.db.filter) (take l.a-index l.fn.attrs)
    (lists_lent l.lists.items)
