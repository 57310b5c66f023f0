-- The rows of the entities so far.
use Rattle.std.proofs.Common.{◌≡◌, ◌++◌, take}
use Rattle.tx_after.specs.After.{after}
use Rattle.fb_tuples.specs.Indexed.{rows_anew}
use Rattle.fb_tuples.proofs.renewed.push_anew.Given as goal

abbrev pub invariant-loop-e : goal.invariant-loop-e
invariant-loop-e l =
    l.rows.items ≡ l.initial.rows.items ++ rows_anew (after l.fn.before.entries l.fn.changes) l.fn.attrs (take l.e-index l.fn.entities)
