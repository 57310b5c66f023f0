-- The rows of other entities so far.
use Rattle.std.proofs.Common.{◌≡◌, take}
use Rattle.fb_tuples.specs.Indexed.{rows_of_others}
use Rattle.fb_tuples.proofs.renewed.others.Given as goal

abbrev pub invariant-loop-row : goal.invariant-loop-row
invariant-loop-row l = l.others.items ≡ rows_of_others l.fn.entities (take l.row-index l.fn.rows)
