-- The rows of the entities so far.
use Rattle.std.proofs.Common.{◌≡◌, map, take}
use Rattle.fb_tuples.specs.Lent.{model_row, lists_lent}
use Rattle.fb_tuples.specs.Gathered.{row_in}
use Rattle.fb_tuples.proofs.rows.rows_of.Given as goal

abbrev pub invariant-loop-e : goal.invariant-loop-e
invariant-loop-e l = map model_row l.rows.items ≡ map (row_in (lists_lent l.fn.lists)) (take l.e-index l.fn.entities)
