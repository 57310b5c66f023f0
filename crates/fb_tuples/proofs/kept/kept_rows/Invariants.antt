-- The rows so far.
use Rattle.std.proofs.Common.{◌≡◌, map, take}
use Rattle.fb_tuples.specs.Lent.{model_row}
use Rattle.fb_tuples.proofs.kept.kept_rows.Given as goal

abbrev pub invariant-loop-row : goal.invariant-loop-row
invariant-loop-row l = l.kept.items ≡ map model_row (take l.row-index l.fn.rows)
