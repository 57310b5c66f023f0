use Rattle.std.proofs.Common.{◌≡◌, drop}
use Rattle.std.specs.List.{list_any}
use Rattle.fb_checks.specs.Checks.{pred_of, fails}
use Rattle.fb_checks.proofs.values.fails_any.Given as goal

abbrev pub invariant-loop-pred : goal.invariant-loop-pred
invariant-loop-pred g l =
    list_any (λ pred. list_any (λ d. fails l.schema d (pred_of g.T.Check.passes pred)) l.changes) (drop l.pred-index l.preds)
    ≡ list_any (λ pred. list_any (λ d. fails l.schema d (pred_of g.T.Check.passes pred)) l.changes) l.preds
