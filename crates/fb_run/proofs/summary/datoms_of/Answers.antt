use Rattle.std.proofs.Common.{sym, subst}
use Rattle.std.specs.Prelude.{IfOk}
use Rattle.fb_db.specs.Seen.{window_of}
use Rattle.fb_values.specs.declared.indexes.Probe.{Probe}
use Rattle.view_model.specs.Scan.{leading, IsScan}
use Rattle.fb_run.specs.Summary.{IsOfAttribute}
use Rattle.fb_run.proofs.summary.datoms_of.Goals as goal

pub returns-in-Some : goal.returns-in-Some
returns-in-Some c =
    let h = c.args.db.now.snapshot.entries in
    let window = window_of c.args.db.now in
    let ours = subst (λ (p : Probe). IfOk c.datoms.result (λ ds. IsScan h window (λ d. Unit {0}) p.order (leading p) ds)) c.all_of.ensures
    c.datoms.ensures in
    subst (λ attribute. IfOk c.datoms.result (IsOfAttribute h window attribute)) (sym c.in-Some.is) ours
