use Rattle.std.proofs.Common.{◌∙◌, Bor, ap, map, subst, sym}
use Rattle.std.proofs.lemmas.Result.{IfOk-weaker}
use Rattle.fb_values.specs.declared.facts.Datom.{Datom}
use Rattle.view_model.specs.Scan.{IsScan, not_below}
use Rattle.fb_db.specs.Seen.{window_of}
use Rattle.fb_scan.proofs.scans.seek.Goals as goal

pub returns : goal.returns
returns g c =
    IfOk-weaker c.copies.result _ _
    (λ ds same.
    subst (IsScan c.args.db.now.snapshot.entries (window_of c.args.db.now)
    (g.S.Selector.selects c.args.db.now.filter) c.args.probe.now.order (not_below c.args.probe.now))
    (sym (same ∙ ap (map (λ (d : Bor Datom). d.now)) c.deref.ensures.value)) c.in_ok-found.ensures)
    c.copies.ensures
