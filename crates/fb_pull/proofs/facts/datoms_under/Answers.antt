use Rattle.std.proofs.Common.{◌≡◌, ℕ, Option, subst, sym}
use Rattle.std.specs.Prelude.{IfOk, filter}
use Rattle.std.proofs.lemmas.Result.{IfOk-weaker}
use Rattle.fb_values.specs.declared.indexes.Probe.{Probe}
use Rattle.fb_model.specs.Schema.{is_about}
use Rattle.view_model.specs.Scan.{leading, IsScan}
use Rattle.fb_db.specs.Seen.{window_of}
use Rattle.fb_pull.specs.Finding.{upto}
use Rattle.fb_pull.specs.Near.{lent}
use Rattle.fb_pull.proofs.Scans.{scan_under, one_scan}
use Rattle.fb_pull.proofs.facts.datoms_under.Goals as goal

pub returns-in-Some : goal.returns-in-Some
returns-in-Some g c = λ facts sees.
    let db = c.args.db.now in
    let Selects = g.S.Selector.selects db.filter in
    let all = filter (is_about c.args.e c.args.a) facts.seen in
    subst (λ (most : Option ℕ). IfOk c.first.result (λ ds. lent ds.items ≡ upto most all)) (sym c.in-Some.is)
    (c.first.ensures all
    (subst (λ (p : Probe). IsScan db.snapshot.entries (window_of db) Selects p.order (leading p) all) (sym c.probe_under-probe.ensures)
    (scan_under db Selects facts sees c.args.e c.args.a)))

pub returns : goal.returns
returns g c = λ facts sees.
    let db = c.args.db.now in
    let Selects = g.S.Selector.selects db.filter in
    let all = filter (is_about c.args.e c.args.a) facts.seen in
    subst (λ (most : Option ℕ). IfOk c.datoms.result (λ ds. lent ds.items ≡ upto most all)) (sym c.in-None.is)
    (IfOk-weaker c.datoms.result _ _
    (λ ds is. one_scan db Selects facts sees c.args.e c.args.a (lent ds.items)
    (subst (λ (p : Probe). IsScan db.snapshot.entries (window_of db) Selects p.order (leading p) (lent ds.items))
    c.probe_under-probe.ensures is))
    c.datoms.ensures)
