use Rattle.std.proofs.Common.{Bor, map}
use Rattle.std.proofs.lemmas.Result.{IfOk-weaker}
use Rattle.fb_values.specs.declared.facts.Datom.{Datom}
use Rattle.fb_values.specs.Orders.{probe_cmp}
use Rattle.view_model.specs.Scan.{leading}
use Rattle.fb_db.specs.Seen.{window_of}
use Rattle.fb_scan.specs.declared.ends.End.TheVariants.{Behind}
use Rattle.fb_scan.proofs.Ending.{leading_ends}
use Rattle.fb_scan.proofs.Stepping.{first_of_scan}
use Rattle.fb_scan.proofs.lent.first.Goals as goal

pub returns : goal.returns
returns g c = λ all scan.
    IfOk-weaker c.lend.result _ _
    (λ ds is. first_of_scan c.args.db.now.snapshot.entries (window_of c.args.db.now) (g.S.Selector.selects c.args.db.now.filter)
    c.args.probe.now (Behind c.args.probe) (leading c.args.probe.now) (map (λ (d : Bor Datom). d.now) ds.items) all
    (λ d. leading_ends (probe_cmp c.args.probe.now d)) c.args.most is scan)
    c.lend.ensures
