use Rattle.std.proofs.Common.{Bor, map}
use Rattle.std.proofs.lemmas.Result.{IfOk-weaker}
use Rattle.fb_values.specs.Orders.{probe_cmp}
use Rattle.view_model.specs.Scan.{not_below}
use Rattle.fb_values.specs.declared.facts.Datom.{Datom}
use Rattle.fb_db.specs.Seen.{window_of}
use Rattle.fb_scan.specs.declared.ends.End.TheVariants.{Never}
use Rattle.fb_scan.proofs.Ending.{below_ends}
use Rattle.fb_scan.proofs.Stepping.{walk_is_scan}
use Rattle.fb_scan.proofs.lent.seek.Goals as goal

pub returns : goal.returns
returns g c =
    IfOk-weaker c.lend.result _ _
    (λ ds is. walk_is_scan c.args.db.now.snapshot.entries (window_of c.args.db.now) (g.S.Selector.selects c.args.db.now.filter)
    c.args.probe.now Never (not_below c.args.probe.now) (map (λ (d : Bor Datom). d.now) ds.items)
    (λ d. below_ends (probe_cmp c.args.probe.now d)) is)
    c.lend.ensures
