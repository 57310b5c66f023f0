use Rattle.std.proofs.Common.{Bor, map}
use Rattle.std.proofs.lemmas.Result.{IfOk-weaker}
use Rattle.fb_values.specs.declared.facts.Datom.{Datom}
use Rattle.fb_db.specs.Seen.{window_of}
use Rattle.fb_scan.proofs.Stepping.{range_is_scan}
use Rattle.fb_scan.proofs.lent.index_range.Goals as goal

pub returns : goal.returns
returns g c =
    IfOk-weaker c.lend.result _ _
    (λ ds is. range_is_scan c.args.db.now.snapshot.entries (window_of c.args.db.now) (g.S.Selector.selects c.args.db.now.filter)
    c.valued-from.result _ c.end_at.result c.args.attr c.args.bounds.start c.args.bounds.end
    (map (λ (d : Bor Datom). d.now) ds.items) c.end_at.ensures c.valued-from.ensures
    c.valued-to.ensures is)
    c.lend.ensures
