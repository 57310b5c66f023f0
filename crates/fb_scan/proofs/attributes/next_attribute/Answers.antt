use Rattle.std.proofs.Common.{[]}
use Rattle.fb_db.specs.Seen.{window_of}
use Rattle.fb_scan.proofs.NextAttribute.{no_attribute_ahead, next_is}
use Rattle.fb_scan.proofs.attributes.next_attribute.Goals as goal

pub returns-in_err-next : goal.returns-in_err-next
returns-in_err-next g c =
    no_attribute_ahead c.args.db.now (g.S.Selector.selects c.args.db.now.filter) c.args.e c.args.from c.attributes_from.result _
    c.attributes_from.ensures c.attributes_from-entity.ensures c.start-scan.result c.start-scan.ensures
    (c.in_err-next.ensures.next c.args.db.now c.attributes_from.result _ []) c.from_residual.result c.from_residual.ensures

pub returns : goal.returns
returns g c =
    let has = c.in_ok-next.ensures.next c.args.db.now c.attributes_from.result _ [] c.start-scan.ensures in
    next_is c.args.db.now.snapshot.entries (window_of c.args.db.now) (g.S.Selector.selects c.args.db.now.filter) c.args.e c.args.from
    c.attributes_from.result _ c.attributes_from.ensures c.attributes_from-entity.ensures _ c.in_ok-next.field-0.now _ has.going
