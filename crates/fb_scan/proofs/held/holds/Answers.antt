use Rattle.fb_scan.proofs.Stepping.{held_in}
use Rattle.fb_scan.proofs.held.holds.Goals as goal

pub returns : goal.returns
returns c =
    held_in c.args.snapshot.now c.schema-schema.ensures.stands c.covers-covers.result.now c.schema-schema.result.now c.args.order c.args.a
    c.holds.result c.covers-covers.ensures c.schema-schema.ensures.schema c.holds.ensures
