use Rattle.fb_pull.specs.Near.{lent}
use Rattle.fb_pull.proofs.Entities.{first_here, first_later, first_nowhere, lent_at, lent_below, lent_past}
use Rattle.fb_pull.proofs.facts.first_among.Goals as goal

pub returns-then-d-a : goal.returns-then-d-a
returns-then-d-a c =
    first_here c.args.a (lent c.args.datoms.now) c.loop-d.d-index c.d-item.result.now
    (lent_below c.args.datoms.now c.loop-d.d-index c.loop-d-test.true)
    (lent_at c.args.datoms.now c.loop-d.d-index c.d-item.result c.loop-d-test.true c.d-item.is) c.loop-d.invariant c.if-d-a.true

pub loop-d-preserved : goal.loop-d-preserved
loop-d-preserved c =
    first_later c.args.a (lent c.args.datoms.now) c.loop-d.d-index c.d-item.result.now
    (lent_below c.args.datoms.now c.loop-d.d-index c.loop-d-test.true)
    (lent_at c.args.datoms.now c.loop-d.d-index c.d-item.result c.loop-d-test.true c.d-item.is) c.loop-d.invariant c.if-d-a.false

pub returns : goal.returns
returns c =
    first_nowhere c.args.a (lent c.args.datoms.now) c.loop-d.d-index
    (lent_past c.args.datoms.now c.loop-d.d-index c.loop-d-test.false) c.loop-d.invariant
