use Rattle.std.proofs.Common.{arith}
use Rattle.fb_conn.proofs.Histories.{later_is_longer, no_later_is_longer}
use Rattle.fb_conn.proofs.glances.take_longer.Goals as goal

pub returns-then-basis-clause-last : goal.returns-then-basis-clause-last
returns-then-basis-clause-last c =
    later_is_longer c.args.last.now.entries c.args.letter.one.entries c.basis.ensures.stands.history.lawful
    c.basis-2.ensures.stands.history.lawful
    (omega (arith, c.if-basis.true, c.basis.ensures.basis, c.basis-2.ensures.basis))

pub returns-clause-last : goal.returns-clause-last
returns-clause-last c =
    no_later_is_longer c.args.last.now.entries c.args.letter.one.entries c.basis.ensures.stands.history.lawful
    c.basis-2.ensures.stands.history.lawful
    (omega (arith, c.if-basis.false, c.basis.ensures.basis, c.basis-2.ensures.basis))
