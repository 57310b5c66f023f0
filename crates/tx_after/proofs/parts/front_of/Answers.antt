use Rattle.std.proofs.Common.{arith}
use Rattle.tx_after.proofs.Searching.{front_more, front_end, front_of-le-length}
use Rattle.tx_after.proofs.parts.front_of.Goals as goal

pub loop-to-preserved : goal.loop-to-preserved
loop-to-preserved c =
    let at = c.index-datoms-to in
    record {
      within = omega arith;
      upto = front_more c.args.e c.args.datoms.now c.loop-to.to at.result (omega arith) c.if-datoms-to.true c.loop-to.invariant.upto;
    }

pub returns-else-datoms-to : goal.returns-else-datoms-to
returns-else-datoms-to c =
    let at = c.index-datoms-to in
    let ended = front_end c.args.e c.args.datoms.now c.loop-to.to at.result (omega arith) c.if-datoms-to.false in
    record { within = c.loop-to.invariant.within; front = omega (arith, ended) }

pub returns-after-loop-to : goal.returns-after-loop-to
returns-after-loop-to c =
    record { within = c.loop-to.invariant.within; front = omega (arith, front_of-le-length c.args.e c.args.datoms.now) }
