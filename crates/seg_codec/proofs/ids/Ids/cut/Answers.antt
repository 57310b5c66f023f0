use Rattle.std.proofs.Common.{arith}
use Rattle.seg_codec.proofs.Placing.{cut_start, cut_step, cut_end}
use Rattle.seg_codec.proofs.ids.Ids.cut.Goals as goal

pub loop-self-init : goal.loop-self-init
loop-self-init c = cut_start c.args.self.now c.args.len

pub loop-self-preserved : goal.loop-self-preserved
loop-self-preserved c =
    cut_step c.args.self.now c.loop-self.self c.drop_last.new.self c.args.len c.loop-self.invariant c.drop_last.ensures
    (omega (arith, c.loop-self-test.true, c.len.ensures.len))

pub returns : goal.returns
returns c = cut_end c.args.self.now c.loop-self.self c.args.len c.loop-self.invariant
    (omega (arith, c.loop-self-test.false, c.len.ensures.len))
