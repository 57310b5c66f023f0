use Rattle.std.proofs.Common.{◌+◌, arith}
use Rattle.fb_prefix.proofs.Fronts.{front_at, front_fits, front_room}
use Rattle.fb_prefix.proofs.parts.front_of.Goals as goal

pub overflow_mul-n : goal.overflow_mul-n
overflow_mul-n c = omega (arith, front_room _ c.loop-i.i c.loop-i.n c.loop-i-test.true c.loop-i.invariant)

pub loop-i-preserved : goal.loop-i-preserved
loop-i-preserved c =
    front_at _ c.loop-i.i c.loop-i.n c.from.result c.loop-i-test.true (omega arith) (omega arith) c.loop-i.invariant

pub overflow_add-n : goal.overflow_add-n
overflow_add-n c =
    let after =
    front_at _ c.loop-i.i c.loop-i.n c.from.result c.loop-i-test.true (omega arith) (omega arith) c.loop-i.invariant in
    omega (arith, front_fits _ (c.loop-i.i + 1) _ after)
