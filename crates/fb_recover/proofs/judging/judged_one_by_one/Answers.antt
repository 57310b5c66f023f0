use Rattle.fb_recover.proofs.judging.judged_one_by_one.Goals as goal

pub with-requires : goal.with-requires
with-requires c = (c.loop-entry.yielded, c.loop-entry.invariant)
