use Rattle.live_runs.proofs.aim.Aim.of_probe.Goals as goal

pub invariant_of-result : goal.invariant_of-result
invariant_of-result c =
    record { below = c.sought_by.ensures.below; above = c.sought_by.ensures.above; whole = c.sought_by.ensures.whole }
