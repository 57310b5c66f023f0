use Rattle.std.proofs.Common.{refl}
use Rattle.live_runs.proofs.Triples.{triple_sought}
use Rattle.live_runs.proofs.aim.Aim.of_triple.Goals as goal
use Rattle.std.proofs.Common.{false}

pub invariant_of-result : goal.invariant_of-result
invariant_of-result c =
    triple_sought c.args.order c.args.d.now (record { from = c.prefix_of.result; is_whole = false }) c.prefix_of.ensures refl
