use Rattle.std.proofs.Common.{◌≡◌, length}
use Rattle.live_runs.specs.Merged.{AreNamed, waiting_in}
use Rattle.live_runs.proofs.waiting.Waiting.pop.Given as goal

abbrev pub invariant-loop-self : goal.invariant-loop-self
invariant-loop-self l =
    record {
      named : AreNamed l.order l.table l.self;
      same : waiting_in l.order l.table l.self ≡ waiting_in l.order l.table l.fn.self;
    }

abbrev pub decreases-loop-self : goal.decreases-loop-self
decreases-loop-self l = length l.self.newer.now
