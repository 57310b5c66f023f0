use Rattle.std.proofs.Common.{◌≡◌, [], length}
use Rattle.live_runs.specs.Walks.{IsLeft, changes_left, left_of}
use Rattle.live_runs.proofs.walk.RunsWalk.look.Given as goal

abbrev pub invariant-loop-self : goal.invariant-loop-self
invariant-loop-self l =
    record {
      left : IsLeft l.self;
      table : l.self.table.now ≡ l.fn.self.table.now;
      safe : l.self.safe ≡ 0;
      same : left_of l.self ≡ left_of l.fn.self;
      filled : l.self.chunk.now ≡ [] → l.self.later.now ≡ [];
    }

abbrev pub decreases-loop-self : goal.decreases-loop-self
decreases-loop-self l = length (changes_left l.self)
