use Rattle.live_runs.specs.Walks.{changes_left}
use Rattle.live_runs.proofs.Left.{ahead_of_all, left_safe}
use Rattle.live_runs.proofs.walk.RunsWalk.count_safe.Goals as goal

pub returns-clause-left : goal.returns-clause-left
returns-clause-left c =
    record {
      waits = c.requires.left.waits;
      left =
          left_safe c.args.self.now.order c.args.self.now.table.now (changes_left c.args.self.now) c.args.self.now.chunk.now
          c.args.self.now.later.now c.args.self.now.safe c.upto_change-self.result c.requires.left.left c.upto_change-self.ensures.value
          c.upto_change-self.ensures.within;
    }

pub returns-clause-ahead : goal.returns-clause-ahead
returns-clause-ahead c =
    λ none. ahead_of_all c.args.self.now.order c.args.self.now.table.now (changes_left c.args.self.now) c.args.self.now.chunk.now
    c.args.self.now.later.now c.args.self.now.safe c.upto_change-self.result c.requires.left.left c.upto_change-self.ensures.value none
    c.requires.apart c.requires.filled
