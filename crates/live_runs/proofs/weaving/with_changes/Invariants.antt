use Rattle.std.proofs.Common.{drop}
use Rattle.live_runs.specs.Changes.{changed_by}
use Rattle.live_runs.specs.Members.{named}
use Rattle.live_runs.proofs.Stepping.{IsTakenOver}
use Rattle.live_runs.proofs.weaving.with_changes.Given as goal

-- what is taken over, and behind it what is left, with the changes that are left
abbrev pub invariant-loop-change : goal.invariant-loop-change
invariant-loop-change l =
    IsTakenOver l.order l.table (changed_by l.order l.table l.changes (named l.table l.members)) (drop l.change-index l.changes) l.left
    l.all.items
