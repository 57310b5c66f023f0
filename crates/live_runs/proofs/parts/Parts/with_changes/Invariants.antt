use Rattle.std.proofs.Common.{length}
use Rattle.live_runs.specs.Changes.{changed_by}
use Rattle.live_runs.specs.Members.{named}
use Rattle.live_runs.proofs.Parted.{IsWoven}
use Rattle.live_runs.proofs.parts.Parts.with_changes.Given as goal

-- the parts that are left, with the changes that are left
abbrev pub invariant-loop-part : goal.invariant-loop-part
invariant-loop-part l = IsWoven l.order l.table (changed_by l.order l.table l.changes (named l.table l.self)) l.left l.later l.new

abbrev pub decreases-loop-part : goal.decreases-loop-part
decreases-loop-part l = length l.later
