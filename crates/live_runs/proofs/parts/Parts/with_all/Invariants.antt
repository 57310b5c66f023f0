use Rattle.std.proofs.Common.{◌≡◌, ◌++◌, length}
use Rattle.live_runs.proofs.parts.Parts.with_all.Given as goal

abbrev pub invariant-loop-left : goal.invariant-loop-left
invariant-loop-left l = l.parts ++ l.left ≡ l.fn.self ++ l.members

abbrev pub decreases-loop-left : goal.decreases-loop-left
decreases-loop-left l = length l.left
