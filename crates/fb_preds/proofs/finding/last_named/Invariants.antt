use Rattle.std.proofs.Common.{◌≡◌, ◌≤◌, length, take}
use Rattle.fb_preds.specs.Table.{last_place}
use Rattle.fb_preds.proofs.finding.last_named.Given as goal

abbrev pub invariant-loop-end : goal.invariant-loop-end
invariant-loop-end g l = (l.end ≤ length l.filters) × (last_place l.name (take l.end l.filters) ≡ last_place l.name l.filters)

abbrev pub decreases-loop-end : goal.decreases-loop-end
decreases-loop-end g l = l.end
