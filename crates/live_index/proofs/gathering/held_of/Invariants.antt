use Rattle.std.proofs.Common.{◌≡◌, ◌++◌, length}
use Rattle.std.specs.Prelude.{filter}
use Rattle.fb_values.specs.Lists.{list_in}
use Rattle.live_index.specs.Growth.{is_held}
use Rattle.live_index.proofs.gathering.held_of.Given as goal

-- those that were taken and the held ones of those ahead
abbrev pub invariant-loop-datom : goal.invariant-loop-datom
invariant-loop-datom l =
    l.held.items ++ filter (is_held l.covers l.order) l.walk ≡ filter (is_held l.covers l.order) (list_in l.live l.order)

abbrev pub decreases-loop-datom : goal.decreases-loop-datom
decreases-loop-datom l = length l.walk
