use Rattle.std.proofs.Common.{◌≡◌, ◌++◌, length}
use Rattle.fb_values.specs.Lists.{list_in}
use Rattle.fb_view.proofs.sorting.copied.Given as goal

-- those that were copied and those ahead
abbrev pub invariant-loop-datom : goal.invariant-loop-datom
invariant-loop-datom l = l.list.items ++ l.walk ≡ list_in l.live l.fn.order

abbrev pub decreases-loop-datom : goal.decreases-loop-datom
decreases-loop-datom l = length l.walk
