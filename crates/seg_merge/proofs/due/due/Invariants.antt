use Rattle.std.proofs.Common.{◌≡◌, ◌++◌, length}
use Rattle.fb_values.specs.Lists.{list_in}
use Rattle.seg_merge.specs.Merged.{due_of}
use Rattle.seg_merge.proofs.due.due.Given as goal

-- those that were taken and the due ones of those ahead
abbrev pub invariant-loop-datom : goal.invariant-loop-datom
invariant-loop-datom l =
    l.due.items ++ due_of l.covers l.c l.order l.walk ≡ due_of l.covers l.c l.order (list_in l.live l.order)

abbrev pub decreases-loop-datom : goal.decreases-loop-datom
decreases-loop-datom l = length l.walk
