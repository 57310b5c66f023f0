use Rattle.std.proofs.Common.{◌≡◌, ◌++◌, length}
use Rattle.seg_tree.specs.Nodes.{tree_datoms}
use Rattle.fb_index.specs.Ranges.{led_to}
use Rattle.fb_index.specs.Sides.{whole}
use Rattle.fb_index.proofs.sides.Sides.led.Given as goal

abbrev pub invariant-loop-datom : goal.invariant-loop-datom
invariant-loop-datom l =
    l.found.items ++ l.walk ≡ led_to l.probe (whole l.self.extent l.self.order (tree_datoms l.self.tree.now) l.self.live.now)

abbrev pub decreases-loop-datom : goal.decreases-loop-datom
decreases-loop-datom l = length l.walk
