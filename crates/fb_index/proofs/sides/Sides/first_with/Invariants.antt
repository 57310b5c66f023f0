use Rattle.std.proofs.Common.{◌≡◌, length}
use Rattle.std.specs.Prelude.{find}
use Rattle.fb_values.specs.declared.facts.Datom.{Datom}
use Rattle.fb_model.specs.Facts.{value_eq}
use Rattle.seg_tree.specs.Nodes.{tree_datoms}
use Rattle.fb_index.specs.Ranges.{led_to}
use Rattle.fb_index.specs.Sides.{whole}
use Rattle.fb_index.proofs.sides.Sides.first_with.Given as goal

abbrev pub invariant-loop-datom : goal.invariant-loop-datom
invariant-loop-datom l =
    find (λ (d : Datom). value_eq d.v l.v) l.walk
    ≡ find (λ (d : Datom). value_eq d.v l.v)
    (led_to l.probe (whole l.self.extent l.self.order (tree_datoms l.self.tree.now) l.self.live.now))

abbrev pub decreases-loop-datom : goal.decreases-loop-datom
decreases-loop-datom l = length l.walk
