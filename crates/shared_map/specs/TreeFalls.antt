-- Each side of a fork has fewer items than the fork.
-- This project's own choice.
use Rattle.std.specs.Prelude.{◌≤◌, max, ◌∷◌, length}
use Rattle.std.proofs.Common.{arith, length-append}
use Rattle.std.specs.Arc.{arc_value}
use Rattle.shared_map.specs.declared.tree.Node.{Node}
use Rattle.shared_map.specs.declared.tree.Node.TheVariants.{Tip, Fork}
use Rattle.shared_map.specs.declared.tree.Tree.TheDeep.{deep-Node}
use Rattle.shared_map.specs.Tree.{items_and_height}

-- no side is deeper than the node has items
pub depth_le-length : {X : Type 0} (n : Node X)
    → max (deep-Node X n) 0 ≤ length (items_and_height n).0
depth_le-length Tip = omega arith
depth_le-length (Fork l x r height) =
    omega (arith, length-append (arc_value l).0 (x ∷ (arc_value r).0))
