-- Each side of a fork has fewer items than the fork.
-- This project's own choice.
use Rattle.std.specs.Prelude.{◌+◌, ◌≤◌, max, List, [], ◌∷◌, length, map}
use Rattle.std.proofs.Common.{arith, length-append, Global}
use Rattle.std.specs.Arc.{arc_value}
use Rattle.std.specs.declared.sync.Arc.{Arc}
use denote.Param.Weighed.{most}
use Rattle.fb_chunks.specs.declared.tree.Node.{Node}
use Rattle.fb_chunks.specs.declared.tree.Node.TheVariants.{Leaf, Fork}
use Rattle.fb_chunks.specs.declared.tree.Tree.{Tree}
use Rattle.fb_chunks.specs.declared.tree.Tree.TheDeep.{deep-Node}
use Rattle.fb_chunks.specs.Chunks.{joined}
use Rattle.fb_chunks.specs.Tree.{items_of, IsTree}

-- no side is longer than all of them together
most_le-length-joined : {X : Type 0} (sides : List (Arc (Tree X) Global))
    → most (λ side. length side.value + 1) sides ≤ length (joined (map arc_value sides)) + 1
most_le-length-joined [] = omega arith
most_le-length-joined (side ∷ sides) =
    let rest = joined (map arc_value sides) in
    omega (arith, most_le-length-joined sides, length-append side.value rest)

-- no side is deeper than the node has items
pub depth_le-length : {X : Type 0} (n : Node X)
    → IsTree n → max (deep-Node X n) 0 ≤ length (items_of n)
depth_le-length (Leaf _) h = omega arith
depth_le-length (Fork each len full last) h =
    let behind = length-append (joined (map arc_value full.items)) (arc_value last) in
    let sides = most_le-length-joined full.items in
    omega (arith, h.last_begun, h.last_is_part, h.layer.counted, sides, behind)
