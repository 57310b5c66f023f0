-- The items that a node of the balanced tree has, and what holds of it.
-- This project's own choice.
use Rattle.std.specs.Prelude.{◌≡◌, ℕ, ◌+◌, max, List, [], ◌∷◌, ◌++◌}
use Rattle.std.specs.Arc.{arc_value}
use Rattle.shared_map.specs.declared.tree.Node.{Node}
use Rattle.shared_map.specs.declared.tree.Node.TheVariants.{Tip, Fork}
use Rattle.shared_map.specs.Trees.{DifferByAtMost}

-- the items in order, and the height that the node stores
abbrev pub items_and_height : {X : Type 0} → Node X → List X × ℕ
items_and_height Tip = ([], 0)
items_and_height (Fork l x r height) = ((arc_value l).0 ++ x ∷ (arc_value r).0, height)

-- a fork's height is right, and its sides are about as high
pub record IsFork {X : Type 0} (l r : List X × ℕ) (height : ℕ) : Type 0 where
  pub height_is : height ≡ max l.1 r.1 + 1
  pub balanced : DifferByAtMost 1 l.1 r.1

abbrev pub IsTree : {X : Type 0} → Node X → Type 0
IsTree Tip = Unit {0}
IsTree (Fork l x r height) = IsFork (arc_value l) (arc_value r) height
