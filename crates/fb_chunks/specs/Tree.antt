-- The items that a node of a tree has, and what holds of it.
-- This project's own choice.
use Rattle.std.specs.Prelude.{ℕ, ◌<◌, ◌≤◌, List, ◌++◌, length, map}
use Rattle.std.specs.Arc.{arc_value}
use Rattle.fb_chunks.specs.declared.chunks.TheConstants.{CHUNK}
use Rattle.fb_chunks.specs.declared.tree.Node.{Node}
use Rattle.fb_chunks.specs.declared.tree.Node.TheVariants.{Leaf, Fork}
use Rattle.fb_chunks.specs.Chunks.{joined, IsLayer}

-- the items in order
abbrev pub items_of : {X : Type 0} → Node X → List X
items_of (Leaf items) = items.items
items_of (Fork each len full last) = joined (map arc_value full.items) ++ arc_value last

-- a fork has full sides of `each` items, and then a last one, which is not empty
pub record IsFork {X : Type 0} (each len : ℕ) (full : List (List X)) (last : List X) : Type 0 where
  pub layer : IsLayer each full last len
  pub last_begun : 0 < length last
  pub last_is_part : length last < len

abbrev pub IsTree : {X : Type 0} → Node X → Type 0
IsTree (Leaf items) = length items.items ≤ CHUNK
IsTree (Fork each len full last) = IsFork each len (map arc_value full.items) (arc_value last)
