-- Trees of a history's first entries, and trees that were made of older ones.
-- This project's own choice.
use Rattle.std.specs.Prelude.{◌≡◌, ◌<◌, ◌≤◌, ℕ, List, Contains}
use Rattle.std.specs.List.{All}
use Rattle.fb_values.specs.declared.facts.Entry.{Entry}
use Rattle.fb_values.specs.declared.indexes.Order.{Order}
use Rattle.view_model.specs.Stands.{RootStands}
use Rattle.seg_tree.specs.Nodes.{LeafNode, tree_leaves}
use Rattle.seg_tree.specs.Ids.{next_above, IsInRow}
use Rattle.seg_tree.specs.Indexes.{root_ids, tree_in, trees_of}
use Rattle.seg_tree.specs.declared.roots.Roots.{Roots}
use Rattle.fb_roots.specs.declared.bases.Base.{Base}

-- the trees are of the history's entries up to the t `covered`
abbrev pub IsBaseOf : Base → List Entry → ℕ → Type 0
IsBaseOf base h covered = (base.c ≡ covered) × RootStands (trees_of base.roots) h covered

-- The trees were made of older ones: their new nodes have the numbers from the first one on, none left
-- out, which are above the ids of the older ones, and their other nodes are older leaves.
pub record AreMadeOf (first : ℕ) (old new : Roots) : Type 0 where
  pub above : next_above (root_ids old) ≤ first
  pub ids : IsInRow first (root_ids new)
  pub older : (order : Order) (leaf : LeafNode) → Contains (tree_leaves (tree_in new order)) leaf
      → leaf.id < first → Contains (tree_leaves (tree_in old order)) leaf
  pub directories : (order : Order) → All (λ directory. first ≤ directory.id) (tree_in new order)
