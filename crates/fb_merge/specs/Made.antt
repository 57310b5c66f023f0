-- What trees that were merged have of the older ones, and what they have not.
-- This project's own choice.
use Rattle.std.specs.Prelude.{ℕ}
use Rattle.fb_values.specs.declared.indexes.Order.{Order}
use Rattle.seg_tree.specs.Nodes.{tree_leaves}
use Rattle.seg_tree.specs.Indexes.{tree_in}
use Rattle.seg_tree.specs.declared.roots.Roots.{Roots}
use Rattle.seg_merge.specs.Merges.{HasOlderLeaves, HasNewDirectories}

-- in each order, a leaf with an id below the first new one is a leaf of the older tree
abbrev pub SharesLeaves : ℕ → Roots → Roots → Type 0
SharesLeaves first old new =
    (order : Order)
    → HasOlderLeaves first (tree_leaves (tree_in old order)) (tree_leaves (tree_in new order))

-- in each order, no directory has an id below the first new one
abbrev pub SharesNoDirectory : ℕ → Roots → Type 0
SharesNoDirectory first new = (order : Order) → HasNewDirectories first (tree_in new order)
