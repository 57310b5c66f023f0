-- A tree of what holds by another tree.
-- Restates Indexes of Datomic's documentation (segments); the ids are this project's own choice.
use Rattle.std.specs.Prelude.{◌≡◌, ◌<◌, ◌≤◌, ◌^◌, ℕ, List}
use Rattle.fb_model.specs.Facts.{standing}
use Rattle.seg_tree.specs.Nodes.{DirectoryNode, tree_datoms}
use Rattle.seg_tree.specs.Ids.{node_ids, count_of, AreNumbered}

-- the tree has what holds by the older one;
-- its new ids are in a row, and the others are ids of the older one
pub record IsOfFacts (older : List DirectoryNode) (first : ℕ) (tree : List DirectoryNode) (next : ℕ)
    : Type 0 where
  pub datoms : tree_datoms tree ≡ standing (tree_datoms older)
  pub behind : first ≤ next
  pub small : next ≤ 2 ^ 62
  pub new : AreNumbered first next (node_ids tree)
  pub old : (id : ℕ) → id < first → count_of id (node_ids tree) ≤ count_of id (node_ids older)
