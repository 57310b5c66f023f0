-- Trees that are made from left to right, of leaves of an older tree and of new ones.
-- This project's own choice.
use Rattle.std.specs.Prelude.{◌≡◌, ◌≤◌, ◌^◌, ℕ, List, ◌++◌, filter}
use Rattle.fb_values.specs.declared.facts.Datom.{Datom}
use Rattle.seg_tree.specs.Nodes.{LeafNode, DirectoryNode, leaf_datoms, tree_datoms, tree_leaves}
use Rattle.seg_tree.specs.Ids.{leaf_ids, node_ids, is_old, AreNumbered, old_leaves}

-- the first new id, the datoms so far, and the older leaves among what has them
pub record Build : Type 0 where
  pub first : ℕ
  pub datoms : List Datom
  pub kept : List LeafNode

-- whole directories, and leaves behind them
abbrev pub leaves_in : List DirectoryNode → List LeafNode → List LeafNode
leaves_in directories leaves = tree_leaves directories ++ leaves

abbrev pub ids_in : List DirectoryNode → List LeafNode → List ℕ
ids_in directories leaves = node_ids directories ++ leaf_ids leaves

abbrev pub build_of : ℕ → List DirectoryNode → List LeafNode → Build
build_of first directories leaves = record {
  first = first;
  datoms = leaf_datoms (leaves_in directories leaves);
  kept = old_leaves first (leaves_in directories leaves);
}

-- new nodes are numbered from the first id up to the next, and the other nodes are older leaves
pub record IsGrowing (first next : ℕ) (directories : List DirectoryNode) (leaves : List LeafNode)
    : Type 0 where
  pub behind : first ≤ next
  pub small : next ≤ 2 ^ 62
  pub new : AreNumbered first next (ids_in directories leaves)
  pub old : filter (is_old first) (ids_in directories leaves)
      ≡ leaf_ids (old_leaves first (leaves_in directories leaves))

-- the tree holds what was built, and its new nodes are numbered from the first id up to the next
pub record IsBuilt (build : Build) (tree : List DirectoryNode) (next : ℕ) : Type 0 where
  pub datoms : tree_datoms tree ≡ build.datoms
  pub behind : build.first ≤ next
  pub small : next ≤ 2 ^ 62
  pub new : AreNumbered build.first next (node_ids tree)
  pub kept : old_leaves build.first (tree_leaves tree) ≡ build.kept
  pub old : filter (is_old build.first) (node_ids tree) ≡ leaf_ids build.kept
