-- How many nodes a tree has, and how large they are.
-- This project's own choice.
use Rattle.std.specs.Prelude.{◌≡◌, ◌<◌, ◌^◌, List, length, All}
use Rattle.seg_tree.specs.Nodes.{LeafNode, DirectoryNode, tree_leaves}
use Rattle.seg_store.specs.declared.counts.Counts.{Counts}

abbrev pub IsSmallLeaf : LeafNode → Type 0
IsSmallLeaf leaf =
    (leaf.id < 2 ^ 62) × (0 < length leaf.datoms) × (length leaf.datoms < 513)

abbrev pub HasFewLeaves : DirectoryNode → Type 0
HasFewLeaves directory = (0 < length directory.leaves) × (length directory.leaves < 513)

-- the tree has so many nodes, and each of them is small
pub record IsCounted (tree : List DirectoryNode) (counts : Counts) : Type 0 where
  pub leaves : counts.leaves ≡ length (tree_leaves tree)
  pub directories : counts.directories ≡ length tree
  pub small_leaves : All IsSmallLeaf (tree_leaves tree)
  pub small_directories : All HasFewLeaves tree
