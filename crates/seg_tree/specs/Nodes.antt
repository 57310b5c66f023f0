-- Segment trees as contracts see them: directories of leaves of datoms, each node with its id.
-- Restates Indexes of Datomic's documentation (segments);
-- the two levels and the ids are this project's own choice.
use Rattle.std.specs.Prelude.{◌≡◌, ◌<◌, ◌≤◌, ◌^◌, ℕ, List, [], ◌∷◌, ◌++◌, length, map}
use Rattle.std.specs.List.{All}
use Rattle.fb_values.specs.declared.facts.Datom.{Datom}
use Rattle.seg_tree.specs.Chunks.{joined, AreFirsts, chunk_rank}

pub record LeafNode : Type 0 where
  pub id : ℕ
  pub datoms : List Datom

pub record DirectoryNode : Type 0 where
  pub id : ℕ
  pub leaves : List LeafNode

-- the datoms of leaves, and of a tree's directories, from left to right
abbrev pub leaf_datoms : List LeafNode → List Datom
leaf_datoms leaves = joined (map (λ leaf. leaf.datoms) leaves)

abbrev pub tree_datoms : List DirectoryNode → List Datom
tree_datoms directories = joined (map (λ directory. leaf_datoms directory.leaves) directories)

-- the leaves of a tree, from left to right
abbrev pub tree_leaves : List DirectoryNode → List LeafNode
tree_leaves [] = []
tree_leaves (directory ∷ directories) = directory.leaves ++ tree_leaves directories

-- a leaf has 1 to 512 datoms
pub record IsLeaf (id : ℕ) (datoms : List Datom) : Type 0 where
  pub some : 0 < length datoms
  pub few : length datoms ≤ 512
  pub small : id < 2 ^ 62

-- a directory has 1 to 512 leaves, and keeps their first datoms
pub record IsDirectory (id : ℕ) (firsts : List Datom) (leaves : List LeafNode) : Type 0 where
  pub some : 0 < length leaves
  pub few : length leaves ≤ 512
  pub small : id < 2 ^ 62
  pub firsts_are : AreFirsts firsts (map (λ leaf. leaf.datoms) leaves)

-- the first place of a directory is in its first leaf
abbrev pub StartsFull : DirectoryNode → Type 0
StartsFull directory = chunk_rank (map (λ leaf. leaf.datoms) directory.leaves) 0 0 ≡ 0

-- a root keeps the first datoms of its directories
pub record IsRoot (firsts : List Datom) (directories : List DirectoryNode) : Type 0 where
  pub firsts_are : AreFirsts firsts (map (λ directory. leaf_datoms directory.leaves) directories)
  pub starts : All StartsFull directories
