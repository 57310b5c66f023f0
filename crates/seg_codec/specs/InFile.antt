-- The nodes that a file has, as they are held.
-- This project's own choice.
use Rattle.std.specs.Prelude.{◌≡◌, ℕ, ◌<◌, ◌^◌, List, ◌∷◌, map, nat_eq, true, false, Contains, All}
use Rattle.std.specs.Prelude.{IsTrue}
use Rattle.std.specs.List.{IsDistinct}
use Rattle.log_model.specs.Nodes.{Nodes, ids_below, is_among}
use Rattle.seg_tree.specs.Nodes.{LeafNode, DirectoryNode}
use Rattle.seg_tree.specs.Ids.{leaf_ids}
use Rattle.seg_codec.specs.Trees.{file_leaf, file_directory, directory_ids, Has}

-- these leaves and directories, as a file has them
abbrev pub nodes_in : List LeafNode → List DirectoryNode → Nodes
nodes_in leaves directories =
    record { leaves = map file_leaf leaves; directories = map file_directory directories }

-- the ids are those of the nodes, no leaf has a directory's, and each directory has leaves of the
-- file, none twice
pub record AreNodes (leaves : List LeafNode) (directories : List DirectoryNode)
    (ids_of_leaves ids_of_directories : List ℕ) : Type 0 where
  pub leaf_ids_are : ids_of_leaves ≡ leaf_ids leaves
  pub directory_ids_are : ids_of_directories ≡ directory_ids directories
  pub apart : (id : ℕ) → is_among (leaf_ids leaves) id ≡ true
      → is_among (directory_ids directories) id ≡ false
  pub there : All
      (λ directory. All (λ leaf. Contains (map file_leaf leaves) (file_leaf leaf))
      directory.leaves)
      directories
  pub once : All (λ directory. IsDistinct nat_eq (leaf_ids directory.leaves)) directories

-- each leaf that a directory lists is there
abbrev pub AreWhole : Nodes → Type 0
AreWhole nodes =
    All (λ directory. All (λ id. IsTrue (is_among (map (λ leaf. leaf.id) nodes.leaves) id))
    directory.leaves)
    nodes.directories

-- the directory that the file has under this id, and no other
pub record IsDirectoryOf (nodes : Nodes) (id : ℕ) (directory : DirectoryNode) : Type 0 where
  pub id_is : directory.id ≡ id
  pub small : id < 2 ^ 62
  pub has : Has nodes directory
  pub below : ids_below nodes id ≡ id ∷ leaf_ids directory.leaves
  pub once : IsDistinct nat_eq (id ∷ leaf_ids directory.leaves)
