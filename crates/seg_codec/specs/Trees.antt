-- Trees and the nodes of a file: which nodes a tree has there, which trees the ids of a root name,
-- and what a record adds of trees. This project's own choice.
use Rattle.std.specs.Prelude.{◌≡◌, ℕ, ◌<◌, ◌^◌, List, ◌++◌, length, map, filter, not, Contains, All}
use Rattle.std.specs.Prelude.{IsTrue}
use Rattle.fb_values.specs.declared.indexes.Order.{Order}
use Rattle.fb_values.specs.declared.indexes.Order.TheVariants.{Eavt, Aevt, Avet, Vaet}
use Rattle.log_model.specs.Payload.{written_format}
use Rattle.log_model.specs.Storable.{is_storable_value}
use Rattle.log_model.specs.Merges.{is_storable_dated}
use Rattle.log_model.specs.Nodes.{Leaf, Directory, Nodes, Roots, MergeRecord, ids_in, is_among}
use Rattle.seg_tree.specs.Nodes.{LeafNode, DirectoryNode, tree_leaves}
use Rattle.seg_tree.specs.Ids.{leaf_ids}
use Rattle.seg_tree.specs.Indexes.{tree_in}
use Rattle.seg_tree.specs.declared.roots.Roots.{Roots as SegRoots}

-- one node, as a file has it
abbrev pub file_leaf : LeafNode → Leaf
file_leaf leaf = record { id = leaf.id; datoms = leaf.datoms }

abbrev pub file_directory : DirectoryNode → Directory
file_directory directory = record { id = directory.id; leaves = leaf_ids directory.leaves }

-- the file has the directory and its leaves
pub record Has (nodes : Nodes) (directory : DirectoryNode) : Type 0 where
  pub itself : Contains nodes.directories (file_directory directory)
  pub leaves : All (λ leaf. Contains nodes.leaves (file_leaf leaf)) directory.leaves

abbrev pub root_in : Roots → Order → List ℕ
root_in ids Eavt = ids.eavt
root_in ids Aevt = ids.aevt
root_in ids Avet = ids.avet
root_in ids Vaet = ids.vaet

abbrev pub directory_ids : List DirectoryNode → List ℕ
directory_ids directories = map (λ directory. directory.id) directories

-- the trees that these roots name
pub record AreTreesOf (nodes : Nodes) (ids : Roots) (trees : SegRoots) : Type 0 where
  pub named : (order : Order) → directory_ids (tree_in trees order) ≡ root_in ids order
  pub there : (order : Order) → All (Has nodes) (tree_in trees order)

-- ---- all nodes of four trees, tree by tree from left to right

abbrev pub leaves_of_four : SegRoots → List LeafNode
leaves_of_four trees =
    tree_leaves trees.eavt
    ++ tree_leaves trees.aevt
    ++ tree_leaves trees.avet
    ++ tree_leaves trees.vaet

abbrev pub directories_of_four : SegRoots → List DirectoryNode
directories_of_four trees = trees.eavt ++ trees.aevt ++ trees.avet ++ trees.vaet

abbrev pub roots_of : SegRoots → Roots
roots_of trees =
    record {
      eavt = directory_ids trees.eavt;
      aevt = directory_ids trees.aevt;
      avet = directory_ids trees.avet;
      vaet = directory_ids trees.vaet;
    }

-- each node of the trees whose id the file has is that node
pub record Fits (nodes : Nodes) (trees : SegRoots) : Type 0 where
  pub leaves : All
      (λ leaf. Contains (ids_in nodes) leaf.id → Contains nodes.leaves (file_leaf leaf))
      (leaves_of_four trees)
  pub directories : All
      (λ directory. Contains (ids_in nodes) directory.id
      → Contains nodes.directories (file_directory directory))
      (directories_of_four trees)

-- ---- what a record adds

-- the nodes of the trees that are not among those of these ids
abbrev pub merge_over : List ℕ → SegRoots → ℕ → MergeRecord
merge_over in_file trees c =
    record {
      c = c;
      leaves = map file_leaf
          (filter (λ leaf. not (is_among in_file leaf.id)) (leaves_of_four trees));
      directories = map file_directory
          (filter (λ directory. not (is_among in_file directory.id)) (directories_of_four trees));
      roots = roots_of trees;
    }

-- what a record over these nodes says of the trees
abbrev pub merge_of : Nodes → SegRoots → ℕ → MergeRecord
merge_of nodes trees c = merge_over (ids_in nodes) trees c

-- the ids of these nodes, those of leaves first
abbrev pub ids_lacking : List ℕ → SegRoots → List ℕ
ids_lacking in_file trees =
    leaf_ids (filter (λ leaf. not (is_among in_file leaf.id)) (leaves_of_four trees))
    ++ directory_ids
    (filter (λ directory. not (is_among in_file directory.id)) (directories_of_four trees))

-- the file has exactly these ids
abbrev pub AreIdsOf : List ℕ → Nodes → Type 0
AreIdsOf ids nodes = (id : ℕ) → is_among ids id ≡ is_among (ids_in nodes) id

-- the values of all datoms can be written
abbrev pub AreStorable : SegRoots → Type 0
AreStorable trees =
    All (λ leaf. All (λ d. IsTrue (is_storable_value written_format d.v)) leaf.datoms)
    (leaves_of_four trees)

-- numbers of nodes and of their members are within their ranges, and so are all datoms
pub record AreWritable (trees : SegRoots) : Type 0 where
  pub leaves : All
      (λ leaf. (leaf.id < 2 ^ 62) × (0 < length leaf.datoms) × (length leaf.datoms < 513)
      × All (λ d. IsTrue (is_storable_dated written_format d)) leaf.datoms)
      (leaves_of_four trees)
  pub directories : All
      (λ directory. (directory.id < 2 ^ 62) × (0 < length directory.leaves)
      × (length directory.leaves < 513))
      (directories_of_four trees)
  pub leaves_few : length (leaves_of_four trees) < 2 ^ 32
  pub directories_few : length (directories_of_four trees) < 2 ^ 32
