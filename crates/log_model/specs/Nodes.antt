-- Nodes of trees: leaves, directories, roots, and merge records of them, as bytes; and which ids
-- may be where.
-- This project's own choice.
use Rattle.std.specs.Prelude.{ℕ, ◌^◌, Bool, not, ◌&&◌, List, [], ◌∷◌, ◌++◌, length, map, filter}
use Rattle.std.specs.Prelude.{flat_map, nat_eq, nat_lt, nat_le}
use Rattle.std.specs.List.{list_all, list_any}
use Rattle.fb_values.specs.declared.facts.Datom.{Datom}
use Rattle.log_model.specs.Fields.{u32_bytes, u64_bytes}
use Rattle.log_model.specs.Payload.{datom_bytes}

pub record Leaf : Type 0 where
  pub id : ℕ
  pub datoms : List Datom

pub record Directory : Type 0 where
  pub id : ℕ
  -- the ids of its leaves
  pub leaves : List ℕ

-- the nodes of a file
pub record Nodes : Type 0 where
  pub leaves : List Leaf
  pub directories : List Directory

abbrev pub no_nodes : Nodes
no_nodes = record { leaves = []; directories = [] }

-- of each tree the ids of its directories
pub record Roots : Type 0 where
  pub eavt : List ℕ
  pub aevt : List ℕ
  pub avet : List ℕ
  pub vaet : List ℕ

pub record MergeRecord : Type 0 where
  -- the trees are those of the entries up to c
  pub c : ℕ
  pub leaves : List Leaf
  pub directories : List Directory
  pub roots : Roots

-- ---- as bytes

-- their number, and one after another
abbrev pub list_bytes : {A : Type 0} → (A → List ℕ) → List A → List ℕ
list_bytes write items = u32_bytes (length items) ++ flat_map write items

-- a datom with its t after it
abbrev pub dated_bytes : Datom → List ℕ
dated_bytes d = datom_bytes d ++ u32_bytes d.t

abbrev pub leaf_bytes : Leaf → List ℕ
leaf_bytes leaf = u64_bytes leaf.id ++ list_bytes dated_bytes leaf.datoms

abbrev pub directory_bytes : Directory → List ℕ
directory_bytes directory = u64_bytes directory.id ++ list_bytes u64_bytes directory.leaves

-- the four roots in the order of the indexes
abbrev pub in_order_of_indexes : Roots → List (List ℕ)
in_order_of_indexes roots = roots.eavt ∷ roots.aevt ∷ roots.avet ∷ roots.vaet ∷ []

-- the format, c, the new leaves, the new directories, and the roots
abbrev pub record_bytes_in : ℕ → MergeRecord → List ℕ
record_bytes_in format merge =
    format
    ∷ (
    u32_bytes merge.c
    ++ list_bytes leaf_bytes merge.leaves
    ++ list_bytes directory_bytes merge.directories
    ++ flat_map (list_bytes u64_bytes) (in_order_of_indexes merge.roots))

-- ---- the nodes that a file has

abbrev pub ids_in : Nodes → List ℕ
ids_in nodes =
    map (λ leaf. leaf.id) nodes.leaves ++ map (λ directory. directory.id) nodes.directories

abbrev pub is_among : List ℕ → ℕ → Bool
is_among ids id = list_any (nat_eq id) ids

-- the id may be that of a new node: ids are below 2^62, and no two nodes of a file have one
abbrev pub is_new_id : Nodes → ℕ → Bool
is_new_id nodes id = nat_lt id (2 ^ 62) && not (is_among (ids_in nodes) id)

abbrev pub with_leaf : Nodes → Leaf → Nodes
with_leaf nodes leaf =
    record { leaves = nodes.leaves ++ leaf ∷ []; directories = nodes.directories }

abbrev pub with_directory : Nodes → Directory → Nodes
with_directory nodes directory =
    record { leaves = nodes.leaves; directories = nodes.directories ++ directory ∷ [] }

-- a leaf of the file that the directory does not have yet
abbrev pub is_leaf_id : Nodes → List ℕ → ℕ → Bool
is_leaf_id nodes before id =
    is_among (map (λ leaf. leaf.id) nodes.leaves) id && not (is_among before id)

-- the directory of this id and its leaves
abbrev pub ids_below : Nodes → ℕ → List ℕ
ids_below nodes id =
    id
    ∷ flat_map (λ directory. directory.leaves)
    (filter (λ directory. nat_eq directory.id id) nodes.directories)

-- a directory of the file, none of whose ids is reached from the roots yet: no two nodes of four
-- trees have one id
abbrev pub is_directory_id : Nodes → List ℕ → ℕ → Bool
is_directory_id nodes reached id =
    is_among (map (λ directory. directory.id) nodes.directories) id
    && list_all (λ below. not (is_among reached below)) (ids_below nodes id)

abbrev pub reaching : Nodes → List ℕ → ℕ → List ℕ
reaching nodes reached id = reached ++ ids_below nodes id

-- leaves and directories have from 1 to 512 members
abbrev pub is_node_length : ℕ → Bool
is_node_length n = nat_le 1 n && nat_le n 512
