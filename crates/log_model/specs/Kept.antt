-- Kept roots: the trees of a file of segments after each of its merges, and the newest of them that
-- a history agrees with.
-- This project's own choice; Datomic, Indexes, describes the merging.
use Rattle.std.specs.Prelude.{◌≡◌, ◌⊎◌, ℕ, ◌^◌, Bool, List, [], ◌∷◌, ◌++◌, length, filter, fold}
use Rattle.std.specs.Prelude.{flat_map, nat_eq, nat_le, All, Contains}
use Rattle.std.specs.List.{list_any}
use Rattle.fb_values.specs.declared.facts.Datom.{Datom}
use Rattle.fb_values.specs.declared.facts.Entry.{Entry}
use Rattle.fb_values.specs.declared.indexes.Order.{Order}
use Rattle.fb_values.specs.Lists.{Lists}
use Rattle.fb_model.specs.History.{said}
use Rattle.fb_model.specs.Facts.{facts}
use Rattle.fb_model.specs.Schema.{covers}
use Rattle.disk_model.specs.Journal.{segments_mark, JournalStands, JournalBreaks}
use Rattle.view_model.specs.Stands.{RootStands}
use Rattle.log_model.specs.Nodes.{Nodes, no_nodes, with_leaf, with_directory, ids_in, ids_below}
use Rattle.log_model.specs.Nodes.{MergeRecord}
use Rattle.log_model.specs.Merges.{MergeSays, merges, bad_from, record_says}

-- four trees, read from left to right, and how far they go
pub record KeptRoot : Type 0 where
  pub lists : Lists
  pub c : ℕ

-- the nodes of the file after the record
abbrev pub with_nodes : Nodes → MergeRecord → Nodes
with_nodes nodes merge = fold with_directory (fold with_leaf nodes merge.leaves) merge.directories

abbrev pub leaf_datoms : Nodes → ℕ → List Datom
leaf_datoms nodes id =
    flat_map (λ leaf. leaf.datoms) (filter (λ leaf. nat_eq leaf.id id) nodes.leaves)

abbrev pub directory_datoms : Nodes → ℕ → List Datom
directory_datoms nodes id =
    flat_map (leaf_datoms nodes)
    (flat_map (λ directory. directory.leaves)
    (filter (λ directory. nat_eq directory.id id) nodes.directories))

abbrev pub tree_datoms : Nodes → List ℕ → List Datom
tree_datoms nodes ids = flat_map (directory_datoms nodes) ids

abbrev pub kept_root : Nodes → MergeRecord → KeptRoot
kept_root nodes merge =
    record {
      lists = record {
        eavt = tree_datoms nodes merge.roots.eavt;
        aevt = tree_datoms nodes merge.roots.aevt;
        avet = tree_datoms nodes merge.roots.avet;
        vaet = tree_datoms nodes merge.roots.vaet;
      };
      c = merge.c;
    }

-- a bad record keeps no root, and nothing after it counts
abbrev pub kept_by : Nodes → MergeSays → (Nodes → List KeptRoot) → List KeptRoot
kept_by nodes (bad_from byte) behind = []
kept_by nodes (merges merge) behind =
    kept_root (with_nodes nodes merge) merge ∷ behind (with_nodes nodes merge)

abbrev pub kept_behind : Nodes → List (List ℕ) → List KeptRoot
kept_behind nodes [] = []
kept_behind nodes (payload ∷ records) =
    kept_by nodes (record_says nodes payload) (λ next. kept_behind next records)

-- the roots of a file with these records, the oldest first
abbrev pub kept_roots : List (List ℕ) → List KeptRoot
kept_roots records = kept_behind no_nodes records

-- ---- the nodes of a file

-- the nodes of the records before the first bad one
abbrev pub nodes_by : Nodes → MergeSays → (Nodes → Nodes) → Nodes
nodes_by nodes (bad_from byte) behind = nodes
nodes_by nodes (merges merge) behind = behind (with_nodes nodes merge)

abbrev pub nodes_behind : Nodes → List (List ℕ) → Nodes
nodes_behind nodes [] = nodes
nodes_behind nodes (payload ∷ records) =
    nodes_by nodes (record_says nodes payload) (λ next. nodes_behind next records)

abbrev pub nodes_of : List (List ℕ) → Nodes
nodes_of records = nodes_behind no_nodes records

-- none of the records is bad
abbrev pub are_good : List (List ℕ) → Bool
are_good records = nat_eq (length (kept_roots records)) (length records)

-- after such an id no merge may number nodes
abbrev pub has_great_id : Nodes → Bool
has_great_id nodes = list_any (nat_le (2 ^ 61)) (ids_in nodes)

-- the nodes have each id of the tree with these directories
abbrev pub HasTree : Nodes → List ℕ → Type 0
HasTree nodes ids = All (Contains (ids_in nodes)) (flat_map (ids_below nodes) ids)

-- ---- the root that a history is opened with

-- how many datoms the index has
abbrev pub index_len : List Entry → Order → ℕ
index_len h order = length (filter (λ d. covers (facts h) order d.a) (said h))

-- its trees are the indexes of the entries up to its c
abbrev pub Agrees : List Entry → KeptRoot → Type 0
Agrees h root = RootStands root.lists h root.c

abbrev pub NoneAgrees : List Entry → List KeptRoot → Type 0
NoneAgrees h roots = (root : KeptRoot) → Contains roots root → Agrees h root → ⊥

pub record IsNewestAgreeing (h : List Entry) (kept : List KeptRoot) (root : KeptRoot) : Type 0 where
  pub older : List KeptRoot
  pub newer : List KeptRoot
  pub place : kept ≡ older ++ root ∷ newer
  pub agrees : Agrees h root
  pub newest : NoneAgrees h newer

-- how far the trees go that the history is opened with: the newest root that agrees, or the first
-- entry alone
abbrev pub IsCoverage : List Entry → List KeptRoot → ℕ → Type 0
IsCoverage h kept c =
    ((root : KeptRoot) × IsNewestAgreeing h kept root × (c ≡ root.c))
    ⊎ (NoneAgrees h kept × (c ≡ 0))

-- ---- a file

-- The roots that a file keeps: those of its journal's records, up to the journal's first fault
-- where it has one.
abbrev pub FileKeeps : List ℕ → List KeptRoot → Type 0
FileKeeps file kept =
    (records : List (List ℕ))
    × (
    JournalStands segments_mark records file
    ⊎ ((nth : ℕ) × (at : ℕ) × JournalBreaks segments_mark records file nth at))
    × (kept ≡ kept_roots records)
