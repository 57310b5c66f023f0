-- A store of kept roots, and the records of its file.
-- This project's own choice.
use Rattle.std.specs.Prelude.{◌⊎◌, ℕ, List, [], ◌∷◌, ◌++◌, length, Option, IsTrue}
use Rattle.log_model.specs.Kept.{KeptRoot, FileKeeps, nodes_of, are_good}
use Rattle.fb_journal.specs.Journals.{disk_of, stop_of, count_of, Keeps}
use Rattle.seg_tree.specs.Ids.{next_above}
use Rattle.seg_codec.specs.Trees.{AreIdsOf}
use Rattle.seg_store.specs.declared.stores.SegStore.{SegStore}

-- the disk that the store writes to
abbrev pub disk_in : {D : Type 0} {g : _} → SegStore D g → D
disk_in store = disk_of store.journal

-- the record at which it stopped, and how many records it has
abbrev pub stop_in : {D : Type 0} {g : _} → SegStore D g → Option ℕ
stop_in store = stop_of store.journal

abbrev pub count_in : {D : Type 0} {g : _} → SegStore D g → ℕ
count_in store = count_of store.journal

-- the least number that no node of the file has, nor a greater one
abbrev pub next_in : {D : Type 0} {g : _} → SegStore D g → ℕ
next_in store = next_above store.ids

-- how many nodes the file has
abbrev pub node_count : {D : Type 0} {g : _} → SegStore D g → ℕ
node_count store = length store.ids

-- The store goes on and has these records, none of them bad, and it knows the ids of their nodes.
pub record StoreKeeps {D : Type 0} {g : _} (bytes : D → Option (List ℕ))
    (images : D → List ℕ → Type 0) (records : List (List ℕ)) (store : SegStore D g) : Type 0 where
  pub journal : Keeps bytes images records store.journal
  pub good : IsTrue (are_good records)
  pub ids : AreIdsOf store.ids (nodes_of records)

-- the file keeps these roots, or this one besides
abbrev pub KeepsOneMore : List KeptRoot → KeptRoot → List ℕ → Type 0
KeepsOneMore before root file = FileKeeps file before ⊎ FileKeeps file (before ++ root ∷ [])
