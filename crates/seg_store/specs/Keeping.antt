-- A store on a disk as the worker sees it, by what it was when the database was opened, and what it
-- is now.
-- This project's own choice.
use Rattle.std.specs.Prelude.{◌≤◌, ℕ, List, Option, Contains, IsTrue}
use Rattle.disk_model.specs.Disk.{IfKnown}
use Rattle.log_model.specs.Kept.{KeptRoot, FileKeeps, nodes_of, has_great_id}
use Rattle.fb_journal.specs.Journals.{StaysKnown}
use Rattle.seg_tree.specs.declared.roots.Roots.{Roots}
use Rattle.seg_tree.specs.Ids.{next_above}
use Rattle.seg_tree.specs.Indexes.{root_ids}
use Rattle.seg_codec.specs.Trees.{Fits}
use Rattle.fb_roots.specs.declared.bases.Base.{Base}
use Rattle.seg_store.specs.declared.stores.SegStore.{SegStore}
use Rattle.seg_store.specs.Trees.{root_of}
use Rattle.seg_store.specs.Stores.{disk_in, next_in, StoreKeeps}
use Rattle.seg_store.specs.Loads.{AreRecordsOf}

-- The store goes on, and its disk's bytes are known if they were known then.
pub record GoesOn {D : Type 0} {g : _} (bytes : D → Option (List ℕ))
    (images : D → List ℕ → Type 0) (begun now : SegStore D g) : Type 0 where
  pub records : List (List ℕ)
  pub store : StoreKeeps bytes images records now
  pub known : StaysKnown (bytes (disk_in begun)) (bytes (disk_in now))

-- the file keeps this root among others
abbrev pub FileHas : List ℕ → KeptRoot → Type 0
FileHas file root = (kept : List KeptRoot) × FileKeeps file kept × Contains kept root

-- Where the disk's bytes were known then, a crash now leaves a file
-- that keeps the trees and their c as a root. New nodes get numbers above those of the trees.
pub record HasKept {D : Type 0} {g : _} (bytes : D → Option (List ℕ))
    (images : D → List ℕ → Type 0) (begun : SegStore D g) (base : Base) (now : SegStore D g)
    : Type 0 where
  pub root : IfKnown (bytes (disk_in begun)) (λ _. (image : List ℕ) → images (disk_in now) image
      → FileHas image (root_of base.roots base.c))
  pub below : next_above (root_ids base.roots) ≤ next_in now

-- the store goes on, and the trees fit the nodes of its file
pub record FitsStore {D : Type 0} {g : _} (bytes : D → Option (List ℕ))
    (images : D → List ℕ → Type 0) (store : SegStore D g) (trees : Roots) : Type 0 where
  pub records : List (List ℕ)
  pub keeps : StoreKeeps bytes images records store
  pub fits : Fits (nodes_of records) trees

-- the file has a node with a number after which no merge may go
abbrev pub HasGreatNode : List ℕ → Type 0
HasGreatNode file =
    (records : List (List ℕ)) × AreRecordsOf records file × IsTrue (has_great_id (nodes_of records))
