-- What is loaded of a file of segments.
-- This project's own choice.
use Rattle.std.specs.Prelude.{◌≡◌, ◌⊎◌, ℕ, List, [], ◌∷◌, ◌++◌, Option, Some, All, false, map}
use Rattle.io_faults.specs.Faults.{Rose}
use Rattle.disk_model.specs.Disk.{IfKnown}
use Rattle.disk_model.specs.Journal.{segments_mark, JournalStands, JournalBreaks}
use Rattle.log_model.specs.Nodes.{Roots}
use Rattle.log_model.specs.Kept.{KeptRoot, FileKeeps, kept_roots, nodes_of, are_good}
use Rattle.seg_codec.specs.Trees.{AreTreesOf, Fits}
use Rattle.seg_store.specs.declared.loads.KeptTrees.{KeptTrees}
use Rattle.seg_store.specs.declared.loads.Loaded.{Loaded}
use Rattle.seg_store.specs.declared.loads.LoadFault.{LoadFault}
use Rattle.seg_store.specs.declared.loads.LoadFault.TheVariants.{Disk, Memory}
use Rattle.seg_store.specs.declared.newest.NewestRoot.{NewestRoot}
use Rattle.seg_store.specs.declared.newest.Newest.{Newest}
use Rattle.seg_store.specs.declared.newest.Newest.TheVariants.{Root, Whole}
use Rattle.seg_store.specs.declared.stores.SegStore.{SegStore}
use Rattle.seg_store.specs.Trees.{root_of}
use Rattle.seg_store.specs.Stores.{disk_in, StoreKeeps}

-- trees as a root of a file
abbrev pub kept_of : KeptTrees → KeptRoot
kept_of kept = root_of kept.roots kept.c

-- the roots that these records keep, each as trees of their nodes
pub record AreKept (records : List (List ℕ)) (kept : List KeptTrees) : Type 0 where
  pub roots : map kept_of kept ≡ kept_roots records
  pub there : All (λ trees. (ids : Roots) × AreTreesOf (nodes_of records) ids trees.roots) kept

-- the records of a file of segments, up to its journal's first fault where it has one
abbrev pub AreRecordsOf : List (List ℕ) → List ℕ → Type 0
AreRecordsOf records file =
    JournalStands segments_mark records file
    ⊎ ((nth : ℕ) × (at : ℕ) × JournalBreaks segments_mark records file nth at)

-- one of the records is bad, or the journal has a fault after them
abbrev pub IsFaulty : List (List ℕ) → List ℕ → Type 0
IsFaulty records file =
    (are_good records ≡ false)
    ⊎ ((nth : ℕ) × (at : ℕ) × JournalBreaks segments_mark records file nth at)

-- The roots that the file keeps were loaded, and a store that they fit: it goes
-- on after the file's records, or with a file that was started anew, where that one was faulty.
pub record IsLoaded {D : Type 0} {g : _} (bytes : D → Option (List ℕ))
    (images : D → List ℕ → Type 0) (known : Option (List ℕ)) (loaded : Loaded D g) : Type 0 where
  pub read : List (List ℕ)
  pub file : IfKnown known (AreRecordsOf read)
  pub kept : AreKept read loaded.kept.items
  pub records : List (List ℕ)
  pub goes_on : (records ≡ read) ⊎ ((records ≡ []) × IfKnown known (IsFaulty read))
  pub store : StoreKeeps bytes images records loaded.store
  pub fits : All (λ trees. Fits (nodes_of records) trees.roots) loaded.kept.items

-- a fault of the disk raised its count, and running out of memory did not
abbrev pub CountsLoad : LoadFault → ℕ → ℕ → Type 0
CountsLoad Disk old new = Rose old new
CountsLoad Memory old new = new ≡ old

-- The newest root that the file keeps was loaded, and the store goes on after the file's records.
-- A known file is as it was.
pub record IsNewestRoot {D : Type 0} {g : _} (bytes : D → Option (List ℕ))
    (images : D → List ℕ → Type 0) (known : Option (List ℕ)) (newest : NewestRoot D g)
    : Type 0 where
  pub read : List (List ℕ)
  pub file : IfKnown known (AreRecordsOf read)
  pub older : List KeptRoot
  pub roots : kept_roots read ≡ older ++ kept_of newest.trees ∷ []
  pub ids : Roots
  pub there : AreTreesOf (nodes_of read) ids newest.trees.roots
  pub store : StoreKeeps bytes images read newest.store
  pub same : IfKnown known (λ was. bytes (disk_in newest.store) ≡ Some was)

-- the newest root of the file, or all that it keeps
abbrev pub IsLoadedNewest : {D : Type 0} {g : _} → (D → Option (List ℕ))
    → (D → List ℕ → Type 0) → Option (List ℕ) → Newest D g → Type 0
IsLoadedNewest bytes images known (Root newest) = IsNewestRoot bytes images known newest
IsLoadedNewest bytes images known (Whole loaded) =
    IsLoaded bytes images known loaded
    × IfKnown known (λ file. FileKeeps file (map kept_of loaded.kept.items))

abbrev pub store_in : {D : Type 0} {g : _} → Newest D g → SegStore D g
store_in (Root newest) = newest.store
store_in (Whole loaded) = loaded.store
