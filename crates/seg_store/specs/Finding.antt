-- What is found in a file of segments, as its records are read one after another.
-- This project's own choice.
use Rattle.std.specs.Prelude.{◌≡◌, ℕ, List, [], ◌∷◌, ◌++◌, Option, Some, true, false, IsTrue, ⊤}
use Rattle.disk_model.specs.Disk.{IfKnown}
use Rattle.disk_model.specs.Journal.{segments_mark}
use Rattle.log_model.specs.Nodes.{Nodes, Roots}
use Rattle.log_model.specs.Kept.{KeptRoot, kept_roots, nodes_of, are_good}
use Rattle.fb_journal.specs.Journals.{StaysKnown}
use Rattle.fb_journal.specs.Readings.{disk_from, IsBegun, HasRead, HasReadAll}
use Rattle.fb_journal.specs.declared.readings.Reading.{Reading}
use Rattle.seg_codec.specs.declared.wanted.Wanted.{Wanted}
use Rattle.seg_codec.specs.Trees.{AreTreesOf, AreIdsOf}
use Rattle.seg_codec.specs.Wanted.{are_wanted, held_nodes}
use Rattle.seg_store.specs.declared.found.Found.{Found}
use Rattle.seg_store.specs.declared.loads.KeptTrees.{KeptTrees}
use Rattle.seg_store.specs.declared.newest.Rooted.{Rooted}
use Rattle.seg_store.specs.declared.newest.First.{First}
use Rattle.seg_store.specs.declared.newest.First.TheVariants.{Empty, Several, Other}
use Rattle.seg_store.specs.Loads.{kept_of, AreRecordsOf, IsFaulty}

-- if all their leaves are wanted, the trees are those of this root, and of the nodes
abbrev pub IsHeld : Wanted → Nodes → KeptRoot → KeptTrees → Type 0
IsHeld wanted nodes root kept =
    IsTrue (are_wanted wanted kept.roots)
    → (kept_of kept ≡ root) × ((ids : Roots) × AreTreesOf nodes ids kept.roots)

-- so it is with each of the roots
abbrev pub AreHeld : Wanted → Nodes → List KeptRoot → List KeptTrees → Type 0
AreHeld wanted nodes [] [] = ⊤
AreHeld wanted nodes [] (kept ∷ more) = ⊥
AreHeld wanted nodes (root ∷ roots) [] = ⊥
AreHeld wanted nodes (root ∷ roots) (kept ∷ more) =
    IsHeld wanted nodes root kept × AreHeld wanted nodes roots more

-- the nodes and the roots of these records, as they are held, and whether none of them is bad
pub record HasFound (wanted : Wanted) (records : List (List ℕ)) (found : Found) : Type 0 where
  pub wanted_is : found.wanted ≡ wanted
  pub nodes : found.nodes ≡ held_nodes wanted (nodes_of records)
  pub kept : AreHeld wanted (nodes_of records) (kept_roots records) found.kept.items
  pub good : found.good ≡ are_good records

-- a file that was opened: it is as it was, or a new journal where it was one
abbrev pub IsOpenedAs : Option (List ℕ) → Option (List ℕ) → Type 0
IsOpenedAs known opened = IfKnown known
    (λ was. (now : List ℕ) × (opened ≡ Some now) × IsBegun segments_mark was now)

-- the disk after a first reading
abbrev pub disk_at : {D : Type 0} {g : _} → First D g → D
disk_at (Empty file) = disk_from file
disk_at (Several disk) = disk
disk_at (Other disk) = disk

-- a first reading of the file: where it goes on, it has read no record yet
abbrev pub IsFirst : {D : Type 0} {g : _} → (D → Option (List ℕ)) → (D → List ℕ → Type 0)
    → (D → ℕ) → (D → ℕ → List ℕ → Type 0) → D → First D g → Type 0
IsFirst bytes images moment since disk (Empty file) =
    HasRead bytes images moment since segments_mark disk [] file
IsFirst bytes images moment since disk (Several back) = IsOpenedAs (bytes disk) (bytes back)
IsFirst bytes images moment since disk (Other back) = IsOpenedAs (bytes disk) (bytes back)

-- These are all records of the file that were read, up to its journal's first fault.
-- Where one is bad, or the journal has a fault, it is known.
pub record HasAllFound {D : Type 0} {g : _} (bytes : D → Option (List ℕ))
    (images : D → List ℕ → Type 0) (moment : D → ℕ) (since : D → ℕ → List ℕ → Type 0)
    (wanted : Wanted) (disk : D) (records : List (List ℕ)) (file : Reading D g) (found : Found)
    : Type 0 where
  pub wanted_is : found.wanted ≡ wanted
  pub nodes : found.nodes ≡ held_nodes wanted (nodes_of records)
  pub kept : AreHeld wanted (nodes_of records) (kept_roots records) found.kept.items
  pub records_are : IfKnown (bytes disk) (AreRecordsOf records)
  pub good : found.good ≡ true → IsTrue (are_good records)
      × HasReadAll bytes images moment since segments_mark disk records file
  pub faulty : found.good ≡ false → IfKnown (bytes disk) (IsFaulty records)
  pub opened : IsOpenedAs (bytes disk) (bytes (disk_from file))
  pub known : StaysKnown (bytes disk) (bytes (disk_from file))

-- These are all records of the file, none of them bad, with the trees of the newest root and the
-- ids of all nodes.
pub record HasRooted {D : Type 0} {g : _} (bytes : D → Option (List ℕ))
    (images : D → List ℕ → Type 0) (moment : D → ℕ) (since : D → ℕ → List ℕ → Type 0)
    (disk : D) (records : List (List ℕ)) (file : Reading D g) (rooted : Rooted) : Type 0 where
  pub records_are : IfKnown (bytes disk) (AreRecordsOf records)
  pub good : IsTrue (are_good records)
  pub read : HasReadAll bytes images moment since segments_mark disk records file
  pub ids : AreIdsOf rooted.ids (nodes_of records)
  pub older : List KeptRoot
  pub roots : kept_roots records ≡ older ++ kept_of rooted.trees ∷ []
  pub tree_ids : Roots
  pub there : AreTreesOf (nodes_of records) tree_ids rooted.trees.roots
