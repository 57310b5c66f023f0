-- Backups: what a copy of a log lacks, which logs are no copies, and what is copied of the trees.
-- This project's own choice; Datomic, Backup and Restore, describes copies that are gone on with.
use Rattle.std.specs.Prelude.{◌≡◌, ◌≢◌, ◌⊎◌, ℕ, ◌+◌, List, [], ◌∷◌, ◌++◌, length, map, flat_map}
use Rattle.std.specs.Prelude.{drop, IsTrue, Contains}
use Rattle.fb_values.specs.declared.facts.Entry.{Entry}
use Rattle.disk_model.specs.Journal.{log_mark, segments_mark, JournalStands, JournalBreaks}
use Rattle.log_model.specs.Payload.{entry_bytes}
use Rattle.log_model.specs.Log.{hold, bad_at, entries_behind}
use Rattle.log_model.specs.Nodes.{Nodes, Roots, ids_below, in_order_of_indexes, ids_in}
use Rattle.log_model.specs.Kept.{KeptRoot, kept_roots, nodes_of, are_good}

-- what a backup of a history does to a target
pub data Plan : Type 0 where
  -- the backup appends these entries, in order
  appends : List Entry → Plan
  -- the target is no log: the record, and the byte of the file
  bad_target : ℕ → ℕ → Plan
  -- the target's entry of this t is not the history's, or the history has none
  differs_at : ℕ → Plan

-- A log whose records hold these entries, whatever laws they keep.
pub record IsLogWith (file : List ℕ) (entries : List Entry) : Type 0 where
  pub records : List (List ℕ)
  pub journal : JournalStands log_mark records file
  pub hold_them : entries_behind [] records ≡ hold entries

-- The journal's first fault, or the first record that holds no entry.
pub record IsBadLog (file : List ℕ) (nth at : ℕ) : Type 0 where
  pub records : List (List ℕ)
  pub fault : JournalBreaks log_mark records file nth at
      ⊎ (JournalStands log_mark records file × (entries_behind [] records ≡ bad_at nth at))

-- The first of the entries that is not one of ours follows these, and its t is t.
pub record Differs (entries ours : List Entry) (t : ℕ) : Type 0 where
  pub before : List Entry
  pub entry : Entry
  pub behind : List Entry
  pub entries_are : entries ≡ before ++ entry ∷ behind
  pub t_is : t ≡ length before + 1
  pub other : (ours ≡ before)
      ⊎ (
      (instead : Entry)
      × (more : List Entry)
      × (ours ≡ before ++ instead ∷ more)
      × (entry ≢ instead))

-- the log of a history has its entries 1 to the basis
abbrev pub BackupSays : List ℕ → List Entry → Plan → Type 0
BackupSays file h (appends lacking) =
    (entries : List Entry) × IsLogWith file entries × (drop 1 h ≡ entries ++ lacking)
BackupSays file h (bad_target nth at) = IsBadLog file nth at
BackupSays file h (differs_at t) =
    (entries : List Entry) × IsLogWith file entries × Differs entries (drop 1 h) t

-- the records of the target with these entries after them
abbrev pub with_entries : List (List ℕ) → List Entry → List (List ℕ)
with_entries records entries = records ++ map entry_bytes entries

-- how many entries the target gets
abbrev pub copied_of : Plan → ℕ
copied_of (appends lacking) = length lacking
copied_of (bad_target nth at) = 0
copied_of (differs_at t) = 0

-- ---- trees

-- the ids that these roots reach among the nodes
abbrev pub reached_ids : Nodes → Roots → List ℕ
reached_ids nodes ids = flat_map (flat_map (ids_below nodes)) (in_order_of_indexes ids)

-- The file keeps this root alone, and has the nodes that its ids reach and no others.
pub record IsCopyFile (file : List ℕ) (root : KeptRoot) (ids : Roots) : Type 0 where
  pub records : List (List ℕ)
  pub journal : JournalStands segments_mark records file
  pub good : IsTrue (are_good records)
  pub kept : kept_roots records ≡ root ∷ []
  pub there : (id : ℕ) → Contains (reached_ids (nodes_of records) ids) id
      → Contains (ids_in (nodes_of records)) id
  pub no_others : (id : ℕ) → Contains (ids_in (nodes_of records)) id
      → Contains (reached_ids (nodes_of records) ids) id
