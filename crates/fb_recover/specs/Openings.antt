-- The log's disk after an opening,
-- and what the trees and the store are that a database is opened with.
-- This project's own choice.
use Rattle.std.specs.Prelude.{◌≡◌, ◌<◌, ◌*◌, ℕ, List, length, Option, Result, Ok, Err, Contains}
use Rattle.std.specs.List.{range_with_len}
use Rattle.fb_values.specs.declared.facts.Entry.{Entry}
use Rattle.disk_model.specs.Disk.{IfKnown}
use Rattle.log_model.specs.Nodes.{Roots as FileRoots, ids_in}
use Rattle.log_model.specs.Kept.{KeptRoot, FileKeeps, NoneAgrees, IsCoverage, kept_roots, nodes_of}
use Rattle.seg_tree.specs.Indexes.{root_ids}
use Rattle.seg_tree.specs.declared.roots.Roots.{Roots}
use Rattle.seg_codec.specs.Trees.{AreTreesOf}
use Rattle.seg_store.specs.declared.stores.SegStore.{SegStore}
use Rattle.seg_store.specs.Stores.{StoreKeeps}
use Rattle.seg_store.specs.Loads.{AreRecordsOf, IsFaulty}
use Rattle.disk_log.specs.Logs.{disk_in}
use Rattle.fb_recover.specs.declared.faults.OpenStop.{OpenStop}
use Rattle.fb_recover.specs.declared.reopening.Opened.{Opened}

abbrev pub log_after : {D : Type 0} {g : _} → Result (Opened D g) (OpenStop D) → D
log_after (Ok opened) = disk_in opened.log
log_after (Err stop) = stop.log

-- ---- the trees and the store

-- the ids of the nodes are 1, 2, 3 and so on
abbrev pub AreNumberedFromOne : Roots → Type 0
AreNumberedFromOne roots = root_ids roots ≡ range_with_len 1 (length (root_ids roots))

-- each node of the trees is one of a file, which is this one where it is known
abbrev pub AreOfFile : Option (List ℕ) → Roots → Type 0
AreOfFile known roots =
    (records : List (List ℕ)) × IfKnown known (AreRecordsOf records)
    × (ids : FileRoots) × AreTreesOf (nodes_of records) ids roots

-- The file keeps roots, and so far go the trees of the newest that the history agrees with.
abbrev pub HasCoverage : List Entry → ℕ → List ℕ → Type 0
HasCoverage h c file = (kept : List KeptRoot) × FileKeeps file kept × IsCoverage h kept c

-- the history agrees with no root that the file keeps
abbrev pub AgreesWithNone : List Entry → List ℕ → Type 0
AgreesWithNone h file = (kept : List KeptRoot) × FileKeeps file kept × NoneAgrees h kept

-- a record of the file is bad, or its journal has a fault
abbrev pub HasFault : List ℕ → Type 0
HasFault file = (records : List (List ℕ)) × AreRecordsOf records file × IsFaulty records file

-- the store goes on, and its file keeps this root
abbrev pub HasRoot : {D : Type 0} {g : _} → (D → Option (List ℕ)) → (D → List ℕ → Type 0)
    → SegStore D g → KeptRoot → Type 0
HasRoot bytes images store root =
    (records : List (List ℕ))
    × StoreKeeps bytes images records store
    × Contains (kept_roots records) root

-- the store goes on, and its file has the records of this one
abbrev pub HasRecordsOf : {D : Type 0} {g : _} → (D → Option (List ℕ)) → (D → List ℕ → Type 0)
    → SegStore D g → List ℕ → Type 0
HasRecordsOf bytes images store file =
    (records : List (List ℕ)) × AreRecordsOf records file × StoreKeeps bytes images records store

-- the file has more than two nodes for each node of these trees
abbrev pub IsMostlyDead : Roots → List ℕ → Type 0
IsMostlyDead roots file =
    (records : List (List ℕ))
    × AreRecordsOf records file
    × (2 * length (root_ids roots) < length (ids_in (nodes_of records)))
