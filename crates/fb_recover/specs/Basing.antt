-- The trees and the store that a history is opened with.
-- This project's own choice.
use Rattle.std.specs.Prelude.{◌⊎◌, ◌<◌, ◌≤◌, ◌*◌, ◌^◌, ℕ, List, [], Option, length}
use Rattle.fb_values.specs.declared.facts.Entry.{Entry}
use Rattle.disk_model.specs.Disk.{IfKnown}
use Rattle.view_model.specs.Stands.{RootStands}
use Rattle.seg_tree.specs.Ids.{next_above}
use Rattle.seg_tree.specs.Indexes.{root_ids, trees_of}
use Rattle.fb_journal.specs.Journals.{StaysKnown}
use Rattle.seg_store.specs.Stores.{disk_in as segments_in, next_in, node_count, StoreKeeps}
use Rattle.seg_store.specs.Keeping.{HasGreatNode, FitsStore}
use Rattle.fb_recover.specs.Openings.{AreNumberedFromOne, AreOfFile, HasCoverage, AgreesWithNone}
use Rattle.fb_recover.specs.Openings.{HasFault, HasRoot, HasRecordsOf, IsMostlyDead}
use Rattle.seg_store.specs.Trees.{root_of}
use Rattle.fb_recover.specs.declared.basing.Based.{Based}

-- The trees are those of the newest root of the file that the history agrees with, or of the
-- first entry, and they fit the store. At most half of the nodes of its file are dead, or it has
-- the records that it had. It has them where it has no fault, a root agrees and at most half of its
-- nodes are dead. New nodes then get numbers above those of the trees.
pub record IsBased {D : Type 0} {g : _} (bytes : D → Option (List ℕ)) (images : D → List ℕ → Type 0)
    (known : Option (List ℕ)) (h : List Entry) (based : Based D g) : Type 0 where
  pub stands : RootStands (trees_of based.trees.roots) h based.trees.c
  pub coverage : IfKnown known (HasCoverage h based.trees.c)
  pub fits : FitsStore bytes images based.store based.trees.roots
  pub room : (node_count based.store ≤ 2 * length (root_ids based.trees.roots))
      ⊎ IfKnown known (HasRecordsOf bytes images based.store)
  pub still : IfKnown known (λ file. HasFault file ⊎ AgreesWithNone h file
      ⊎ IsMostlyDead based.trees.roots file ⊎ HasRecordsOf bytes images based.store file)
  pub root : IfKnown known (λ file. HasFault file ⊎ AgreesWithNone h file
      ⊎ HasRoot bytes images based.store (root_of based.trees.roots based.trees.c))
  pub below : IfKnown known (λ file. HasFault file ⊎ AgreesWithNone h file
      ⊎ (next_above (root_ids based.trees.roots) ≤ next_in based.store))
  pub ids : AreNumberedFromOne based.trees.roots ⊎ AreOfFile known based.trees.roots
  pub great : IfKnown known
      (λ file. 2 ^ 61 < next_above (root_ids based.trees.roots) → HasGreatNode file)
  pub anew : IfKnown known (λ file. AgreesWithNone h file
      → AreNumberedFromOne based.trees.roots × StoreKeeps bytes images [] based.store)
  pub stays : StaysKnown known (bytes (segments_in based.store))
