-- What a store keeps behind a record more.
use Rattle.std.proofs.Common.{◌≡◌, ◌<◌, ◌^◌, inl, inr, ⊎_elim, ℕ, true, List, [], ◌∷◌, ◌++◌, length, Option, refl, sym, ◌∙◌, ap, subst}
use Rattle.disk_model.specs.Disk.{IfKnown, LeavesOnly}
use Rattle.disk_model.specs.Journal.{segments_mark, JournalStands}
use Rattle.disk_model.proofs.Journals.{stands-holds}
use Rattle.disk_model.proofs.Moments.{started}
use Rattle.log_model.specs.Payload.{written_format}
use Rattle.log_model.specs.Nodes.{Nodes, MergeRecord, record_bytes_in, is_among}
use Rattle.log_model.specs.Merges.{record_says, merges, IsRecordOf}
use Rattle.log_model.specs.Kept.{KeptRoot, with_nodes, kept_roots, nodes_of, are_good}
use Rattle.log_model.proofs.MergeRecords.{IsRecordOf-says}
use Rattle.log_model.proofs.NodesOfFiles.{one_more_root, one_more_nodes, one_more_good, distinct-nodes}
use Rattle.fb_journal.specs.Journals.{mark_of, Keeps, IsBeforeOrAfter}
use Rattle.seg_tree.specs.Ids.{AreDistinct}
use Rattle.seg_tree.specs.Indexes.{root_ids}
use Rattle.seg_tree.specs.declared.roots.Roots.{Roots}
use Rattle.seg_codec.specs.Trees.{AreTreesOf, roots_of, Fits, merge_over, merge_of, ids_lacking, AreIdsOf, AreWritable}
use Rattle.seg_codec.proofs.Kept.{trees_there, same_ids}
use Rattle.seg_codec.proofs.LackingIds.{ids_behind}
use Rattle.seg_codec.proofs.Over.{record_over}
use Rattle.seg_store.specs.Trees.{root_of, KeepsRoot, IsNextRecord}
use Rattle.seg_store.specs.Stores.{disk_in, StoreKeeps, KeepsOneMore}
use Rattle.seg_store.specs.declared.stores.SegStore.{SegStore}
use Rattle.seg_store.proofs.Fitting.{fits_there, fits_none}
use Rattle.seg_store.proofs.Records.{root_is}

pub next_record : (ids : List ℕ) (trees : Roots) (c : ℕ) (payload : List ℕ)
    → AreDistinct (root_ids trees) → AreWritable trees → c < 2 ^ 32
    → payload ≡ record_bytes_in written_format (merge_over ids trees c)
    → (records : List (List ℕ)) → are_good records ≡ true → AreIdsOf ids (nodes_of records) → Fits (nodes_of records) trees
    → IsNextRecord ids records payload trees c
next_record ids trees c payload distinct writable small bytes records good are fits =
    let nodes : Nodes = nodes_of records in
    let merge : MergeRecord = merge_of nodes trees c in
    let written : payload ≡ record_bytes_in written_format merge =
    bytes ∙ ap (record_bytes_in written_format) (same_ids nodes ids trees c are) in
    let is : IsRecordOf nodes merge payload =
    subst (IsRecordOf nodes merge) (sym written) (record_over nodes trees c (distinct-nodes records) distinct fits writable small) in
    let says : record_says nodes payload ≡ merges merge = IsRecordOf-says nodes merge payload is in
    let after : nodes_of (records ++ payload ∷ []) ≡ with_nodes nodes merge = one_more_nodes records payload merge good says in
    let stand : AreTreesOf (with_nodes nodes merge) (roots_of trees) trees = trees_there nodes trees c fits in
    let there : AreTreesOf (nodes_of (records ++ payload ∷ [])) (roots_of trees) trees =
    subst (λ (n : Nodes). AreTreesOf n (roots_of trees) trees) (sym after) stand in record {
      good = one_more_good records payload merge good says;
      keeps = record {
        roots = one_more_root records payload merge good says
            ∙ ap (λ (r : KeptRoot). kept_roots records ++ r ∷ []) (root_is records payload merge good says trees c stand refl);
        there = there;
        fits = fits_there (nodes_of (records ++ payload ∷ [])) (roots_of trees) trees there;
      };
      ids_are = subst (AreIdsOf (ids ++ ids_lacking ids trees)) (sym after) (ids_behind nodes ids trees c are);
    }

-- a file that stands for the records, or for them with one that keeps the trees
pub before_or_after : (records : List (List ℕ)) (payload mark image : List ℕ) (trees : Roots) (c : ℕ) → mark ≡ segments_mark
    → KeepsRoot records payload trees c → IsBeforeOrAfter mark records payload image
    → KeepsOneMore (kept_roots records) (root_of trees c) image
before_or_after records payload mark image trees c segments keeps left =
    ⊎_elim
    (λ before. inl (records, inl (subst (λ (m : List ℕ). JournalStands m records image) segments before), refl))
    (λ after. inr (
      records ++ payload ∷ [],
      inl (subst (λ (m : List ℕ). JournalStands m (records ++ payload ∷ []) image) segments after),
      sym keeps.roots,
    ))
    left

module _ {D : Type 0} {g : _} (bytes : D → Option (List ℕ)) (images : D → List ℕ → Type 0) (moment : D → ℕ)
    (since : D → ℕ → List ℕ → Type 0) where
  -- a store that nothing was done to
  pub nothing_done : ((disk : D) (image : List ℕ) → since disk (moment disk) image → images disk image)
      → (records : List (List ℕ)) (store : SegStore D g) (root : KeptRoot) → StoreKeeps bytes images records store
      → IfKnown (bytes (disk_in store))
      (λ _. LeavesOnly moment since (disk_in store) (disk_in store) (KeepsOneMore (kept_roots records) root))
  nothing_done only_now records store root keeps = λ file told.
      let kept = keeps.journal.file file told in
      let stands : JournalStands segments_mark records file =
      subst (λ (m : List ℕ). JournalStands m records file) store.marked
      (stands-holds (mark_of store.journal) records file (ap length store.marked) kept.0) in
      started moment since (disk_in store) (KeepsOneMore (kept_roots records) root) (λ image left. inl (
        records,
        inl (subst (λ (f : List ℕ). JournalStands segments_mark records f)
            (sym (kept.1 image (only_now (disk_in store) image left))) stands),
        refl,
      ))

  -- a store behind one record more
  pub keeps_more : (records : List (List ℕ)) (ids payload : List ℕ) (trees : Roots) (c : ℕ) (store : SegStore D g)
      → IsNextRecord ids records payload trees c → Keeps bytes images (records ++ payload ∷ []) store.journal
      → store.ids ≡ ids ++ ids_lacking ids trees
      → StoreKeeps bytes images (records ++ payload ∷ []) store
  keeps_more records ids payload trees c store next keeps same = record {
    journal = keeps;
    good = next.good;
    ids = subst (λ (l : List ℕ). AreIdsOf l (nodes_of (records ++ payload ∷ []))) (sym same) next.ids_are;
  }

  -- a store whose file has this record alone
  pub keeps_alone : (before payload : List ℕ) (trees : Roots) (c : ℕ) (store : SegStore D g) → before ≡ []
      → ((records : List (List ℕ)) → are_good records ≡ true → AreIdsOf before (nodes_of records) → Fits (nodes_of records) trees
      → IsNextRecord before records payload trees c)
      → Keeps bytes images (payload ∷ []) store.journal → store.ids ≡ before ++ ids_lacking before trees
      → StoreKeeps bytes images (payload ∷ []) store × KeepsRoot [] payload trees c
  keeps_alone before payload trees c store none each keeps same =
      let next = each [] refl (λ id. ap (λ ids. is_among ids id) none) (fits_none trees) in
      (keeps_more [] before payload trees c store next keeps same, next.keeps)
