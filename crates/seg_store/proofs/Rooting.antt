-- What a crash leaves of a store that keeps trees, over a call that keeps others.
use Rattle.std.proofs.Common.{◌≡◌, ◌≤◌, ◌<◌, ◌^◌, inl, inr, ℕ, List, [], ◌∷◌, ◌++◌, length, Option, refl, sym, ap, subst, arith}
use Rattle.std.specs.Prelude.{Contains}
use Rattle.std.proofs.lemmas.List.Elements.{Contains-append_left, Contains-append_right}
use Rattle.disk_model.specs.Disk.{IfKnown, LeavesOnly}
use Rattle.disk_model.specs.Journal.{segments_mark, JournalStands}
use Rattle.disk_model.proofs.Journals.{stands-holds}
use Rattle.log_model.specs.Nodes.{ids_in}
use Rattle.log_model.specs.Kept.{KeptRoot, FileKeeps, kept_roots, nodes_of}
use Rattle.log_model.proofs.KeptRoots.{one_keeping}
use Rattle.fb_journal.specs.Journals.{mark_of, StaysKnown}
use Rattle.fb_roots.specs.declared.bases.Base.{Base}
use Rattle.seg_tree.specs.Ids.{next_above}
use Rattle.seg_tree.specs.Indexes.{root_ids}
use Rattle.seg_codec.specs.Trees.{Fits, ids_lacking}
use Rattle.seg_codec.proofs.Among.{member_here}
use Rattle.seg_store.specs.declared.stores.SegStore.{SegStore}
use Rattle.seg_store.specs.Trees.{root_of, KeepsRoot}
use Rattle.seg_store.specs.Stores.{disk_in, next_in, StoreKeeps, KeepsOneMore}
use Rattle.seg_store.specs.Keeping.{GoesOn, FileHas, HasGreatNode, HasKept, FitsStore}
use Rattle.seg_store.proofs.Numbering.{below_with, no_less, great_too}

held_by_more : (before : List KeptRoot) (root held : KeptRoot) (image : List ℕ) → Contains before held → KeepsOneMore before root image
    → FileHas image held
held_by_more before root held image there (inl was) = (before, was, there)
held_by_more before root held image there (inr more) = (before ++ root ∷ [], more, Contains-append_left before (root ∷ []) held there)

module _ {D : Type 0} {g : _} (bytes : D → Option (List ℕ)) (images : D → List ℕ → Type 0) where
  -- what a crash leaves of a store that keeps the records
  stands_left : (records : List (List ℕ)) (store : SegStore D g) → StoreKeeps bytes images records store
      → IfKnown (bytes (disk_in store)) (λ _. (image : List ℕ) → images (disk_in store) image → JournalStands segments_mark records image)
  stands_left records store keeps = λ file told image left.
      let kept = keeps.journal.file file told in
      let stands : JournalStands segments_mark records file =
      subst (λ (m : List ℕ). JournalStands m records file) store.marked
      (stands-holds (mark_of store.journal) records file (ap length store.marked) kept.0) in
      subst (λ (f : List ℕ). JournalStands segments_mark records f) (sym (kept.1 image left)) stands

  left_of : (records : List (List ℕ)) (store : SegStore D g) → StoreKeeps bytes images records store
      → IfKnown (bytes (disk_in store)) (λ _. (image : List ℕ) → images (disk_in store) image → FileKeeps image (kept_roots records))
  left_of records store keeps = λ file told image left. (records, inl (stands_left records store keeps file told image left), refl)

  -- where the store has a great number, so has each file that a crash leaves
  pub great_left : (records : List (List ℕ)) (store : SegStore D g) → StoreKeeps bytes images records store → 2 ^ 61 < next_in store
      → IfKnown (bytes (disk_in store)) (λ _. (image : List ℕ) → images (disk_in store) image → HasGreatNode image)
  great_left records store keeps great = λ file told image left.
      (records, inl (stands_left records store keeps file told image left), great_too store.ids (ids_in (nodes_of records)) keeps.ids great)

  -- the trees of the newest record
  pub newest_kept : (records : List (List ℕ)) (payload : List ℕ) (base : Base) (begun old new : SegStore D g)
      → KeepsRoot records payload base.roots base.c → StoreKeeps bytes images (records ++ payload ∷ []) new
      → StaysKnown (bytes (disk_in old)) (bytes (disk_in new)) → new.ids ≡ old.ids ++ ids_lacking old.ids base.roots
      → GoesOn bytes images begun old → HasKept bytes images begun base new
  newest_kept records payload base begun old new keeps store told ids goes = record {
    root = λ file was image left.
        let root : KeptRoot = root_of base.roots base.c in
        let mid = goes.known file was in
        let now = told mid.0 mid.1 in (
          kept_roots (records ++ payload ∷ []),
          left_of (records ++ payload ∷ []) new store now.0 now.1 image left,
          subst (λ (kept : List KeptRoot). Contains kept root) (sym keeps.roots)
              (Contains-append_right (kept_roots records) (root ∷ []) root (member_here root [])),
        );
    below = subst (λ (l : List ℕ). next_above (root_ids base.roots) ≤ next_above l) (sym ids) (below_with old.ids base.roots);
  }

  pub goes_further : (records : List (List ℕ)) (begun old new : SegStore D g) → StoreKeeps bytes images records new
      → StaysKnown (bytes (disk_in old)) (bytes (disk_in new)) → GoesOn bytes images begun old → GoesOn bytes images begun new
  goes_further records begun old new store told goes = record {
    records = records;
    store = store;
    known = λ file was. let mid = goes.known file was in told mid.0 mid.1;
  }

  -- trees that were kept before a call that keeps others, whatever it answers
  pub still_kept : (moment : D → ℕ) (since : D → ℕ → List ℕ → Type 0) → ((disk : D) → IfKnown (bytes disk) (images disk))
      → ((disk : D) (t : ℕ) (image : List ℕ) → t ≤ moment disk → images disk image → since disk t image)
      → (base : Base) (old new : SegStore D g)
      → ((records : List (List ℕ)) → StoreKeeps bytes images records old → Fits (nodes_of records) base.roots
      → IfKnown (bytes (disk_in old))
      (λ _. LeavesOnly moment since (disk_in old) (disk_in new) (KeepsOneMore (kept_roots records) (root_of base.roots base.c))))
      → FitsStore bytes images old base.roots → next_in old ≤ next_in new
      → (begun : SegStore D g) (older : Base) → GoesOn bytes images begun old → HasKept bytes images begun older old
      → HasKept bytes images begun older new
  still_kept moment since reads_an_image counts_now base old new run fits no_fewer begun older goes kept = record {
    root = λ file was image left.
        let records : List (List ℕ) = fits.records in
        let held : KeptRoot = root_of older.roots older.c in
        let mid = goes.known file was in
        let read = reads_an_image (disk_in old) mid.0 mid.1 in
        let had = kept.root file was mid.0 read in
        let same : had.0 ≡ kept_roots records =
        one_keeping mid.0 had.0 (kept_roots records) had.1 (left_of records old fits.keeps mid.0 mid.1 mid.0 read) in
        let now = run records fits.keeps fits.fits mid.0 mid.1 in
        held_by_more (kept_roots records) (root_of base.roots base.c) held image
        (subst (λ (roots : List KeptRoot). Contains roots held) same had.2)
        (now.each image (counts_now (disk_in new) (moment (disk_in old)) image now.later left));
    below = omega (arith, kept.below, no_fewer);
  }

-- what the next number is, by the ids
pub next_as : {D : Type 0} {g : _} (old new : SegStore D g) → new.ids ≡ old.ids → next_in old ≤ next_in new
next_as old new same = omega (arith, ap next_above same)

pub next_with : {D : Type 0} {g : _} (old new : SegStore D g) (more : List ℕ) → new.ids ≡ old.ids ++ more → next_in old ≤ next_in new
next_with old new more are = omega (arith, ap next_above are, no_less old.ids more)
