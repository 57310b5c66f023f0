-- What becomes of a run's trees, from the opening to the end.
use Rattle.std.proofs.Common.{◌≡◌, ◌⊎◌, ◌<◌, ◌^◌, inl, inr, ℕ, Bool, true, false, List, ◌++◌, Option, Some, None, refl, sym, ap, ◌∙◌, subst}
use Rattle.std.proofs.Common.{arith}
use Rattle.std.specs.Prelude.{IfSome, nat_lt, map, string_bytes}
use Rattle.std.proofs.lemmas.Bool.{ltb-true, ltb-false}
use Rattle.std.proofs.lemmas.Option.{IfSome_then}
use Rattle.io_faults.specs.Faults.{Rose}
use Rattle.fb_values.specs.declared.facts.Entry.{Entry}
use Rattle.fb_model.specs.History.{upto}
use Rattle.fb_model.specs.Lawful.{IsLawful}
use Rattle.disk_model.specs.Disk.{IfKnown}
use Rattle.view_model.specs.Stands.{RootStands}
use Rattle.seg_tree.specs.Ids.{next_above}
use Rattle.seg_tree.specs.Indexes.{root_ids, trees_of}
use Rattle.seg_store.specs.Trees.{root_of}
use Rattle.seg_store.specs.Stores.{disk_in, next_in}
use Rattle.seg_store.specs.Keeping.{GoesOn, HasKept}
use Rattle.seg_store.specs.declared.stores.SegStore.{SegStore}
use Rattle.seg_store.proofs.Rooting.{great_left}
use Rattle.fb_recover.specs.Openings.{HasCoverage, AgreesWithNone, HasFault}
use Rattle.fb_roots.specs.declared.bases.Base.{Base}
use Rattle.fb_view.specs.SnapshotModel.{SnapshotModel}
use Rattle.fb_core.specs.Cores.{live_datoms}
use Rattle.fb_ports.specs.HostSpec.{HostSpec}
use Rattle.merge_worker.proofs.Standing.{of_longer}
use Rattle.merge_worker.specs.declared.ends.WorkEnd.{WorkEnd}
use Rattle.merge_worker.specs.declared.ends.WorkEnd.TheVariants.{Shut, StoreFault, Spent, Memory}
use Rattle.merge_worker.specs.Work.{IsOldOrKept, start_of, IsOutOfIds}
use Rattle.fb_run.specs.declared.database.Directory.{Directory}
use Rattle.fb_run.specs.declared.merging.Trees.{Trees}
use Rattle.fb_run.specs.declared.outcome.SessionOut.{SessionOut}
use Rattle.fb_run.specs.declared.outcome.Outcome.{Outcome}
use Rattle.fb_run.specs.Outside.{StreamSpec, DiskSpec}
use Rattle.fb_run.specs.Database.{IsOpened}
use Rattle.fb_run.specs.Headline.{stop_of}
use Rattle.fb_run.specs.Causes.{NoSession, IsOutOfMemory}
use Rattle.fb_run.specs.Merging.{TreesStand, TreesFit, trees_in, CountsMerges, StayKept, HaveMerged, NumbersAreUsedUp, HaveSettled}
use Rattle.fb_run.specs.Merging.{LeavesTrees}
use Rattle.fb_run.specs.Coverage.{IsCovered, GoAsFar, IsMerged}
use Rattle.fb_run.specs.Running.{GoesOnFrom, EndsWith, HaveEnded}
use Rattle.fb_run.proofs.Causing.{success_is_merged}
use Rattle.fb_run.proofs.Directories.{root_left}

-- ---- counts

pub counts_by : (end : WorkEnd) (old new : ℕ) {X : Type 0} → (end ≡ StoreFault → Rose old new)
    → ((end ≡ StoreFault → ⊥) → X × (new ≡ old)) → CountsMerges end old new
counts_by Shut old new fault unfailed = (unfailed (λ e. absurd (cc))).1
counts_by StoreFault old new fault unfailed = fault refl
counts_by Spent old new fault unfailed = (unfailed (λ e. absurd (cc))).1
counts_by Memory old new fault unfailed = (unfailed (λ e. absurd (cc))).1

-- nothing failed before
counts_since : (before end : WorkEnd) (first old new : ℕ) → (before ≡ StoreFault → ⊥) → CountsMerges before first old
    → CountsMerges end old new → CountsMerges end first new
counts_since before end first old new not counted counts =
    subst (λ (n : ℕ). CountsMerges end n new) (same before not counted) counts
  where
    same : (e : WorkEnd) → (e ≡ StoreFault → ⊥) → CountsMerges e first old → old ≡ first
    same Shut not is = is
    same StoreFault not is = absurd (not refl)
    same Spent not is = is
    same Memory not is = is

-- ---- merging

-- trees of a history's first entries are of a longer one's too
pub stand_later : {D : Type 0} {g : _} (trees : Trees D g) (h now rest : List Entry) (c : ℕ) → IsLawful h → IsLawful now → now ≡ h ++ rest
    → TreesStand trees h c → TreesStand trees now c
stand_later trees h now rest c first lawful begins stand = record {
  base = of_longer trees.base h now rest c first lawful begins stand.base;
  ahead = IfSome_then trees.ahead stand.ahead (λ ahead of. of_longer ahead h now rest ahead.c first lawful begins of);
}

chained : {S : Type 0} (keeps : Base → S → Type 0) (s t : S) (first mid now : Base) → IsOldOrKept keeps first s mid
    → (keeps mid s → keeps mid t) → IsOldOrKept keeps mid t now → IsOldOrKept keeps first t now
chained keeps s t first mid now (inl was) still (inl is) = inl (is ∙ was)
chained keeps s t first mid now (inr kept) still (inl is) = inr (subst (λ (b : Base). keeps b t) (sym is) (still kept))
chained keeps s t first mid now before still (inr kept) = inr kept

module _ {D : Type 0} {g : _} (disks : DiskSpec D) where
  pub goes_on : (trees : Trees D g) → TreesFit disks trees → GoesOn disks.bytes disks.images trees.store trees.store
  goes_on trees fit = record { records = fit.records; store = fit.keeps; known = λ file spec. (file, spec) }

  -- nothing more was merged
  pub settled_so : (merge_at : ℕ) (begun now : Trees D g) (end : WorkEnd) (last : SnapshotModel) → (end ≡ Shut → ⊥) → (end ≡ Spent → ⊥)
      → HaveMerged disks begun now end → HaveSettled disks merge_at begun now end last
  settled_so merge_at begun now end last not_shut not_spent merged = record {
    base = merged.base;
    stays = merged.stays;
    counts = merged.counts;
    shut = λ is. absurd (not_shut is);
    spent = λ is. absurd (not_spent is);
  }

  module _ (begun mid : Trees D g) (end : WorkEnd) (merged : HaveMerged disks begun mid end) (unfailed : end ≡ StoreFault → ⊥)
      (fit : TreesFit disks mid) (none : begun.ahead ≡ None) where
    great_in_file : 2 ^ 61 < next_in mid.store → NumbersAreUsedUp disks begun (disk_in mid.store)
    great_in_file great = inr (λ file spec image left.
        let later = (merged.goes unfailed).known file spec in
        great_left disks.bytes disks.images fit.records mid.store fit.keeps great later.0 later.1 image left)

    great_base : 2 ^ 61 < next_above (root_ids mid.base.roots) → NumbersAreUsedUp disks begun (disk_in mid.store)
    great_base great = elim merged.base [
      | inl was ↦ inl (subst (λ (b : Base). 2 ^ 61 < next_above (root_ids b.roots)) was great)
      | inr kept ↦ great_in_file (omega (arith, great, kept.below))
    ]

    great_start : (ahead : Option Base) → mid.ahead ≡ ahead → 2 ^ 61 < next_above (root_ids (start_of mid.base ahead).roots)
        → NumbersAreUsedUp disks begun (disk_in mid.store)
    great_start None is great = great_base great
    great_start (Some trees) is great = elim merged.ahead [
      | inl was ↦ let wrong : Some trees ≡ None = sym is ∙ was ∙ none in absurd (cc)
      | inr kept ↦
          let its = subst (λ (o : Option Base). IfSome o (λ b. HasKept disks.bytes disks.images begun.store b mid.store)) is kept in
          great_in_file (omega (arith, great, its.below))
    ]

    -- no number is left for a merge
    pub used_up : IsOutOfIds (next_in mid.store) (start_of mid.base mid.ahead) → NumbersAreUsedUp disks begun (disk_in mid.store)
    used_up out = go (nat_lt (2 ^ 61) (next_in mid.store)) refl
      where
        go : (b : Bool) → nat_lt (2 ^ 61) (next_in mid.store) ≡ b → NumbersAreUsedUp disks begun (disk_in mid.store)
        go true great = great_in_file (ltb-true (2 ^ 61) (next_in mid.store) great)
        go false small = great_start mid.ahead refl (omega (arith, out, ltb-false (2 ^ 61) (next_in mid.store) small))

    -- merging went on in the closed core
    pub settled_on : (merge_at : ℕ) (now : Trees D g) (then : WorkEnd) (last : SnapshotModel)
        → IsOldOrKept (HasKept disks.bytes disks.images begun.store) mid.base now.store now.base
        → ((older : Base) → HasKept disks.bytes disks.images begun.store older mid.store
        → HasKept disks.bytes disks.images begun.store older now.store)
        → CountsMerges then (disks.faults (disk_in mid.store)) (disks.faults (disk_in now.store))
        → (then ≡ Shut → live_datoms last.live < merge_at)
        → (then ≡ Spent → IsOutOfIds (next_in mid.store) (start_of mid.base mid.ahead)) → (then ≡ Spent → now.store ≡ mid.store)
        → HaveSettled disks merge_at begun now then last
    settled_on merge_at now then last base still counts shut spent same = record {
      base = chained (HasKept disks.bytes disks.images begun.store) mid.store now.store begun.base mid.base now.base merged.base
          (still mid.base) base;
      stays = λ older kept. still older (merged.stays older kept);
      counts = counts_since end then (disks.faults (disk_in begun.store)) (disks.faults (disk_in mid.store))
          (disks.faults (disk_in now.store)) unfailed merged.counts counts;
      shut = shut;
      spent = λ is. subst (λ (s : SegStore D g). NumbersAreUsedUp disks begun (disk_in s)) (sym (same is)) (used_up (spent is));
    }

  -- trees that the file keeps cover what they are of
  kept_cover : (begun now : Trees D g) (last : SnapshotModel) → TreesStand now last.entries last.covered
      → HasKept disks.bytes disks.images begun.store now.base now.store
      → IfKnown (disks.bytes (disk_in begun.store)) (λ _. IsCovered disks last.entries last.covered (disk_in now.store))
  kept_cover begun now last stand kept = λ file spec image left. (
    root_of now.base.roots now.base.c,
    kept.root file spec image left,
    stand.base.0,
    subst (λ (c : ℕ). RootStands (trees_of now.base.roots) last.entries c) (sym stand.base.0) stand.base.1,
  )

  -- the trees are kept, where those with which they were begun are
  still_there : (begun now : Trees D g) → IsOldOrKept (HasKept disks.bytes disks.images begun.store) begun.base now.store now.base
      → StayKept disks begun now → HasKept disks.bytes disks.images begun.store begun.base begun.store
      → HasKept disks.bytes disks.images begun.store now.base now.store
  still_there begun now (inl was) stays kept =
      subst (λ (b : Base). HasKept disks.bytes disks.images begun.store b now.store) (sym was) (stays begun.base kept)
  still_there begun now (inr is) stays kept = is

  -- the trees of a closed database, and the disk of their store
  pub leaves_trees : (merge_at : ℕ) (begun now : Trees D g) (end : WorkEnd) (last : SnapshotModel)
      → HaveSettled disks merge_at begun now end last
      → TreesStand now last.entries last.covered → LeavesTrees disks merge_at begun end last (disk_in now.store)
  leaves_trees merge_at begun now end last settled stand = record {
    counts = settled.counts;
    covers = elim settled.base [
      | inl was ↦ inl (sym stand.base.0 ∙ ap (λ (b : Base). b.c) was)
      | inr kept ↦ inr (kept_cover begun now last stand kept)
    ];
    stays = λ kept. kept_cover begun now last stand (still_there begun now settled.base settled.stays kept);
    shut = settled.shut;
    spent = settled.spent;
  }

-- ---- the end, in the words of what the host told

module _ {D : Type 0} {g : _} (spec : HostSpec) (disks : DiskSpec D) (dir : List ℕ) (directory : Directory D g)
    (opened : IsOpened spec disks dir directory) (merge_at : ℕ) (end : WorkEnd) (last : SnapshotModel) (segments : D)
    (trees : LeavesTrees disks merge_at (trees_in directory) end last segments) where
  -- the file of segments had a fault or agreed with nothing, or it keeps the trees of the opening
  begins_kept : (file : List ℕ) → disks.bytes opened.file ≡ Some file
      → (HasFault file ⊎ AgreesWithNone directory.core.snapshot.entries file)
      ⊎ HasKept disks.bytes disks.images directory.store (trees_in directory).base directory.store
  begins_kept file held = elim (opened.reopened.root file held) [
    | inl fault ↦ inl (inl fault)
    | inr rest ↦ elim rest [
      | inl none ↦ inl (inr none)
      | inr has ↦ elim (opened.reopened.below file held) [
        | inl fault ↦ inl (inl fault)
        | inr more ↦ elim more [
          | inl none ↦ inl (inr none)
          | inr above ↦ inr (record {
            root = λ now told image left. root_left disks directory.store _ now image has told left;
            below = above;
          })
        ]
      ]
    ]
  ]

  far : (opening : List Entry) → opening ≡ directory.core.snapshot.entries → GoAsFar spec disks dir opening last segments
  far opening begins = λ file is.
      let held = opened.segments.bytes ∙ is in
      let then = opened.reopened.segments_known file held in
      elim (begins_kept file held) [
        | inr kept ↦ inr (trees.stays kept then.0 then.1)
        | inl lost ↦ elim trees.covers [
          | inl same ↦ inl (subst (λ (h : List Entry). HasCoverage h last.covered file × (HasFault file ⊎ AgreesWithNone h file))
              (sym begins)
              (subst (λ (c : ℕ). HasCoverage directory.core.snapshot.entries c file) (sym same) (opened.reopened.coverage file held), lost))
          | inr left ↦ inr (left then.0 then.1)
        ]
      ]

  none_due : (end ≡ Shut) ⊎ (end ≡ Spent) → IsMerged spec disks dir merge_at last segments
  none_due (inl shut) = inl (trees.shut shut)
  none_due (inr spent) = inr (λ file is.
      let held = opened.segments.bytes ∙ is in
      elim (trees.spent spent) [
        | inl great ↦ inl (opened.reopened.great file held great)
        | inr left ↦ let then = opened.reopened.segments_known file held in inr (left then.0 then.1)
      ])

module _ {I O D : Type 0} {g : _} (spec : HostSpec) (io : StreamSpec I O) (disks : DiskSpec D) (dir : List ℕ) (directory : Directory D g)
    (opened : IsOpened spec disks dir directory) (merge_at : ℕ) (names : List (List ℕ)) (sessions : List (SessionOut I O))
    (outcome : Outcome I O D)
    (ended : (NoSession outcome × IsOutOfMemory outcome) ⊎ HaveEnded io disks merge_at names sessions (trees_in directory) outcome) where
  ends : (l : SnapshotModel) → outcome.last ≡ Some l → (e : EndsWith disks merge_at names (trees_in directory) outcome) × (e.last ≡ l)
  ends l is = elim ended [
    | inl none ↦ let wrong : Some l ≡ None = sym is ∙ none.0.last in absurd (cc)
    | inr ran ↦ let one : Some ran.ends.last ≡ Some l = sym ran.ends.last_is ∙ is in (ran.ends, cc)
  ]

  covers_by : (last : Option SnapshotModel) → outcome.last ≡ last → IfSome last (λ l. GoesOnFrom directory l.entries outcome)
      → IfSome last (λ l. IfSome outcome.segments (GoAsFar spec disks dir (upto l.entries outcome.recovered) l))
  covers_by None is goes_on = tt
  covers_by (Some l) is goes_on =
      let e = ends l is in
      let leaves = subst (λ (k : SnapshotModel). LeavesTrees disks merge_at (trees_in directory) e.0.end k e.0.segments) e.1 e.0.trees in
      subst (λ (o : Option D). IfSome o (GoAsFar spec disks dir (upto l.entries outcome.recovered) l)) (sym e.0.segments_is)
      (far spec disks dir directory opened merge_at e.0.end l e.0.segments leaves (upto l.entries outcome.recovered) goes_on.opened)

  pub run_covers : IfSome outcome.last (λ l. GoesOnFrom directory l.entries outcome)
      → IfSome outcome.last (λ l. IfSome outcome.segments (GoAsFar spec disks dir (upto l.entries outcome.recovered) l))
  run_covers goes_on = covers_by outcome.last refl goes_on

  merged_by : (last : Option SnapshotModel) → outcome.last ≡ last
      → IfSome last (λ l. outcome.status ≡ 0 → IfSome outcome.segments (IsMerged spec disks dir merge_at l))
  merged_by None is = tt
  merged_by (Some l) is = λ success.
      let e = ends l is in
      let leaves = subst (λ (k : SnapshotModel). LeavesTrees disks merge_at (trees_in directory) e.0.end k e.0.segments) e.1 e.0.trees in
      subst (λ (o : Option D). IfSome o (IsMerged spec disks dir merge_at l)) (sym e.0.segments_is)
      (none_due spec disks dir directory opened merge_at e.0.end l e.0.segments leaves
      (success_is_merged e.0.end names (map (λ (s : SessionOut I O). s.end)
      outcome.sessions.items) (stop_of outcome.torn) outcome.status (string_bytes outcome.line) e.0.says success))

  pub run_merges : IfSome outcome.last (λ l. outcome.status ≡ 0 → IfSome outcome.segments (IsMerged spec disks dir merge_at l))
  run_merges = merged_by outcome.last refl
