-- A file that was opened a second time, and what is loaded of it then.
use Rattle.std.proofs.Common.{◌≡◌, ◌≤◌, inl, inr, ⊎_elim, ℕ, List, [], ◌∷◌, ◌++◌, length, Option, Some, sym, ◌∙◌, ap, subst, arith}
use Rattle.std.proofs.Common.{length-append}
use Rattle.disk_model.specs.Disk.{IfKnown}
use Rattle.disk_model.specs.Journal.{segments_mark, JournalBreaks}
use Rattle.log_model.specs.Kept.{KeptRoot, FileKeeps, kept_roots}
use Rattle.fb_journal.specs.Journals.{StaysKnown}
use Rattle.fb_journal.specs.Readings.{IsBegun}
use Rattle.seg_store.specs.declared.loads.Loaded.{Loaded}
use Rattle.seg_store.specs.declared.newest.NewestRoot.{NewestRoot}
use Rattle.seg_store.specs.declared.newest.Newest.{Newest}
use Rattle.seg_store.specs.declared.newest.Newest.TheVariants.{Root, Whole}
use Rattle.seg_store.specs.Loads.{AreRecordsOf, IsFaulty, IsLoaded, IsNewestRoot, IsLoadedNewest}
use Rattle.seg_store.specs.Finding.{IsOpenedAs}

-- ---- files of at most sixteen bytes

short_none : (file : List ℕ) (read : List (List ℕ)) → length file ≤ 16 → AreRecordsOf read file → read ≡ []
short_none file read short are =
    ⊎_elim
    (λ stands. ⊎_elim (λ none. none.1) (λ longer. absurd (omega (arith, short, longer.0))) stands)
    (λ breaks. absurd (omega (arith, short, breaks.2.0)))
    are

module _ (was now : List ℕ) (read : List (List ℕ)) (begun : IsBegun segments_mark was now) where
  short_new : length was ≤ 16 → AreRecordsOf read now → AreRecordsOf read was
  short_new short are = ⊎_elim
      (λ new. inl (inl (short, short_none now read (omega (arith, ap length new.1)) are)))
      (λ same. absurd (omega (arith, short, same.0))) begun

  pub records_opened : AreRecordsOf read now → AreRecordsOf read was
  records_opened are = ⊎_elim (λ new. short_new new.0 are) (λ same. subst (AreRecordsOf read) same.1 are) begun

  pub faulty_opened : IsFaulty read now → IsFaulty read was
  faulty_opened faulty =
      ⊎_elim
      (λ bad. inl bad)
      (λ breaks. ⊎_elim
      (λ new. absurd (omega (arith, ap length new.1, breaks.2.0)))
      (λ same. inr (subst (λ f. (nth : ℕ) × (at : ℕ) × JournalBreaks segments_mark read f nth at) same.1 breaks)) begun)
      faulty

-- a file that keeps a root is as it was
pub same_opened : (told later : Option (List ℕ)) (read : List (List ℕ)) (older : List KeptRoot) (root : KeptRoot)
    → IsOpenedAs told later → IfKnown told (AreRecordsOf read) → kept_roots read ≡ older ++ root ∷ []
    → IfKnown told (λ was. later ≡ Some was)
same_opened told later read older root opened are roots file was =
    let begun = opened file was in
    ⊎_elim
    (λ new.
    let none = short_none file read new.0 (are file was) in
    absurd (omega (arith, ap length (sym (ap kept_roots none) ∙ roots), length-append older (root ∷ []))))
    (λ same. begun.1 ∙ ap Some same.1)
    begun.2

-- by the disk that is given back
pub opened_back : {D : Type 0} (bytes : D → Option (List ℕ)) (told : Option (List ℕ)) (from back : D) → back ≡ from
    → IsOpenedAs told (bytes from) → IsOpenedAs told (bytes back)
opened_back bytes told from back same opened = subst (λ d. IsOpenedAs told (bytes d)) (sym same) opened

-- ---- what is loaded

pub known_opened : (told later now : Option (List ℕ)) → IsOpenedAs told later → StaysKnown later now → StaysKnown told now
known_opened told later now opened stays file was = let begun = opened file was in stays begun.0 begun.1

pub keeps_opened : (told later : Option (List ℕ)) (kept : List KeptRoot) → IsOpenedAs told later
    → IfKnown later (λ file. FileKeeps file kept) → IfKnown told (λ file. FileKeeps file kept)
keeps_opened told later kept opened keeps file was =
    let begun = opened file was in
    let there = keeps begun.0 begun.1 in
    (there.0, records_opened file begun.0 there.0 begun.2 there.1, there.2)

module _ {D : Type 0} {g : _} (bytes : D → Option (List ℕ)) (images : D → List ℕ → Type 0) (told later : Option (List ℕ))
    (opened : IsOpenedAs told later) where
  pub loaded_opened : (loaded : Loaded D g) → IsLoaded bytes images later loaded → IsLoaded bytes images told loaded
  loaded_opened loaded is = record {
    read = is.read;
    file = λ file was. let begun = opened file was in records_opened file begun.0 is.read begun.2 (is.file begun.0 begun.1);
    kept = is.kept;
    records = is.records;
    goes_on = ⊎_elim (λ same. inl same) (λ anew. inr (
      anew.0,
      λ file was.
          let begun = opened file was in faulty_opened file begun.0 is.read begun.2 (anew.1 begun.0 begun.1),
    )) is.goes_on;
    store = is.store;
    fits = is.fits;
  }

  root_opened : (newest : NewestRoot D g) → IsNewestRoot bytes images later newest → IsNewestRoot bytes images told newest
  root_opened newest is =
      let file_is : IfKnown told (AreRecordsOf is.read) = λ file was.
      let begun = opened file was in records_opened file begun.0 is.read begun.2 (is.file begun.0 begun.1) in record {
        read = is.read;
        file = file_is;
        older = is.older;
        roots = is.roots;
        ids = is.ids;
        there = is.there;
        store = is.store;
        same = λ file was. is.same file (same_opened told later is.read is.older _ opened file_is is.roots file was);
      }

  pub newest_opened : (newest : Newest D g) → IsLoadedNewest bytes images later newest → IsLoadedNewest bytes images told newest
  newest_opened (Root newest) is = root_opened newest is
  newest_opened (Whole loaded) is = (loaded_opened loaded is.0, keeps_opened told later _ opened is.1)
