-- The trees that a history is opened with: those of the newest root that it agrees with, or of its first entry.
use Rattle.std.proofs.Common.{◌≡◌, ◌∙◌, ◌⊎◌, ◌≤◌, ◌*◌, ◌^◌, inl, inr, ⊎_elim, ℕ, Bool, true, false, List, [], ◌∷◌, Option, Some, Result, Ok, Err, length, map, nat_lt}
use Rattle.std.proofs.Common.{refl, sym, ap, subst, arith}
use Rattle.std.specs.Prelude.{Contains, IsTrue, IfOk, nat_eq}
use Rattle.std.specs.Cmp.{IsEquivalence}
use Rattle.std.specs.List.{IsDistinct}
use Rattle.std.proofs.lemmas.Bool.{eqb-true, eq-eqb, ne_eqb, ltb-true, ltb-false}
use Rattle.std.proofs.lemmas.Map.Made.{length-le_from_is_member}
use mathlib.Core.Logic.{dite}
use native.Mathlib.Decide.{ℕ_discrete}
use Rattle.std.proofs.lemmas.List.{nil_from_length}
use Rattle.std.proofs.lemmas.List.Elements.{All-contains, Contains-append_right}
use Rattle.fb_values.specs.declared.facts.Entry.{Entry}
use Rattle.fb_model.specs.FirstEntry.{first_entry}
use Rattle.fb_model.specs.Lawful.{IsLawful}
use Rattle.disk_model.specs.Disk.{IfKnown}
use Rattle.view_model.specs.Stands.{RootStands}
use Rattle.log_model.specs.Nodes.{Nodes, Roots as FileRoots, ids_in}
use Rattle.log_model.specs.Kept.{KeptRoot, FileKeeps, Agrees, NoneAgrees, kept_roots, nodes_of, are_good}
use Rattle.log_model.proofs.KeptRoots.{one_keeping}
use Rattle.fb_journal.specs.Journals.{StaysKnown}
use Rattle.seg_tree.specs.Ids.{next_above}
use Rattle.seg_tree.specs.Indexes.{root_ids, trees_of}
use Rattle.seg_codec.specs.Trees.{AreTreesOf, AreIdsOf, Fits}
use Rattle.seg_codec.proofs.Among.{mapped_member, member_here, member_cases, no_member}
use Rattle.seg_store.specs.declared.loads.KeptTrees.{KeptTrees}
use Rattle.seg_store.specs.declared.loads.Loaded.{Loaded}
use Rattle.seg_store.specs.declared.newest.NewestRoot.{NewestRoot}
use Rattle.seg_store.specs.declared.stores.SegStore.{SegStore}
use Rattle.seg_tree.specs.declared.roots.Roots.{Roots}
use Rattle.seg_store.specs.Stores.{disk_in, next_in, node_count, StoreKeeps}
use Rattle.seg_store.specs.Keeping.{FitsStore}
use Rattle.seg_store.specs.Loads.{kept_of, IsLoaded, IsNewestRoot}
use Rattle.seg_store.proofs.Fitting.{fits_there, fits_none}
use Rattle.seg_store.proofs.NodeCounts.{no_ids}
use Rattle.seg_agree.specs.Newest.{IsNewest}
use Rattle.fb_recover.specs.Openings.{AreNumberedFromOne, AgreesWithNone, HasFault, HasRoot, HasRecordsOf, IsMostlyDead}
use Rattle.fb_recover.specs.Basing.{IsBased}
use Rattle.fb_recover.specs.declared.basing.Based.{Based}
use Rattle.fb_recover.proofs.Greatness.{great_there}
use Rattle.fb_recover.proofs.Numbers.{below_known}
use Rattle.fb_recover.proofs.Trees.{first-stands}

pub IfOk-both : {T E : Type 0} (r : Result T E) (P Q : T → Type 0) → IfOk r P → IfOk r Q → IfOk r (λ x. P x × Q x)
IfOk-both (Ok x) P Q p q = (p, q)
IfOk-both (Err e) P Q p q = tt

pub told_on : (first second third : Option (List ℕ)) → StaysKnown first second → StaysKnown second third → StaysKnown first third
told_on first second third begun later = λ file was. let then = begun file was in later then.0 then.1

no_root_no_record : (records : List (List ℕ)) → kept_roots records ≡ [] → IsTrue (are_good records) → records ≡ []
no_root_no_record records none good =
    let same : length (kept_roots records) ≡ length records = eqb-true (length (kept_roots records)) (length records) good in
    nil_from_length records (sym same ∙ ap length none)

same_test : (a b : ℕ) → nat_eq a b ≡ nat_eq b a
same_test a b =
    dite (ℕ_discrete a b) (λ e. eq-eqb a b e ∙ sym (eq-eqb b a (sym e))) (λ ne. ne_eqb a b ne ∙ sym (ne_eqb b a (λ e. ne (sym e))))

equal_numbers : IsEquivalence nat_eq
equal_numbers = record {
  refl = λ n. eq-eqb n n refl;
  symm = same_test;
  congr = λ a b c same. ap (λ n. nat_eq n c) (eqb-true a b same);
}

-- a file has no fewer nodes than ids of it are known
known_nodes : (ids : List ℕ) (nodes : Nodes) → IsDistinct nat_eq ids → AreIdsOf ids nodes → length ids ≤ length (ids_in nodes)
known_nodes ids nodes distinct are =
    length-le_from_is_member equal_numbers ids (ids_in nodes) distinct (λ id member. sym (are id) ∙ member)

only_one : (one trees : KeptTrees) → Contains (one ∷ []) trees → one ≡ trees
only_one one trees member = elim (member_cases one trees [] member) [ inl same ↦ same | inr later ↦ absurd (no_member trees later) ]

module _ {D : Type 0} {g : _} (bytes : D → Option (List ℕ)) (images : D → List ℕ → Type 0) (told : Option (List ℕ)) (h : List Entry) where
  -- a store that keeps no root has no record
  pub no_record : (loaded : Loaded D g) → IsLoaded bytes images told loaded → loaded.kept.items ≡ []
      → StoreKeeps bytes images [] loaded.store
  no_record loaded is none =
      let roots : kept_roots is.read ≡ [] = sym is.kept.roots ∙ ap (λ (kept : List KeptTrees). map kept_of kept) none in
      subst (λ (records : List (List ℕ)). StoreKeeps bytes images records loaded.store)
      (⊎_elim
      (λ same.
      let good = subst (λ (records : List (List ℕ)). IsTrue (are_good records)) same is.store.good in
      same ∙ no_root_no_record is.read roots good)
      (λ anew. anew.0) is.goes_on)
      is.store

  -- a root that was loaded fits the store
  pub fits_loaded : (loaded : Loaded D g) (trees : KeptTrees) → IsLoaded bytes images told loaded → Contains loaded.kept.items trees
      → FitsStore bytes images loaded.store trees.roots
  fits_loaded loaded trees is member = record {
    records = is.records;
    keeps = is.store;
    fits = All-contains (λ (k : KeptTrees). Fits (nodes_of is.records) k.roots) loaded.kept.items trees is.fits member;
  }

  -- a root that was loaded is one of the store's file, unless the file that was loaded has a fault
  root_loaded : (loaded : Loaded D g) (trees : KeptTrees) → IsLoaded bytes images told loaded → Contains loaded.kept.items trees
      → IfKnown told (λ file. HasFault file ⊎ HasRoot bytes images loaded.store (kept_of trees))
  root_loaded loaded trees is member file was = ⊎_elim
      (λ same.
      let there = mapped_member kept_of loaded.kept.items trees member in
      let kept = subst (λ (roots : List KeptRoot). Contains roots (kept_of trees)) is.kept.roots there in
      inr (is.records, is.store, subst (λ (r : List (List ℕ)). Contains (kept_roots r) (kept_of trees)) (sym same) kept))
      (λ anew. inl (is.read, is.file file was, anew.1 file was))
      is.goes_on

  -- new nodes get numbers above those of a root that was loaded, unless the file that was loaded has a fault
  below_loaded : (loaded : Loaded D g) (ids : FileRoots) (roots : Roots) (is : IsLoaded bytes images told loaded)
      → AreTreesOf (nodes_of is.read) ids roots
      → IfKnown told (λ file. HasFault file ⊎ (next_above (root_ids roots) ≤ next_in loaded.store))
  below_loaded loaded ids roots is there file was = ⊎_elim
      (λ same.
      let known = subst (λ (r : List (List ℕ)). AreIdsOf loaded.store.ids (nodes_of r)) same is.store.ids in
      inr (below_known loaded.store.ids (nodes_of is.read) ids roots known there))
      (λ anew. inl (is.read, is.file file was, anew.1 file was))
      is.goes_on

  -- a store that was loaded has the records of its file, or none
  room_loaded : (loaded : Loaded D g) (store : SegStore D g) (n : ℕ) → IsLoaded bytes images told loaded
      → (node_count store ≤ n) ⊎ (store ≡ loaded.store)
      → (node_count store ≤ n) ⊎ IfKnown told (HasRecordsOf bytes images store)
  room_loaded loaded store n is (inl few) = inl few
  room_loaded loaded store n is (inr same) =
      subst (λ (s : SegStore D g). (node_count s ≤ n) ⊎ IfKnown told (HasRecordsOf bytes images s)) (sym same)
      (⊎_elim
      (λ read. inr (λ file was.
      (is.read, is.file file was, subst (λ (r : List (List ℕ)). StoreKeeps bytes images r loaded.store) read is.store)))
      (λ anew.
      let empty = subst (λ (r : List (List ℕ)). StoreKeeps bytes images r loaded.store) anew.0 is.store in
      inl (omega (arith, ap length (no_ids loaded.store.ids empty.ids))))
      is.goes_on)

  -- it stays as it is, unless its file is mostly dead
  still_loaded : (loaded : Loaded D g) (roots : Roots) (store : SegStore D g) → IsLoaded bytes images told loaded
      → IsDistinct nat_eq loaded.store.ids
      → (node_count loaded.store ≤ 2 * length (root_ids roots) → store ≡ loaded.store)
      → IfKnown told (λ file. HasFault file ⊎ AgreesWithNone h file ⊎ IsMostlyDead roots file ⊎ HasRecordsOf bytes images store file)
  still_loaded loaded roots store is distinct stays file was =
      let n = 2 * length (root_ids roots) in
      ⊎_elim
      (λ read.
      let keeps = subst (λ (r : List (List ℕ)). StoreKeeps bytes images r loaded.store) read is.store in
      let nodes = known_nodes loaded.store.ids (nodes_of is.read) distinct keeps.ids in
      let go : (b : Bool) → nat_lt n (node_count loaded.store) ≡ b
      → HasFault file ⊎ AgreesWithNone h file ⊎ IsMostlyDead roots file ⊎ HasRecordsOf bytes images store file =
      elim [
        | true ↦ λ test. inr (inr (inl (is.read, is.file file was, omega (arith, ltb-true n (node_count loaded.store) test, nodes))))
        | false ↦ λ test. inr (inr (inr (
          is.read,
          is.file file was,
          subst (λ (s : SegStore D g). StoreKeeps bytes images is.read s)
              (sym (stays (ltb-false n (node_count loaded.store) test))) keeps,
        )))
      ] in
      go (nat_lt n (node_count loaded.store)) refl)
      (λ anew. inl (is.read, is.file file was, anew.1 file was))
      is.goes_on

  -- the newest root that the history agrees with
  pub based_found : (loaded : Loaded D g) (trees : KeptTrees) (based : Based D g) → IsLoaded bytes images told loaded
      → IfKnown told (λ file. FileKeeps file (map kept_of loaded.kept.items))
      → IsNewest h loaded.kept.items (Some trees)
      → based.trees ≡ trees → FitsStore bytes images based.store trees.roots
      → (HasRoot bytes images loaded.store (kept_of trees) → HasRoot bytes images based.store (kept_of trees))
      → (next_above (root_ids trees.roots) ≤ next_in loaded.store → next_above (root_ids trees.roots) ≤ next_in based.store)
      → (node_count based.store ≤ 2 * length (root_ids trees.roots)) ⊎ (based.store ≡ loaded.store)
      → (node_count loaded.store ≤ 2 * length (root_ids trees.roots) → based.store ≡ loaded.store)
      → IsDistinct nat_eq loaded.store.ids
      → StaysKnown told (bytes (disk_in based.store))
      → IsBased bytes images told h based
  based_found loaded trees based is keeps newest same fits goes_on higher room still distinct stays =
      let member = newest.0 in
      let root = newest.1 in
      let there = All-contains (λ (k : KeptTrees). (ids : FileRoots) × AreTreesOf (nodes_of is.read) ids k.roots) loaded.kept.items trees
      is.kept.there member in
      let found : IsBased bytes images told h (record { store = based.store; trees = trees }) = record {
        stands = root.agrees;
        coverage = λ file was. (map kept_of loaded.kept.items, keeps file was, inl (kept_of trees, root, refl));
        fits = fits;
        root = λ file was.
            ⊎_elim (λ faulty. inl faulty) (λ has. inr (inr (goes_on has))) (root_loaded loaded trees is member file was);
        below = λ file was.
            ⊎_elim (λ faulty. inl faulty) (λ under. inr (inr (higher under)))
            (below_loaded loaded there.0 trees.roots is there.1 file was);
        room = room_loaded loaded based.store (2 * length (root_ids trees.roots)) is room;
        still = still_loaded loaded trees.roots based.store is distinct still;
        ids = inr (is.read, is.file, there.0, there.1);
        great = λ file was above. (is.read, is.file file was, great_there (nodes_of is.read) there.0 trees.roots there.1 above);
        anew = λ file was none.
            let same = one_keeping file none.0 (map kept_of loaded.kept.items) none.1 (keeps file was) in
            let kept = subst (λ (roots : List KeptRoot). Contains roots (kept_of trees)) (sym same)
            (mapped_member kept_of loaded.kept.items trees member) in absurd (none.2 (kept_of trees) kept root.agrees);
        stays = stays;
      } in
      subst (λ (t : KeptTrees). IsBased bytes images told h (record { store = based.store; trees = t })) (sym same) found

  -- so with the newest root alone
  module _ (newest : NewestRoot D g) (is : IsNewestRoot bytes images told newest) where
    newest_among : Contains (kept_roots is.read) (kept_of newest.trees)
    newest_among = subst (λ (roots : List KeptRoot). Contains roots (kept_of newest.trees)) (sym is.roots)
        (Contains-append_right is.older (kept_of newest.trees ∷ []) (kept_of newest.trees) (member_here (kept_of newest.trees) []))

    newest_keeps : IfKnown told (λ file. FileKeeps file (kept_roots is.read))
    newest_keeps file was = (is.read, is.file file was, refl)

    fits_newest : FitsStore bytes images newest.store newest.trees.roots
    fits_newest = record {
      records = is.read;
      keeps = is.store;
      fits = fits_there (nodes_of is.read) is.ids newest.trees.roots is.there;
    }

    pub fits_agreeing : (trees : KeptTrees) → Contains (newest.trees ∷ []) trees → FitsStore bytes images newest.store trees.roots
    fits_agreeing trees one = subst (λ (t : KeptTrees). FitsStore bytes images newest.store t.roots)
        (only_one newest.trees trees one) fits_newest

    still_newest : (store : SegStore D g) → IsDistinct nat_eq newest.store.ids
        → (node_count newest.store ≤ 2 * length (root_ids newest.trees.roots) → store ≡ newest.store)
        → IfKnown told (λ file. HasFault file ⊎ AgreesWithNone h file ⊎ IsMostlyDead newest.trees.roots file
        ⊎ HasRecordsOf bytes images store file)
    still_newest store distinct stays file was =
        let n = 2 * length (root_ids newest.trees.roots) in
        let nodes = known_nodes newest.store.ids (nodes_of is.read) distinct is.store.ids in
        let go : (b : Bool) → nat_lt n (node_count newest.store) ≡ b
        → HasFault file ⊎ AgreesWithNone h file ⊎ IsMostlyDead newest.trees.roots file ⊎ HasRecordsOf bytes images store file =
        elim [
          | true ↦ λ test. inr (inr (inl (is.read, is.file file was, omega (arith, ltb-true n (node_count newest.store) test, nodes))))
          | false ↦ λ test. inr (inr (inr (
            is.read,
            is.file file was,
            subst (λ (s : SegStore D g). StoreKeeps bytes images is.read s)
                (sym (stays (ltb-false n (node_count newest.store) test))) is.store,
          )))
        ] in
        go (nat_lt n (node_count newest.store)) refl

    found_newest : (based : Based D g) → based.trees ≡ newest.trees → RootStands (trees_of newest.trees.roots) h newest.trees.c
        → FitsStore bytes images based.store newest.trees.roots
        → (HasRoot bytes images newest.store (kept_of newest.trees) → HasRoot bytes images based.store (kept_of newest.trees))
        → (next_above (root_ids newest.trees.roots) ≤ next_in newest.store → next_above (root_ids newest.trees.roots) ≤ next_in based.store)
        → (node_count based.store ≤ 2 * length (root_ids newest.trees.roots)) ⊎ (based.store ≡ newest.store)
        → (node_count newest.store ≤ 2 * length (root_ids newest.trees.roots) → based.store ≡ newest.store)
        → IsDistinct nat_eq newest.store.ids
        → StaysKnown told (bytes (disk_in based.store))
        → IsBased bytes images told h based
    found_newest based same agrees fits goes_on higher room still distinct stays =
        let trees = newest.trees in
        let found : IsBased bytes images told h (record { store = based.store; trees = trees }) = record {
          stands = agrees;
          coverage = λ file was. (
            kept_roots is.read,
            newest_keeps file was,
            inl (
              kept_of trees,
              record {
                older = is.older;
                newer = [];
                place = is.roots;
                agrees = agrees;
                newest = λ root member stands. no_member root member;
              },
              refl,
            ),
          );
          fits = fits;
          root = λ file was. inr (inr (goes_on (is.read, is.store, newest_among)));
          below = λ file was. inr (inr (higher (below_known newest.store.ids (nodes_of is.read) is.ids trees.roots is.store.ids is.there)));
          room = ⊎_elim (λ few. inl few)
              (λ kept. inr (λ file was. (
                is.read,
                is.file file was,
                subst (λ (s : SegStore D g). StoreKeeps bytes images is.read s) (sym kept) is.store,
              ))) room;
          still = still_newest based.store distinct still;
          ids = inr (is.read, is.file, is.ids, is.there);
          great = λ file was above. (is.read, is.file file was, great_there (nodes_of is.read) is.ids trees.roots is.there above);
          anew = λ file was none.
              let all = one_keeping file none.0 (kept_roots is.read) none.1 (newest_keeps file was) in
              let kept = subst (λ (roots : List KeptRoot). Contains roots (kept_of trees)) (sym all) newest_among in
              absurd (none.2 (kept_of trees) kept agrees);
          stays = stays;
        } in
        subst (λ (t : KeptTrees). IsBased bytes images told h (record { store = based.store; trees = t })) (sym same) found

    pub based_newest : (trees : KeptTrees) (based : Based D g) → IsNewest h (newest.trees ∷ []) (Some trees)
        → based.trees ≡ trees → FitsStore bytes images based.store trees.roots
        → (HasRoot bytes images newest.store (kept_of trees) → HasRoot bytes images based.store (kept_of trees))
        → (next_above (root_ids trees.roots) ≤ next_in newest.store → next_above (root_ids trees.roots) ≤ next_in based.store)
        → (node_count based.store ≤ 2 * length (root_ids trees.roots)) ⊎ (based.store ≡ newest.store)
        → (node_count newest.store ≤ 2 * length (root_ids trees.roots) → based.store ≡ newest.store)
        → IsDistinct nat_eq newest.store.ids
        → StaysKnown told (bytes (disk_in based.store))
        → IsBased bytes images told h based
    based_newest trees based one =
        subst (λ (t : KeptTrees). Agrees h (kept_of t) → based.trees ≡ t → FitsStore bytes images based.store t.roots
        → (HasRoot bytes images newest.store (kept_of t) → HasRoot bytes images based.store (kept_of t))
        → (next_above (root_ids t.roots) ≤ next_in newest.store → next_above (root_ids t.roots) ≤ next_in based.store)
        → (node_count based.store ≤ 2 * length (root_ids t.roots)) ⊎ (based.store ≡ newest.store)
        → (node_count newest.store ≤ 2 * length (root_ids t.roots) → based.store ≡ newest.store)
        → IsDistinct nat_eq newest.store.ids
        → StaysKnown told (bytes (disk_in based.store))
        → IsBased bytes images told h based)
        (only_one newest.trees trees one.0)
        (λ agrees same fits. found_newest based same agrees fits)
        one.1.agrees

  -- the first entry
  pub based_first : (loaded : Loaded D g) (based : Based D g) → IsLawful h
      → IfKnown told (λ file. FileKeeps file (map kept_of loaded.kept.items))
      → NoneAgrees h (map kept_of loaded.kept.items)
      → StoreKeeps bytes images [] based.store
      → RootStands (trees_of based.trees.roots) (first_entry ∷ []) 0 × (based.trees.c ≡ 0)
      → AreNumberedFromOne based.trees.roots → next_above (root_ids based.trees.roots) ≤ 2 ^ 61
      → StaysKnown told (bytes (disk_in based.store)) → IsBased bytes images told h based
  based_first loaded based lawful keeps none empty stands ids few stays = record {
    stands = subst (λ (c : ℕ). RootStands (trees_of based.trees.roots) h c) (sym stands.1)
        (first-stands (trees_of based.trees.roots) h lawful stands.0);
    coverage = λ file was. (map kept_of loaded.kept.items, keeps file was, inr (none, stands.1));
    fits = record { records = []; keeps = empty; fits = fits_none based.trees.roots };
    root = λ file was. inr (inl (map kept_of loaded.kept.items, keeps file was, none));
    below = λ file was. inr (inl (map kept_of loaded.kept.items, keeps file was, none));
    room = inl (omega (arith, ap length (no_ids based.store.ids empty.ids)));
    still = λ file was. inr (inl (map kept_of loaded.kept.items, keeps file was, none));
    ids = inl ids;
    great = λ file was above. absurd (omega (arith, above, few));
    anew = λ file was agrees. (ids, empty);
    stays = stays;
  }

-- What holds of a file that is known later holds of the same file where it is known now.
pub based_known : {D : Type 0} {g : _} (bytes : D → Option (List ℕ)) (images : D → List ℕ → Type 0) (told later : Option (List ℕ))
    (h : List Entry) (based : Based D g) → IfKnown told (λ was. later ≡ Some was) → IsBased bytes images later h based
    → IsBased bytes images told h based
based_known bytes images told later h based same is = record {
  stands = is.stands;
  coverage = λ file was. is.coverage file (same file was);
  fits = is.fits;
  room = ⊎_elim (λ few. inl few) (λ kept. inr (λ file was. kept file (same file was))) is.room;
  still = λ file was. is.still file (same file was);
  root = λ file was. is.root file (same file was);
  below = λ file was. is.below file (same file was);
  ids = ⊎_elim (λ numbered. inl numbered)
      (λ of_file. inr (of_file.0, (λ file was. of_file.1 file (same file was)), of_file.2, of_file.3)) is.ids;
  great = λ file was. is.great file (same file was);
  anew = λ file was. is.anew file (same file was);
  stays = λ file was. is.stays file (same file was);
}
