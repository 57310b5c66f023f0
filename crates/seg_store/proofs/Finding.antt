-- What is found with one record more.
use Rattle.std.proofs.Common.{◌≡◌, inl, inr, ℕ, true, false, List, [], ◌∷◌, ◌++◌, Option, sym, ◌∙◌, ap, subst}
use Rattle.std.proofs.lemmas.Bool.{true≢false}
use Rattle.disk_model.specs.Disk.{IfKnown}
use Rattle.disk_model.specs.Journal.{segments_mark, JournalBreaks}
use Rattle.log_model.specs.Nodes.{Nodes, MergeRecord}
use Rattle.log_model.specs.Merges.{merges, bad_from, record_says}
use Rattle.log_model.specs.Kept.{with_nodes, kept_roots, nodes_of, are_good}
use Rattle.log_model.proofs.NodesOfFiles.{one_more_nodes, one_more_good, bad_record_stops}
use Rattle.fb_journal.specs.Journals.{StaysKnown}
use Rattle.fb_journal.specs.Readings.{disk_from, HasRead, HasReadAll}
use Rattle.fb_journal.specs.declared.readings.Reading.{Reading}
use Rattle.seg_codec.specs.declared.wanted.Wanted.{Wanted}
use Rattle.seg_codec.specs.Trees.{AreTreesOf}
use Rattle.seg_codec.specs.Wanted.{held_nodes, held_merge}
use Rattle.seg_codec.specs.Answers.{IsMerged}
use Rattle.seg_codec.proofs.Alike.{says_same}
use Rattle.seg_codec.proofs.Held.{held_alike, held_with}
use Rattle.seg_tree.specs.declared.roots.Roots.{Roots}
use Rattle.seg_store.specs.declared.found.Found.{Found}
use Rattle.seg_store.specs.Finding.{AreHeld, HasFound, HasAllFound}
use Rattle.seg_store.proofs.Records.{bad_roots, bad_nodes, stays_bad, bad_good, same_held, one_more_held}

-- behind a bad record
pub found_behind : (wanted : Wanted) (records : List (List ℕ)) (payload : List ℕ) (found : Found) → found.good ≡ false
    → HasFound wanted records found
    → HasFound wanted (records ++ payload ∷ []) found
found_behind wanted records payload found not_good has =
    let bad : are_good records ≡ false = sym has.good ∙ not_good in record {
      wanted_is = has.wanted_is;
      nodes = has.nodes ∙ ap (held_nodes wanted) (sym (bad_nodes records (payload ∷ []) bad));
      kept = same_held wanted records (records ++ payload ∷ []) found.kept.items (bad_roots records (payload ∷ []) bad)
          (bad_nodes records (payload ∷ []) bad) has.kept;
      good = not_good ∙ sym (stays_bad records (payload ∷ []) bad);
    }

module _ (wanted : Wanted) (records : List (List ℕ)) (payload : List ℕ) (old new : Found) (was_good : old.good ≡ true)
    (has : HasFound wanted records old) (still_wanted : new.wanted ≡ old.wanted) where
  good : are_good records ≡ true
  good = sym has.good ∙ was_good

  -- what is held of the nodes tells as much of a record as the nodes do
  same_says : record_says (nodes_of records) payload ≡ record_says old.nodes payload
  same_says =
      sym (says_same (held_nodes wanted (nodes_of records)) (nodes_of records) (held_alike wanted (nodes_of records)) payload)
      ∙ ap (λ (n : Nodes). record_says n payload) (sym has.nodes)

  -- with a record that keeps trees
  pub found_more : (trees : Roots) (c : ℕ) → IsMerged old.wanted old.nodes new.nodes (record_says old.nodes payload) trees c
      → new.kept.items ≡ old.kept.items ++ record { roots = trees; c = c } ∷ [] → new.good ≡ true
      → HasFound wanted (records ++ payload ∷ []) new
  found_more trees c own items still_good =
      let merged = subst (λ (w : Wanted). IsMerged w old.nodes new.nodes (record_says old.nodes payload) trees c) has.wanted_is own in
      let merge : MergeRecord = merged.merge in
      let says : record_says (nodes_of records) payload ≡ merges merge = same_says ∙ merged.said in
      let nodes_is : new.nodes ≡ held_nodes wanted (with_nodes (nodes_of records) merge) =
      merged.nodes ∙ ap (λ (n : Nodes). with_nodes n (held_merge wanted merge)) has.nodes
      ∙ held_with wanted (nodes_of records) merge in record {
        wanted_is = still_wanted ∙ has.wanted_is;
        nodes = nodes_is ∙ ap (held_nodes wanted) (sym (one_more_nodes records payload merge good says));
        kept = subst (AreHeld wanted (nodes_of (records ++ payload ∷ [])) (kept_roots (records ++ payload ∷ []))) (sym items)
            (one_more_held records payload merge good says wanted old.kept.items trees c
            (subst (λ (n : Nodes). AreTreesOf n merge.roots trees) nodes_is merged.trees_are) merged.c_is has.kept);
        good = still_good ∙ sym (one_more_good records payload merge good says);
      }

  -- with a bad one
  pub found_bad : (byte : ℕ) → record_says old.nodes payload ≡ bad_from byte → new.nodes ≡ old.nodes
      → new.kept.items ≡ old.kept.items → new.good ≡ false
      → HasFound wanted (records ++ payload ∷ []) new
  found_bad byte bad nodes items no_more =
      let says : record_says (nodes_of records) payload ≡ bad_from byte = same_says ∙ bad in
      let stops = bad_record_stops records payload byte [] says in record {
        wanted_is = still_wanted ∙ has.wanted_is;
        nodes = nodes ∙ has.nodes ∙ ap (held_nodes wanted) (sym stops.1);
        kept = same_held wanted records (records ++ payload ∷ []) new.kept.items stops.0 stops.1
            (subst (AreHeld wanted (nodes_of records) (kept_roots records)) (sym items) has.kept);
        good = no_more ∙ sym (bad_good records payload byte good says);
      }

-- ---- the end

module _ {D : Type 0} {g : _} (bytes : D → Option (List ℕ)) (images : D → List ℕ → Type 0) (moment : D → ℕ)
    (since : D → ℕ → List ℕ → Type 0) (wanted : Wanted) (disk : D) (records : List (List ℕ)) (file : Reading D g) (found : Found)
    (has : HasFound wanted records found) where
  -- the disk that it reads from tells its bytes still
  still_told : HasRead bytes images moment since segments_mark disk records file → StaysKnown (bytes disk) (bytes (disk_from file))
  still_told read = λ f told. let begun = read.begun f told in (begun.0, begun.1)

  pub found_all : HasReadAll bytes images moment since segments_mark disk records file
      → HasAllFound bytes images moment since wanted disk records file found
  found_all read = record {
    wanted_is = has.wanted_is;
    nodes = has.nodes;
    kept = has.kept;
    records_are = λ f told. inl (read.stands f told);
    good = λ is. (sym has.good ∙ is, read);
    faulty = λ is. λ f told. inl (sym has.good ∙ is);
    opened = read.read.begun;
    known = still_told read.read;
  }

  pub found_broken : (nth at : ℕ) → IfKnown (bytes disk) (λ f. JournalBreaks segments_mark records f nth at)
      → HasRead bytes images moment since segments_mark disk records file
      → HasAllFound bytes images moment since wanted disk records file (record found { good = false })
  found_broken nth at breaks read = record {
    wanted_is = has.wanted_is;
    nodes = has.nodes;
    kept = has.kept;
    records_are = λ f told. inr (nth, at, breaks f told);
    good = λ is. absurd (true≢false (sym is));
    faulty = λ is. λ f told. inr (nth, at, breaks f told);
    opened = read.begun;
    known = still_told read;
  }

-- what was found so far, and where the file is that was opened
pub record Follows {D : Type 0} {g : _} (bytes : D → Option (List ℕ)) (images : D → List ℕ → Type 0) (moment : D → ℕ)
    (since : D → ℕ → List ℕ → Type 0) (wanted : Wanted) (opened now : Reading D g) (found : Found) : Type 0 where
  pub records : List (List ℕ)
  pub reads : (disk : D) → HasRead bytes images moment since segments_mark disk [] opened
      → HasRead bytes images moment since segments_mark disk records now
  pub has : HasFound wanted records found
