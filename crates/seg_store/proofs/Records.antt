-- One record more behind those that were read: what it keeps, or that it is bad.
use Rattle.std.proofs.Common.{◌≡◌, ◌≤◌, ◌<◌, ℕ, suc, Bool, true, false, List, [], ◌∷◌, ◌++◌, length, refl, sym, ◌∙◌, ap, subst, arith}
use Rattle.std.proofs.Common.{length-append}
use Rattle.std.specs.Prelude.{nat_eq}
use Rattle.std.proofs.lemmas.Bool.{true≢false, eqb-true, eq-eqb, eqb-false, ne_eqb}
use Rattle.log_model.specs.Nodes.{Nodes, no_nodes, MergeRecord}
use Rattle.log_model.specs.Merges.{MergeSays, merges, bad_from, record_says}
use Rattle.log_model.specs.Kept.{KeptRoot, with_nodes, kept_root, kept_by, kept_behind, kept_roots, nodes_by, nodes_behind, nodes_of, are_good}
use Rattle.log_model.proofs.NodesOfFiles.{one_more_root, one_more_nodes, bad_record_stops, distinct-with, distinct-nodes}
use Rattle.seg_tree.specs.declared.roots.Roots.{Roots}
use Rattle.seg_codec.specs.declared.wanted.Wanted.{Wanted}
use Rattle.seg_codec.specs.Trees.{AreTreesOf}
use Rattle.seg_codec.specs.Wanted.{held_nodes}
use Rattle.seg_codec.proofs.Kept.{kept_lists}
use Rattle.seg_codec.proofs.Wholes.{trees_held}
use Rattle.seg_store.specs.declared.loads.KeptTrees.{KeptTrees}
use Rattle.seg_store.specs.Trees.{root_of}
use Rattle.seg_store.specs.Finding.{AreHeld}
use Rattle.seg_store.proofs.Holding.{held_more, held_over}

-- ---- behind a bad record

abbrev are_good_behind : Nodes → List (List ℕ) → Bool
are_good_behind nodes records = nat_eq (length (kept_behind nodes records)) (length records)

-- a record keeps one root at most
few_roots : (nodes : Nodes) (records : List (List ℕ)) → length (kept_behind nodes records) ≤ length records
few_roots nodes [] = omega arith
few_roots nodes (payload ∷ records) = go (record_says nodes payload) (λ next. few_roots next records)
  where
    go : (said : MergeSays) → ((next : Nodes) → length (kept_behind next records) ≤ length records)
        → length (kept_by nodes said (λ next. kept_behind next records)) ≤ length (payload ∷ records)
    go (merges merge) each = omega (arith, each (with_nodes nodes merge))
    go (bad_from byte) each = omega arith

stays_behind : (nodes : Nodes) (records more : List (List ℕ)) → are_good_behind nodes records ≡ false
    → (kept_behind nodes (records ++ more) ≡ kept_behind nodes records)
    × (nodes_behind nodes (records ++ more) ≡ nodes_behind nodes records)
stays_behind nodes [] more bad = absurd (true≢false (sym (eq-eqb 0 0 refl) ∙ bad))
stays_behind nodes (payload ∷ records) more bad = go (record_says nodes payload) (λ next. stays_behind next records more) bad
  where
    go : (said : MergeSays) → ((next : Nodes) → are_good_behind next records ≡ false
        → (kept_behind next (records ++ more) ≡ kept_behind next records)
        × (nodes_behind next (records ++ more) ≡ nodes_behind next records))
        → nat_eq (length (kept_by nodes said (λ next. kept_behind next records))) (length (payload ∷ records)) ≡ false
        → (kept_by nodes said (λ next. kept_behind next (records ++ more)) ≡ kept_by nodes said (λ next. kept_behind next records))
        × (nodes_by nodes said (λ next. nodes_behind next (records ++ more)) ≡ nodes_by nodes said (λ next. nodes_behind next records))
    go (merges merge) each is =
        let next = with_nodes nodes merge in
        let rest = each next (ne_eqb _ _ (λ same. eqb-false (suc (length (kept_behind next records))) (suc (length records)) is
        (ap suc same))) in
        (ap (λ l. kept_root next merge ∷ l) rest.0, rest.1)
    go (bad_from byte) each is = (refl, refl)

pub bad_roots : (records more : List (List ℕ)) → are_good records ≡ false → kept_roots (records ++ more) ≡ kept_roots records
bad_roots records more bad = (stays_behind no_nodes records more bad).0

pub bad_nodes : (records more : List (List ℕ)) → are_good records ≡ false → nodes_of (records ++ more) ≡ nodes_of records
bad_nodes records more bad = (stays_behind no_nodes records more bad).1

-- a file with fewer roots than records has a bad one
fewer : (records : List (List ℕ)) → length (kept_roots records) < length records → are_good records ≡ false
fewer records few = ne_eqb _ _ (λ same. absurd (omega (arith, few, same)))

pub stays_bad : (records more : List (List ℕ)) → are_good records ≡ false → are_good (records ++ more) ≡ false
stays_bad records more bad =
    fewer (records ++ more)
    (let apart : length (kept_roots records) ≡ length records → ⊥ = λ same. eqb-false _ _ bad same in
    let most = few_roots no_nodes records in
    let less : length (kept_roots records) < length records = less_from _ _ most apart in
    omega (arith, less, ap length (bad_roots records more bad), length-append records more))
  where
    less_from : (a b : ℕ) → a ≤ b → (a ≡ b → ⊥) → a < b
    less_from a b most apart = grind (arith, most, apart)

pub bad_good : (records : List (List ℕ)) (payload : List ℕ) (byte : ℕ) → are_good records ≡ true
    → record_says (nodes_of records) payload ≡ bad_from byte → are_good (records ++ payload ∷ []) ≡ false
bad_good records payload byte good says =
    fewer (records ++ payload ∷ [])
    (let counted : length (kept_roots records) ≡ length records = eqb-true _ _ good in
    omega (arith, counted, ap length (bad_record_stops records payload byte [] says).0, length-append records (payload ∷ [])))

-- ---- what is kept

-- the same roots where neither they nor the nodes change
pub same_held : (wanted : Wanted) (records more : List (List ℕ)) (kept : List KeptTrees) → kept_roots more ≡ kept_roots records
    → nodes_of more ≡ nodes_of records
    → AreHeld wanted (nodes_of records) (kept_roots records) kept → AreHeld wanted (nodes_of more) (kept_roots more) kept
same_held wanted records more kept roots nodes are =
    subst (λ (r : List KeptRoot). AreHeld wanted (nodes_of more) r kept) (sym roots)
    (subst (λ (n : Nodes). AreHeld wanted n (kept_roots records) kept) (sym nodes) are)

module _ (records : List (List ℕ)) (payload : List ℕ) (merge : MergeRecord) (good : are_good records ≡ true)
    (says : record_says (nodes_of records) payload ≡ merges merge) where
  abbrev next : Nodes
  next = with_nodes (nodes_of records) merge

  -- the root that the record keeps
  pub root_is : (trees : Roots) (c : ℕ) → AreTreesOf (with_nodes (nodes_of records) merge) merge.roots trees → c ≡ merge.c
      → kept_root (with_nodes (nodes_of records) merge) merge ≡ root_of trees c
  root_is trees c are same =
      let lists = kept_lists next (distinct-with (nodes_of records) payload merge (distinct-nodes records) says) merge trees are in
      λ i. record { lists = lists i; c = sym same i }

  pub one_more_held : (wanted : Wanted) (kept : List KeptTrees) (trees : Roots) (c : ℕ)
      → AreTreesOf (held_nodes wanted (with_nodes (nodes_of records) merge)) merge.roots trees → c ≡ merge.c
      → AreHeld wanted (nodes_of records) (kept_roots records) kept
      → AreHeld wanted (nodes_of (records ++ payload ∷ [])) (kept_roots (records ++ payload ∷ []))
      (kept ++ record { roots = trees; c = c } ∷ [])
  one_more_held wanted kept trees c are same before =
      let more : List KeptTrees = kept ++ record { roots = trees; c = c } ∷ [] in
      subst (λ (r : List KeptRoot). AreHeld wanted (nodes_of (records ++ payload ∷ [])) r more)
      (sym (one_more_root records payload merge good says))
      (subst (λ (n : Nodes). AreHeld wanted n (kept_roots records ++ kept_root next merge ∷ []) more)
      (sym (one_more_nodes records payload merge good says))
      (held_more wanted next (kept_roots records) kept (kept_root next merge) (record { roots = trees; c = c })
      (held_over wanted (nodes_of records) merge (kept_roots records) kept before)
      (λ all. let whole = trees_held wanted next merge.roots trees are all in
      (sym (root_is trees c whole same), (merge.roots, whole)))))
