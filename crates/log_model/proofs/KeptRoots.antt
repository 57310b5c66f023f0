-- Kept roots of a longer file, and the newest that agrees.
use Rattle.std.proofs.Common.{inl, inr, ◌⊎◌, ◌≡◌, ◌<◌, ◌≤◌, ℕ, List, [], ◌∷◌, ◌++◌, get_or, drop, refl, sym, ◌∙◌, ap, subst, arith}
use Rattle.std.specs.Prelude.{Contains, All}
use Rattle.std.proofs.lemmas.List.Elements.{Contains-append_right}
use Rattle.fb_values.specs.declared.facts.Entry.{Entry}
use Rattle.fb_model.specs.History.{basis}
use Rattle.log_model.specs.Nodes.{Nodes}
use Rattle.log_model.specs.Merges.{MergeSays, merges, bad_from, record_says}
use Rattle.disk_model.specs.Journal.{segments_mark, JournalStands, JournalBreaks}
use Rattle.disk_model.proofs.Existence.{some-reading}
use Rattle.disk_model.proofs.Readings.{one-stands, one-fault, not-both}
use Rattle.log_model.specs.Kept.{kept_roots, FileKeeps, KeptRoot, with_nodes, kept_root, kept_by, kept_behind, Agrees, NoneAgrees}
use Rattle.log_model.specs.Kept.{IsNewestAgreeing, IsCoverage}

pub kept_behind-append : (nodes : Nodes) (records more : List (List ℕ))
    → (behind : List KeptRoot) × (kept_behind nodes (records ++ more) ≡ kept_behind nodes records ++ behind)
kept_behind-append nodes [] more = (kept_behind nodes more, refl)
kept_behind-append nodes (payload ∷ records) more = go (record_says nodes payload) (λ next. kept_behind-append next records more)
  where
    go : (said : MergeSays)
        → ((next : Nodes) → (behind : List KeptRoot) × (kept_behind next (records ++ more) ≡ kept_behind next records ++ behind))
        → (behind : List KeptRoot)
        × (kept_by nodes said (λ next. kept_behind next (records ++ more))
        ≡ kept_by nodes said (λ next. kept_behind next records) ++ behind)
    go (merges merge) each =
        let there = each (with_nodes nodes merge) in
        (there.0, ap (λ l. kept_root (with_nodes nodes merge) merge ∷ l) there.1)
    go (bad_from byte) each = ([], refl)

-- ---- the newest root that agrees

has_behind : (older newer : List KeptRoot) (root : KeptRoot) → Contains (older ++ root ∷ newer) root
has_behind older newer root = Contains-append_right older (root ∷ newer) root (0, omega arith, refl)

module _ (h : List Entry) where
  same_newest : (older others newer later : List KeptRoot) (root other : KeptRoot) → older ++ root ∷ newer ≡ others ++ other ∷ later
      → Agrees h root → Agrees h other → NoneAgrees h newer → NoneAgrees h later → root ≡ other
  same_newest [] [] newer later root other same agrees agrees_too none none_too = ap (λ l. get_or l 0 root) same
  same_newest [] (x ∷ others) newer later root other same agrees agrees_too none none_too =
      let tail : newer ≡ others ++ other ∷ later = ap (λ l. drop 1 l) same in
      absurd (none other (subst (λ l. Contains l other) (sym tail) (has_behind others later other)) agrees_too)
  same_newest (x ∷ older) [] newer later root other same agrees agrees_too none none_too =
      let tail : older ++ root ∷ newer ≡ later = ap (λ l. drop 1 l) same in
      absurd (none_too root (subst (λ l. Contains l root) tail (has_behind older newer root)) agrees)
  same_newest (x ∷ older) (y ∷ others) newer later root other same agrees agrees_too none none_too =
      let tail : older ++ root ∷ newer ≡ others ++ other ∷ later = ap (λ l. drop 1 l) same in
      same_newest older others newer later root other tail agrees agrees_too none none_too

  pub one_newest : (kept : List KeptRoot) (root other : KeptRoot) → IsNewestAgreeing h kept root → IsNewestAgreeing h kept other
      → root ≡ other
  one_newest kept root other first second =
      same_newest first.older second.older first.newer second.newer root other
      (sym first.place ∙ second.place) first.agrees second.agrees first.newest second.newest

  none_newest : (kept : List KeptRoot) (root : KeptRoot) → NoneAgrees h kept → IsNewestAgreeing h kept root → ⊥
  none_newest kept root none newest =
      none root (subst (λ l. Contains l root) (sym newest.place) (has_behind newest.older newest.newer root)) newest.agrees

  pub one_coverage : (kept : List KeptRoot) (c other : ℕ) → IsCoverage h kept c → IsCoverage h kept other → c ≡ other
  one_coverage kept c other (inl first) (inl second) =
      first.2 ∙ ap (λ (root : KeptRoot). root.c) (one_newest kept first.0 second.0 first.1 second.1) ∙ sym second.2
  one_coverage kept c other (inl first) (inr none) = absurd (none_newest kept first.0 none.0 first.1)
  one_coverage kept c other (inr none) (inl second) = absurd (none_newest kept second.0 none.0 second.1)
  one_coverage kept c other (inr none) (inr none_too) = none.1 ∙ sym none_too.1

  pub coverage-within : (kept : List KeptRoot) (c : ℕ) → IsCoverage h kept c → c ≤ basis h
  coverage-within kept c (inl newest) = subst (λ n. n ≤ basis h) (sym newest.2) newest.1.agrees.bound
  coverage-within kept c (inr none) = omega (arith, none.1)

pub nothing-kept : (h : List Entry) → IsCoverage h [] 0
nothing-kept h = inr ((λ root has agrees. absurd (omega (arith, has.1))), refl)

pub above-the-basis : (h : List Entry) (root : KeptRoot) → basis h < root.c → Agrees h root → ⊥
above-the-basis h root above agrees = omega (arith, above, agrees.bound)

-- ---- a file

abbrev Reading : List (List ℕ) → List ℕ → Type 0
Reading records file = JournalStands segments_mark records file ⊎ ((nth : ℕ) × (at : ℕ) × JournalBreaks segments_mark records file nth at)

same_records : (file : List ℕ) (records more : List (List ℕ)) → Reading records file → Reading more file → records ≡ more
same_records file records more (inl one) (inl other) = one-stands segments_mark records more file one other
same_records file records more (inl one) (inr other) = absurd (not-both segments_mark records more file other.0 other.1 one other.2)
same_records file records more (inr one) (inl other) = absurd (not-both segments_mark more records file one.0 one.1 other one.2)
same_records file records more (inr one) (inr other) =
    (one-fault segments_mark records more file one.0 other.0 one.1 other.1 one.2 other.2).0

pub one_keeping : (file : List ℕ) (kept other : List KeptRoot) → FileKeeps file kept → FileKeeps file other → kept ≡ other
one_keeping file kept other (records, reading, is) (more, too, also) =
    is ∙ ap kept_roots (same_records file records more reading too) ∙ sym also

pub some_keeping : (file : List ℕ) → All (λ byte. byte < 256) file → (kept : List KeptRoot) × FileKeeps file kept
some_keeping file all = let reading = some-reading segments_mark file refl all in (kept_roots reading.0, (reading.0, reading.1, refl))
