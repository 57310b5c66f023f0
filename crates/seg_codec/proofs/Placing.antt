-- Ids and their places, as ids come and go.
use Rattle.std.proofs.Common.{◌≡◌, ◌≤◌, ◌<◌, ◌+◌, ◌^◌, ℕ, Bool, true, false, cond, List, [], ◌∷◌, ◌++◌, length, get_or, refl, sym, ◌∙◌, ap}
use Rattle.std.proofs.Common.{subst, arith, inl, inr, Some, None, take, min, length-append, length-take}
use Rattle.std.specs.Prelude.{Option, is_some, nat_eq, nat_le}
use Rattle.std.specs.Ordering.{is_eq, nat_cmp}
use Rattle.std.specs.BTreeMap.{BTreeMap, get, UpdatesBy, IsUnchanged, IsEmpty, IsUpperBound, btree_map_len, is_at}
use Rattle.std.specs.Map.{lookup}
use Rattle.std.proofs.lemmas.Bool.{true≢false, or_parts, or_from, or_left, or_right, or_cases, eqb-true, eq-eqb, eqb-false}
use Rattle.std.proofs.lemmas.Bool.{ne_eqb, leb-true, leb-false}
use Rattle.std.proofs.lemmas.List.{get_or_append_left, get_or_default, take_all, take-take}
use Rattle.std.proofs.Math.Seq.{get_or-append_seam, take-append_seam}
use Rattle.std.proofs.lemmas.List.Elements.{All-nil, All-push}
use Rattle.std.proofs.lemmas.Map.Keys.{ge_from_not_lt}
use Rattle.log_model.specs.Nodes.{is_among}
use Rattle.seg_tree.specs.Ids.{next_above}
use Rattle.seg_codec.specs.IdPlaces.{ArePlaced}
use Rattle.seg_codec.proofs.Among.{among, among-append, once_none, once_push, once_front, once_apart}

same_number : (m n : ℕ) → is_eq (nat_cmp m n) ≡ nat_eq m n
same_number m n = grind arith

no_some : {A : Type 0} (a : A) → None ≡ Some a → ⊥
no_some a same = cc

pub placed_none : (places : BTreeMap ℕ ℕ) → IsEmpty places → ArePlaced [] places
placed_none places empty = record {
  distinct = once_none;
  small = All-nil (λ id. id < 2 ^ 62);
  none = λ id is. refl;
  some = λ id place is. absurd (no_some place (sym (ap (lookup (is_at (nat_cmp id))) empty) ∙ is));
}

pub placed_same : (ids : List ℕ) (places other : BTreeMap ℕ ℕ) → IsUnchanged places other → ArePlaced ids places → ArePlaced ids other
placed_same ids places other same placed = record {
  distinct = placed.distinct;
  small = placed.small;
  none = λ id is. placed.none id (ap (lookup (is_at (nat_cmp id))) (sym same) ∙ is);
  some = λ id place is. placed.some id place (ap (lookup (is_at (nat_cmp id))) (sym same) ∙ is);
}

some_same : {A : Type 0} (a b : A) → Some a ≡ Some b → a ≡ b
some_same a b same = cc

module _ (ids : List ℕ) (id : ℕ) (places new : BTreeMap ℕ ℕ) where
  pub placed_add : ArePlaced ids places → is_among ids id ≡ false → id < 2 ^ 62
      → UpdatesBy nat_cmp (nat_cmp id) places new (Some (length ids)) → ArePlaced (ids ++ id ∷ []) new
  placed_add placed absent small updates = record {
    distinct = once_push ids id placed.distinct absent;
    small = All-push (λ x. x < 2 ^ 62) ids id placed.small small;
    none = λ q is. none_at q (nat_eq id q) refl is;
    some = λ q place is. some_at q place (nat_eq id q) refl is;
  }
    where
      at : (q : ℕ) (b : Bool) → nat_eq id q ≡ b → get nat_cmp new q ≡ cond b (Some (length ids)) (get nat_cmp places q)
      at q b is = updates.0 q ∙ ap (λ t. cond t (Some (length ids)) (get nat_cmp places q)) (same_number id q ∙ is)

      none_at : (q : ℕ) (b : Bool) → nat_eq id q ≡ b → get nat_cmp new q ≡ None → is_among (ids ++ id ∷ []) q ≡ false
      none_at q true is gone = absurd (no_some (length ids) (sym gone ∙ at q true is))
      none_at q false is gone =
          among-append ids (id ∷ []) q
          ∙ or_from _ _ (placed.none q (sym (at q false is) ∙ gone)) (or_from _ _ (ne_eqb q id (λ same. eqb-false id q is (sym same))) refl)

      some_at : (q place : ℕ) (b : Bool) → nat_eq id q ≡ b → get nat_cmp new q ≡ Some place
          → (place < length (ids ++ id ∷ [])) × (get_or (ids ++ id ∷ []) place 0 ≡ q)
      some_at q place true is found =
          let last : length ids ≡ place = some_same (length ids) place (sym (at q true is) ∙ found) in (
            omega (arith, length-append ids (id ∷ []), last),
            subst (λ k. get_or (ids ++ id ∷ []) k 0 ≡ q) last (get_or-append_seam ids id [] 0 ∙ eqb-true id q is),
          )
      some_at q place false is found =
          let old = placed.some q place (sym (at q false is) ∙ found) in
          (omega (arith, length-append ids (id ∷ []), old.0), get_or_append_left ids (id ∷ []) 0 place old.0 ∙ old.1)

  pub placed_pop : ArePlaced (ids ++ id ∷ []) places → UpdatesBy nat_cmp (nat_cmp id) places new None → ArePlaced ids new
  placed_pop placed updates = record {
    distinct = once_front ids (id ∷ []) placed.distinct;
    small = λ k d below. subst (λ x. x < 2 ^ 62) (get_or_append_left ids (id ∷ []) d k below)
        (placed.small k d (omega (arith, below, length-append ids (id ∷ []))));
    none = λ q is. none_at q (nat_eq id q) refl is;
    some = λ q place is. some_at q place (nat_eq id q) refl is;
  }
    where
      absent : is_among ids id ≡ false
      absent = go (is_among ids id) refl
        where
          go : (b : Bool) → is_among ids id ≡ b → is_among ids id ≡ false
          go true is = absurd (true≢false (sym (among (id ∷ []) id (0, omega arith, refl)) ∙ once_apart ids
              (id ∷ []) placed.distinct id is))
          go false is = is

      at : (q : ℕ) (b : Bool) → nat_eq id q ≡ b → get nat_cmp new q ≡ cond b None (get nat_cmp places q)
      at q b is = updates.0 q ∙ ap (λ t. cond t None (get nat_cmp places q)) (same_number id q ∙ is)

      none_at : (q : ℕ) (b : Bool) → nat_eq id q ≡ b → get nat_cmp new q ≡ None → is_among ids q ≡ false
      none_at q true is gone = ap (is_among ids) (sym (eqb-true id q is)) ∙ absent
      none_at q false is gone = (or_parts (is_among ids q) (is_among (id ∷ []) q) (sym (among-append ids (id ∷ []) q) ∙ placed.none q (sym
          (at q false is) ∙ gone))).0

      some_at : (q place : ℕ) (b : Bool) → nat_eq id q ≡ b → get nat_cmp new q ≡ Some place
          → (place < length ids) × (get_or ids place 0 ≡ q)
      some_at q place true is found = absurd (no_some place (sym (at q true is) ∙ found))
      some_at q place false is found =
          let old = placed.some q place (sym (at q false is) ∙ found) in
          inside old.0 old.1 (nat_eq place (length ids)) refl
        where
          inside : place < length (ids ++ id ∷ []) → get_or (ids ++ id ∷ []) place 0 ≡ q → (t : Bool) → nat_eq place (length ids) ≡ t
              → (place < length ids) × (get_or ids place 0 ≡ q)
          inside below here true last =
              absurd (eqb-false id q is
              (sym (get_or-append_seam ids id [] 0) ∙ ap (λ k. get_or (ids ++ id ∷ []) k 0) (sym (eqb-true place (length ids) last))
              ∙ here))
          inside below here false not_last =
              let apart = eqb-false place (length ids) not_last in
              let lower : place < length ids = omega (arith, below, length-append ids (id ∷ []), apart) in
              (lower, sym (get_or_append_left ids (id ∷ []) 0 place lower) ∙ here)

-- ---- the greatest of them

pub next_above_none : (ids : List ℕ) (places : BTreeMap ℕ ℕ) → ArePlaced ids places → (0 < btree_map_len places → ⊥) → next_above ids ≡ 1
next_above_none [] places placed none = refl
next_above_none (id ∷ ids) places placed none =
    absurd (true≢false (sym (or_left _ _ (eq-eqb id id refl)) ∙ placed.none id (empty places.entries none)))
  where
    empty : (entries : List (ℕ × ℕ)) → (0 < length entries → ⊥) → lookup (is_at (nat_cmp id)) entries ≡ None
    empty [] none = refl
    empty (e ∷ es) none = absurd (none (omega arith))

above_all : (ids : List ℕ) (most : ℕ) → ((id : ℕ) → is_among ids id ≡ true → id ≤ most) → next_above ids ≤ most + 1
above_all [] most each = omega arith
above_all (id ∷ ids) most each =
    omega (arith, each id (or_left _ _ (eq-eqb id id refl)), above_all ids most (λ other is. each other (or_right _ _ is)))

above_each : (ids : List ℕ) (id : ℕ) → is_among ids id ≡ true → id + 1 ≤ next_above ids
above_each [] id is = absurd (true≢false (sym is))
above_each (other ∷ ids) id is =
    elim (or_cases (nat_eq id other) (is_among ids id) is) [
      | inl same ↦ omega (arith, eqb-true id other same)
      | inr later ↦ omega (arith, above_each ids id later)
    ]

-- the greatest key is the greatest id
module _ (ids : List ℕ) (places : BTreeMap ℕ ℕ) (id place : ℕ) where
  pub greatest_small : ArePlaced ids places → get nat_cmp places id ≡ Some place → id < 2 ^ 62
  greatest_small placed is =
      let found = placed.some id place is in
      subst (λ n. n < 2 ^ 62) found.1 (placed.small place 0 found.0)

  pub next_above_greatest : ArePlaced ids places → get nat_cmp places id ≡ Some place → IsUpperBound nat_cmp places id
      → next_above ids ≡ id + 1
  next_above_greatest placed is bound =
      let found = placed.some id place is in
      let here = among ids id (place, found.0, sym (get_or_default ids place 0 id found.0) ∙ found.1) in
      omega (arith, above_each ids id here, above_all ids id below)
    where
      below : (other : ℕ) → is_among ids other ≡ true → other ≤ id
      below other there = go (get nat_cmp places other) refl
        where
          go : (o : Option ℕ) → get nat_cmp places other ≡ o → other ≤ id
          go None none = absurd (true≢false (sym there ∙ placed.none other none))
          go (Some p) some = ge_from_not_lt id other (bound other (ap is_some some))

-- ---- beginnings

abbrev pub IsCut : List ℕ → List ℕ → ℕ → Type 0
IsCut ids now len = (n : ℕ) × (now ≡ take n ids) × (len ≤ n)

pub cut_start : (ids : List ℕ) (len : ℕ) → IsCut ids ids len
cut_start ids len = (length ids + len, sym (take_all (length ids + len) ids (omega arith)), omega arith)

pub cut_step : (ids now next : List ℕ) (len : ℕ) → IsCut ids now len → (id : ℕ) × (now ≡ next ++ id ∷ []) → len < length now
    → IsCut ids next len
cut_step ids now next len cut last longer =
    let long : length now ≡ length next + 1 = ap length last.1 ∙ length-append next (last.0 ∷ []) in
    let most : length now ≤ cut.0 = omega (arith, ap length cut.1, length-take cut.0 ids) in (
      length next,
      sym (take-append_seam next (last.0 ∷ [])) ∙ ap (take (length next)) (sym last.1 ∙ cut.1)
          ∙ take-take (length next) cut.0 ids (omega (arith, long, most)),
      omega (arith, long, longer),
    )

pub cut_end : (ids now : List ℕ) (len : ℕ) → IsCut ids now len → length now ≤ len → now ≡ take len ids
cut_end ids now len cut short =
    let whole : length now ≡ min cut.0 (length ids) = ap length cut.1 ∙ length-take cut.0 ids in
    go (nat_le cut.0 (length ids)) refl whole
  where
    go : (b : Bool) → nat_le cut.0 (length ids) ≡ b → length now ≡ min cut.0 (length ids) → now ≡ take len ids
    go true fits whole =
        let low = leb-true cut.0 (length ids) fits in
        let same : cut.0 ≡ len = omega (arith, whole, low, short, cut.2) in
        cut.1 ∙ ap (λ n. take n ids) same
    go false past whole =
        let high = leb-false cut.0 (length ids) past in
        cut.1 ∙ take_all cut.0 ids (omega (arith, high)) ∙ sym (take_all len ids (omega (arith, whole, high, short)))
