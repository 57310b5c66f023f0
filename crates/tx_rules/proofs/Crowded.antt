-- Additions that stand beside another one of their entity and attribute.
use Rattle.std.proofs.Common.{◌≡◌, ℕ, zero, suc, ◌<◌, ◌≤◌, Bool, true, false, cond, not, ◌&&◌, ◌||◌, eqb, List, [], ◌∷◌, length, get_or}
use Rattle.std.proofs.Common.{refl, ap, sym, ◌∙◌, subst, arith, inl, inr, None}
use Rattle.std.specs.Prelude.{filter, IsTrue}
use Rattle.std.specs.List.{list_any, list_all}
use Rattle.std.specs.Ordering.{is_eq}
use Rattle.std.proofs.lemmas.Bool.{true≢false, and_parts, and_from, and_left, or_cases, leb-true, le-leb, cases_order}
use Rattle.std.proofs.lemmas.Cmp.{tied_itself}
use Rattle.std.proofs.lemmas.List.Folds.{list_any_at}
use Rattle.fb_values.specs.declared.facts.Datom.{Datom}
use Rattle.fb_values.specs.declared.facts.Value.TheVariants.{Ref}
use Rattle.fb_values.specs.OrderLaws.{value_cmp_total}
use Rattle.fb_model.specs.Facts.{value_eq}
use Rattle.fb_model.specs.Schema.{is_one}
use Rattle.tx_asks.specs.declared.triples.Triple.{Triple}
use Rattle.tx_asks.specs.Triples.{rise}
use Rattle.tx_rules.specs.Places.{asked_at}
use denote.Ref.{Bor}
use Rattle.tx_rules.specs.Neighbours.{behind, are_of_one_entity, is_beside}
use Rattle.tx_rules.specs.Conflicts.{is_addition, is_withdrawn, is_another_value, conflicts, first_conflict}
use Rattle.tx_rules.proofs.Earlier.{first_where-same, first_where-filter}
use Rattle.tx_rules.proofs.Passing.{two_kept, another_passes, PassesBeside}
use Rattle.tx_rules.proofs.Sorted.{entity_cmp, entity_cmp_total, entity_alike, triple_alike, beside-kept, entities_sorted, apart}
use Rattle.tx_rules.proofs.Sorted.{rise-filter}

pub same_tests : (b c : Bool) → (b ≡ true → c ≡ true) → (c ≡ true → b ≡ true) → b ≡ c
same_tests true c f g = sym (f refl)
same_tests false true f g = g refl
same_tests false false f g = refl

-- additions in order
pub record AreAdditions (triples : List Triple) : Type 0 where
  pub rising : IsTrue (rise triples)
  pub added : IsTrue (list_all is_addition triples)

-- where one of a list passes
pub record IsFound (p : Triple → Bool) (xs : List Triple) (d : Triple) : Type 0 where
  pub place : ℕ
  pub within : place < length xs
  pub passes : p (get_or xs place d) ≡ true

pub found : (p : Triple → Bool) (xs : List Triple) (d : Triple) → list_any p xs ≡ true → IsFound p xs d
found p [] d some = absurd (true≢false (sym some))
found p (x ∷ xs) d some =
    let later : IsFound p xs d → IsFound p (x ∷ xs) d =
    λ at. record { place = suc at.place; within = omega (arith, at.within); passes = at.passes } in
    elim (or_cases (p x) (list_any p xs) some) [
      | inl now ↦ record { place = 0; within = omega arith; passes = now }
      | inr rest ↦ later (found p xs d rest)
    ]

pub all-at : (p : Triple → Bool) (xs : List Triple) (i : ℕ) (d : Triple) → list_all p xs ≡ true → i < length xs → p (get_or xs i d) ≡ true
all-at p [] i d every within = absurd (omega (arith, within))
all-at p (x ∷ xs) zero d every within = (and_parts (p x) (list_all p xs) every).0
all-at p (x ∷ xs) (suc i) d every within = all-at p xs i d (and_parts (p x) (list_all p xs) every).1 (omega (arith, within))

eqb-comm : (m n : ℕ) → eqb m n ≡ eqb n m
eqb-comm m n = grind arith

-- a triple with the same entity and attribute at another place has another value
another-from : (xs : List Triple) (i j : ℕ) (d : Triple) → AreAdditions xs → i < length xs → j < length xs → (j ≡ i → ⊥)
    → are_of_one_entity (get_or xs i d) (get_or xs j d) ≡ true → is_another_value (get_or xs i d) (get_or xs j d) ≡ true
another-from xs i j d additions i_in j_in other one =
    let x = get_or xs i d in
    let y = get_or xs j d in
    let parts = and_parts (eqb x.e y.e) (eqb x.a y.a) one in
    and_from _ _
    (and_from _ _ (and_from _ _ (all-at is_addition xs j d additions.added j_in) (eqb-comm y.e x.e ∙ parts.0)) (eqb-comm y.a x.a ∙ parts.1))
    (differs (value_eq y.v x.v)
    (and-false (are_of_one_entity y x) (value_eq y.v x.v) (and_from _ _ (eqb-comm y.e x.e ∙ parts.0) (eqb-comm y.a x.a ∙ parts.1))
    (sym (triple_alike y x) ∙ apart xs j i d additions.rising j_in i_in other)))
  where
    and-false : (b c : Bool) → b ≡ true → (b && c) ≡ false → c ≡ false
    and-false true c is none = none
    and-false false c is none = absurd (true≢false (sym is))

    differs : (b : Bool) → b ≡ false → not b ≡ true
    differs b is = ap not is

one-from : (x y : Triple) → is_another_value x y ≡ true → are_of_one_entity x y ≡ true
one-from x y is =
    let outer = and_parts (is_addition y && eqb y.e x.e && eqb y.a x.a) (not (value_eq y.v x.v)) is in
    let parts = and_parts (is_addition y && eqb y.e x.e) (eqb y.a x.a) outer.0 in
    and_from _ _ (eqb-comm x.e y.e ∙ (and_parts (is_addition y) (eqb y.e x.e) parts.0).1) (eqb-comm x.a y.a ∙ parts.1)

module _ (xs : List Triple) (additions : AreAdditions xs) (i : ℕ) (d : Triple) (within : i < length xs) where
  abbrev kind : Triple → Bool
  kind = λ y. is_eq (entity_cmp (get_or xs i d) y)

  to_another : 2 ≤ length (filter kind xs) → list_any (is_another_value (get_or xs i d)) xs ≡ true
  to_another two =
      let at : PassesBeside kind xs i d = another_passes kind xs i d two in
      list_any_at (is_another_value (get_or xs i d)) xs at.place d at.within
      (another-from xs i at.place d additions within at.within at.other
      (sym (entity_alike (get_or xs i d) (get_or xs at.place d)) ∙ at.passes))

  itself : (x : Triple) → is_another_value x x ≡ true → ⊥
  itself x is =
      let outer = and_parts (is_addition x && eqb x.e x.e && eqb x.a x.a) (not (value_eq x.v x.v)) is in
      true≢false (sym (sym (ap (λ r. not (is_eq r)) (tied_itself value_cmp_total x.v)) ∙ outer.1))

  kind_of : (j : ℕ) → is_another_value (get_or xs i d) (get_or xs j d) ≡ true → kind (get_or xs j d) ≡ true
  kind_of j is = entity_alike (get_or xs i d) (get_or xs j d) ∙ one-from (get_or xs i d) (get_or xs j d) is

  own_kind : kind (get_or xs i d) ≡ true
  own_kind = ap is_eq (tied_itself entity_cmp_total (get_or xs i d))

  from_another : list_any (is_another_value (get_or xs i d)) xs ≡ true → 2 ≤ length (filter kind xs)
  from_another some =
      let at : IsFound (is_another_value (get_or xs i d)) xs d = found (is_another_value (get_or xs i d)) xs d some in
      elim (cases_order at.place i) [
        | inl same ↦ absurd (itself (get_or xs i d) (subst (λ j. is_another_value (get_or xs i d) (get_or xs j d) ≡ true) same at.passes))
        | inr sides ↦ (elim sides [
          | inl before ↦ two_kept kind xs at.place i d before within (kind_of at.place at.passes) own_kind
          | inr behind ↦ two_kept kind xs i at.place d behind at.within own_kind (kind_of at.place at.passes)
        ])
      ]

  alike_tests : is_beside are_of_one_entity xs i d ≡ is_beside (λ x y. is_eq (entity_cmp x y)) xs i d
  alike_tests = simp entity_alike

  pub crowded : is_beside are_of_one_entity xs i d ≡ list_any (is_another_value (get_or xs i d)) xs
  crowded =
      alike_tests ∙ beside-kept entity_cmp entity_cmp_total xs (entities_sorted xs additions.rising) i d within
      ∙ same_tests _ _ (λ two. to_another (leb-true 2 (length (filter kind xs)) two))
      (λ some. le-leb 2 (length (filter kind xs)) (from_another some))

  -- by the neighbours
  pub conflicts-beside : (facts : List Datom)
      → (is_withdrawn (get_or xs i d) || (is_beside are_of_one_entity xs i d && is_one facts (get_or xs i d).a))
      ≡ conflicts facts xs (get_or xs i d)
  conflicts-beside facts =
      let x = get_or xs i d in
      rw crowded (turned (is_addition x) (is_withdrawn x) (list_any (is_another_value x) xs) (is_one facts x.a)
      (all-at is_addition xs i d additions.added within))
    where
      turned : (added withdrawn another one : Bool) → added ≡ true
          → (withdrawn || (another && one)) ≡ (added && ((one && another) || withdrawn))
      turned true true true true is = refl
      turned true true true false is = refl
      turned true true false true is = refl
      turned true true false false is = refl
      turned true false true true is = refl
      turned true false true false is = refl
      turned true false false true is = refl
      turned true false false false is = refl
      turned false withdrawn another one is = absurd (true≢false (sym is))

-- a triple to stand where a list has none
pub blank : Triple
blank = record { e = 0; a = 0; v = Ref 0; added = None; retracted = None; swept = None; replaced = None; holds = false }

pub length-behind : (refs : List (Bor Triple)) → length (behind refs) ≡ length refs
length-behind [] = refl
length-behind (r ∷ rs) = ap suc (length-behind rs)

-- as the program finds it
module _ (refs : List (Bor Triple)) (i : ℕ) (ref : Bor Triple) (d : Triple) (within : i < length refs) (is : ref ≡ get_or refs i ref) where
  pub behind-at : get_or (behind refs) i d ≡ ref.now
  behind-at = go refs i within is
    where
      go : (refs : List (Bor Triple)) (i : ℕ) → i < length refs → ref ≡ get_or refs i ref → get_or (behind refs) i d ≡ ref.now
      go [] i within is = absurd (omega (arith, within))
      go (r ∷ rs) zero within is = ap (λ (x : Bor Triple). x.now) (sym is)
      go (r ∷ rs) (suc i) within is = go rs i (omega (arith, within)) is

-- ---- of all triples the additions alone

pub any-filter : (p q : Triple → Bool)
    → ((t : Triple) → q t ≡ false → p t ≡ false) → (ts : List Triple) → list_any p (filter q ts) ≡ list_any p ts
any-filter p q fails [] = refl
any-filter p q fails (t ∷ ts) = go (q t) refl (any-filter p q fails ts)
  where
    go : (b : Bool) → q t ≡ b → list_any p (filter q ts) ≡ list_any p ts
        → list_any p (cond b (t ∷ filter q ts) (filter q ts)) ≡ (p t || list_any p ts)
    go true is rest = ap (λ b. p t || b) rest
    go false is rest = rest ∙ ap (λ b. b || list_any p ts) (sym (fails t is))

pub first_conflict-additions : (facts : List Datom) (ts : List Triple)
    → first_conflict facts (filter is_addition ts) ≡ first_conflict facts ts
first_conflict-additions facts ts =
    first_where-same (conflicts facts (filter is_addition ts)) (conflicts facts ts) asked_at same (filter is_addition ts)
    ∙ first_where-filter (conflicts facts ts) is_addition asked_at (λ t none. and_left (is_addition t) _ none) ts
  where
    same : (t : Triple) → conflicts facts (filter is_addition ts) t ≡ conflicts facts ts t
    same t =
        ap (λ b. is_addition t && ((is_one facts t.a && b) || is_withdrawn t))
        (any-filter (is_another_value t) is_addition (λ other none. and_left _ _ (and_left _ _ (and_left _ _ none))) ts)

every-kept : (p : Triple → Bool) (ts : List Triple) → list_all p (filter p ts) ≡ true
every-kept p [] = refl
every-kept p (t ∷ ts) = go (p t) refl (every-kept p ts)
  where
    go : (b : Bool) → p t ≡ b → list_all p (filter p ts) ≡ true → list_all p (cond b (t ∷ filter p ts) (filter p ts)) ≡ true
    go true is rest = and_from _ _ is rest
    go false is rest = rest

pub additions-of : (ts : List Triple) → rise ts ≡ true → AreAdditions (filter is_addition ts)
additions-of ts rising = record { rising = rise-filter is_addition ts rising; added = every-kept is_addition ts }
