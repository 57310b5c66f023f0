-- Ids among ids, and members of lists.
use Rattle.std.proofs.Common.{◌≡◌, ◌<◌, ℕ, zero, suc, Bool, true, false, cond, ◌||◌, List, [], ◌∷◌, ◌++◌, length, map, get_or, refl, sym}
use Rattle.std.proofs.Common.{◌∙◌, ap, subst, arith, inl, inr, ◌⊎◌}
use Rattle.std.specs.Prelude.{filter, nat_eq, slice_index_or, Contains, All}
use Rattle.std.specs.List.{IsDistinct, AllByRecursion}
use Rattle.std.proofs.lemmas.Bool.{true≢false, eqb-true, eq-eqb, eqb-false, ne_eqb, or_parts, or_left, or_right, or_cases, or_from}
use Rattle.std.proofs.lemmas.List.Elements.{Contains-get_or, Contains-append_left, Contains-append_right}
use Rattle.std.proofs.lemmas.List.Folds.{list_any-append}
use Rattle.log_model.specs.Nodes.{is_among}

-- ---- members

module _ {A : Type 0} where
  pub member_here : (x : A) (xs : List A) → Contains (x ∷ xs) x
  member_here x xs = (0, omega arith, refl)

  pub member_there : (x y : A) (xs : List A) → Contains xs y → Contains (x ∷ xs) y
  member_there x y xs member = Contains-append_right (x ∷ []) xs y member

  pub member_cases : (x y : A) (xs : List A) → Contains (x ∷ xs) y → (x ≡ y) ⊎ Contains xs y
  member_cases x y xs member = go member.0 member.1 member.2
    where
      go : (k : ℕ) → k < length (x ∷ xs) → slice_index_or (x ∷ xs) k y ≡ y → (x ≡ y) ⊎ Contains xs y
      go zero below is = inl is
      go (suc k) below is = inr (k, omega arith, is)

  pub no_member : (x : A) → Contains [] x → ⊥
  no_member x member = omega (arith, member.1)

  pub All-made : (P : A → Type 0) (xs : List A) → ((x : A) → Contains xs x → P x) → All P xs
  All-made P xs each = λ k d lt. each (get_or xs k d) (Contains-get_or xs k d lt)

  -- lists that stand end to end
  module _ (xs ys zs ws : List A) (a : A) where
    pub first_of_four : Contains xs a → Contains (xs ++ ys ++ zs ++ ws) a
    first_of_four member = Contains-append_left (xs ++ ys ++ zs) ws a
        (Contains-append_left (xs ++ ys) zs a (Contains-append_left xs ys a member))

    pub second_of_four : Contains ys a → Contains (xs ++ ys ++ zs ++ ws) a
    second_of_four member = Contains-append_left (xs ++ ys ++ zs) ws a
        (Contains-append_left (xs ++ ys) zs a (Contains-append_right xs ys a member))

    pub third_of_four : Contains zs a → Contains (xs ++ ys ++ zs ++ ws) a
    third_of_four member = Contains-append_left (xs ++ ys ++ zs) ws a (Contains-append_right (xs ++ ys) zs a member)

    pub fourth_of_four : Contains ws a → Contains (xs ++ ys ++ zs ++ ws) a
    fourth_of_four member = Contains-append_right (xs ++ ys ++ zs) ws a member

pub mapped_member : {A B : Type 0} (f : A → B) (xs : List A) (x : A) → Contains xs x → Contains (map f xs) (f x)
mapped_member f [] x member = absurd (no_member x member)
mapped_member f (y ∷ xs) x member =
    elim (member_cases y x xs member) [
      | inl same ↦ subst (λ z. Contains (map f (y ∷ xs)) (f z)) same (member_here (f y) (map f xs))
      | inr later ↦ member_there (f y) (f x) (map f xs) (mapped_member f xs x later)
    ]

-- ---- ids among ids

pub among : (ids : List ℕ) (id : ℕ) → Contains ids id → is_among ids id ≡ true
among [] id member = absurd (no_member id member)
among (other ∷ ids) id member =
    elim (member_cases other id ids member) [
      | inl same ↦ or_left _ _ (eq-eqb id other (sym same))
      | inr later ↦ or_right _ _
          (among ids id later)
    ]

pub among_member : (ids : List ℕ) (id : ℕ) → is_among ids id ≡ true → Contains ids id
among_member [] id is = absurd (true≢false (sym is))
among_member (other ∷ ids) id is =
    elim (or_cases (nat_eq id other) (is_among ids id) is) [
      | inl same ↦ subst (λ x. Contains (other ∷ ids) x) (sym (eqb-true id other same)) (member_here other ids)
      | inr later ↦ member_there other id ids (among_member ids id later)
    ]

pub among-append : (xs ys : List ℕ) (id : ℕ) → is_among (xs ++ ys) id ≡ (is_among xs id || is_among ys id)
among-append xs ys id = list_any-append (nat_eq id) xs ys

pub not_among : (ids : List ℕ) (id : ℕ) → (Contains ids id → ⊥) → is_among ids id ≡ false
not_among ids id none = go (is_among ids id) refl
  where
    go : (b : Bool) → is_among ids id ≡ b → is_among ids id ≡ false
    go true is = absurd (none (among_member ids id is))
    go false is = is

-- the id of an element
pub mapped_among : {A : Type 0} (f : A → ℕ) (xs : List A) (x : A) → Contains xs x → is_among (map f xs) (f x) ≡ true
mapped_among f xs x member = among (map f xs) (f x) (mapped_member f xs x member)

-- an element that has the id
pub among_mapped : {A : Type 0} (f : A → ℕ) (xs : List A) (id : ℕ) → is_among (map f xs) id ≡ true → (x : A) × Contains xs x × (f x ≡ id)
among_mapped f [] id is = absurd (true≢false (sym is))
among_mapped {A} f (x ∷ xs) id is =
    let later : is_among (map f xs) id ≡ true
    → (y : A) × Contains (x ∷ xs) y
    × (f y ≡ id) = λ more. let rest = among_mapped f xs id more in (rest.0, member_there x rest.0 xs rest.1, rest.2) in
    elim (or_cases (nat_eq id (f x)) (is_among (map f xs) id) is) [
      | inl same ↦ (x, member_here x xs, sym (eqb-true id (f x) same))
      | inr more ↦ later more
    ]

-- ---- ids that stand once

abbrev pub AreOnce : List ℕ → Type 0
AreOnce ids = IsDistinct nat_eq ids

flipped : (a b : ℕ) → nat_eq a b ≡ false → nat_eq b a ≡ false
flipped a b apart = ne_eqb b a (λ same. eqb-false a b apart (sym same))

all_apart : (id : ℕ) (ids : List ℕ) → is_among ids id ≡ false → AllByRecursion (λ other. nat_eq id other ≡ false) ids
all_apart id [] new = tt
all_apart id (other ∷ ids) new = let parts = or_parts (nat_eq id other) (is_among ids id) new in (parts.0, all_apart id ids parts.1)

apart_among : (id : ℕ) (ids : List ℕ) → AllByRecursion (λ other. nat_eq id other ≡ false) ids → is_among ids id ≡ false
apart_among id [] every = refl
apart_among id (other ∷ ids) every = or_from _ _ every.0 (apart_among id ids every.1)

pub once_none : AreOnce []
unfolding IsDistinct
once_none = tt

pub once_cons : (id : ℕ) (ids : List ℕ) → is_among ids id ≡ false → AreOnce ids → AreOnce (id ∷ ids)
unfolding IsDistinct
once_cons id ids new once = (all_apart id ids new, once)

pub once_head : (id : ℕ) (ids : List ℕ) → AreOnce (id ∷ ids) → is_among ids id ≡ false
unfolding IsDistinct
once_head id ids once = apart_among id ids once.0

pub once_tail : (id : ℕ) (ids : List ℕ) → AreOnce (id ∷ ids) → AreOnce ids
unfolding IsDistinct
once_tail id ids once = once.1

-- two lists end to end: each is of ids that stand once, and they share none
pub once_join : (xs ys : List ℕ) → AreOnce xs → AreOnce ys → ((id : ℕ) → is_among xs id ≡ true → is_among ys id ≡ false)
    → AreOnce (xs ++ ys)
once_join [] ys one other apart = other
once_join (x ∷ xs) ys one other apart =
    once_cons x (xs ++ ys)
    (among-append xs ys x ∙ or_from _ _ (once_head x xs one) (apart x (or_left _ _ (eq-eqb x x refl))))
    (once_join xs ys (once_tail x xs one) other (λ id is. apart id (or_right _ _ is)))

pub once_front : (xs ys : List ℕ) → AreOnce (xs ++ ys) → AreOnce xs
once_front [] ys once = once_none
once_front (x ∷ xs) ys once =
    once_cons x xs (or_parts (is_among xs x) (is_among ys x) (sym (among-append xs ys x) ∙ once_head x (xs ++ ys) once)).0
    (once_front xs ys (once_tail x (xs ++ ys) once))

pub once_back : (xs ys : List ℕ) → AreOnce (xs ++ ys) → AreOnce ys
once_back [] ys once = once
once_back (x ∷ xs) ys once = once_back xs ys (once_tail x (xs ++ ys) once)

pub once_apart : (xs ys : List ℕ) → AreOnce (xs ++ ys) → (id : ℕ) → is_among xs id ≡ true → is_among ys id ≡ false
once_apart [] ys once id is = absurd (true≢false (sym is))
once_apart (x ∷ xs) ys once id is =
    elim (or_cases (nat_eq id x) (is_among xs id) is) [
      | inl same ↦ ap (is_among ys) (eqb-true id x same)
          ∙ (or_parts (is_among xs x) (is_among ys x) (sym (among-append xs ys x) ∙ once_head x (xs ++ ys) once)).1
      | inr later ↦ once_apart xs ys (once_tail x (xs ++ ys) once) id later
    ]

pub once_push : (ids : List ℕ) (id : ℕ) → AreOnce ids → is_among ids id ≡ false → AreOnce (ids ++ id ∷ [])
once_push ids id once new =
    once_join ids (id ∷ []) once (once_cons id [] refl once_none)
    (λ other is. or_from _ _ (ne_eqb other id (λ same. true≢false (sym is ∙ ap (is_among ids) same ∙ new))) refl)

-- ---- elements whose ids stand once

module _ {A : Type 0} (id_of : A → ℕ) where
  pub one_of_id : (xs : List A) (x y : A) → AreOnce (map id_of xs) → Contains xs x → Contains xs y → id_of x ≡ id_of y → x ≡ y
  one_of_id [] x y once x_in y_in same = absurd (no_member x x_in)
  one_of_id (z ∷ xs) x y once x_in y_in same =
      elim (member_cases z x xs x_in) [
        | inl first ↦ elim (member_cases z y xs y_in) [
          | inl other ↦ sym first ∙ other
          | inr later ↦ absurd (clash y later (ap id_of first ∙ same))
        ]
        | inr later ↦ elim (member_cases z y xs y_in) [
          | inl other ↦ absurd (clash x later (ap id_of other ∙ sym same))
          | inr too ↦ one_of_id xs x y (once_tail (id_of z) (map id_of xs) once) later too same
        ]
      ]
    where
      clash : (w : A) → Contains xs w → id_of z ≡ id_of w → ⊥
      clash w later is = true≢false (sym (mapped_among id_of xs w later) ∙ ap (is_among (map id_of xs)) (sym is) ∙ once_head (id_of z)
          (map id_of xs) once)

  none_of_id : (xs : List A) (id : ℕ) → is_among (map id_of xs) id ≡ false → filter (λ x. nat_eq (id_of x) id) xs ≡ []
  none_of_id [] id none = refl
  none_of_id (x ∷ xs) id none =
      let parts = or_parts (nat_eq id (id_of x)) (is_among (map id_of xs) id) none in
      ap (λ b. cond b (x ∷ filter (λ y. nat_eq (id_of y) id) xs) (filter (λ y. nat_eq (id_of y) id) xs)) (flipped id (id_of x) parts.0)
      ∙ none_of_id xs id parts.1

  pub found_by_id : (xs : List A) (x : A) → AreOnce (map id_of xs) → Contains xs x → filter (λ y. nat_eq (id_of y) (id_of x)) xs ≡ x ∷ []
  found_by_id [] x once member = absurd (no_member x member)
  found_by_id (z ∷ xs) x once member =
      elim (member_cases z x xs member) [
        | inl first ↦ subst (λ w. filter (λ y. nat_eq (id_of y) (id_of w)) (z ∷ xs) ≡ w ∷ []) first
            (ap (λ b. cond b (z ∷ filter (λ y. nat_eq (id_of y) (id_of z)) xs) (filter (λ y. nat_eq (id_of y) (id_of z)) xs))
            (eq-eqb (id_of z) (id_of z) refl)
            ∙ ap (λ l. z ∷ l) (none_of_id xs (id_of z) (once_head (id_of z) (map id_of xs) once)))
        | inr later ↦
            ap (λ b. cond b (z ∷ filter (λ y. nat_eq (id_of y) (id_of x)) xs) (filter (λ y. nat_eq (id_of y) (id_of x)) xs))
            (ne_eqb (id_of z) (id_of x)
            (λ same. true≢false (sym (mapped_among id_of xs x later) ∙ ap (is_among (map id_of xs)) (sym same) ∙ once_head (id_of z)
            (map id_of xs) once)))
            ∙ found_by_id xs x (once_tail (id_of z) (map id_of xs) once) later
      ]
