-- Members of lists of any kind.
use Rattle.std.proofs.Common.{◌≡◌, ℕ, zero, suc, ◌<◌, Bool, false, List, [], ◌∷◌, length, map, refl, ap, sym, subst, arith, inl, inr, ◌⊎◌}
use Rattle.std.proofs.Common.{Option, Some, None}
use Rattle.std.specs.Prelude.{flat_map, Contains, slice_index_or, option_to_list}
use Rattle.std.specs.List.{list_any}
use Rattle.std.proofs.lemmas.Bool.{or_parts}
use Rattle.std.proofs.lemmas.List.Elements.{Contains-append_left, Contains-append_right, Contains-append_cases, Contains-push}
use Rattle.tx_model.specs.Transaction.{joined}

module _ {A : Type 0} where
  pub first_of : (x : A) (xs : List A) → Contains (x ∷ xs) x
  first_of x xs = Contains-append_left (x ∷ []) xs x (Contains-push [] x)

  pub later_of : (y x : A) (xs : List A) → Contains xs x → Contains (y ∷ xs) x
  later_of y x xs member = Contains-append_right (y ∷ []) xs x member

  only_of : (y x : A) → Contains (y ∷ []) x → y ≡ x
  only_of y x member = one member.0 member.1 member.2
    where
      one : (k : ℕ) → k < 1 → slice_index_or (y ∷ []) k x ≡ x → y ≡ x
      one zero below is = is
      one (suc k) below is = absurd (omega (arith, below))

  pub which : (y x : A) (xs : List A) → Contains (y ∷ xs) x → (y ≡ x) ⊎ Contains xs x
  which y x xs member = elim (Contains-append_cases (y ∷ []) xs x member) [ inl first ↦ inl (only_of y x first) | inr later ↦ inr later ]

  pub not_in_none : (x : A) → Contains [] x → ⊥
  not_in_none x member = omega (arith, member.1)

  pub none_passes : (q : A → Bool) (xs : List A) (x : A) → list_any q xs ≡ false → Contains xs x → q x ≡ false
  none_passes q [] x none member = absurd (not_in_none x member)
  none_passes q (y ∷ xs) x none member =
      let parts = or_parts (q y) (list_any q xs) none in
      elim (which y x xs member) [ inl is ↦ subst (λ z. q z ≡ false) is parts.0 | inr later ↦ none_passes q xs x parts.1 later ]

  pub in_option : (o : Option A) (x : A) → Contains (option_to_list o) x → o ≡ Some x
  in_option None x member = absurd (not_in_none x member)
  in_option (Some y) x member = ap Some (only_of y x member)

module _ {A B : Type 0} where
  -- where a member of what a list makes comes from
  pub record ComesFrom (g : A → List B) (xs : List A) (y : B) : Type 0 where
    pub source : A
    pub among : Contains xs source
    pub made : Contains (g source) y

  pub comes_from : (g : A → List B) (xs : List A) (y : B) → Contains (flat_map g xs) y → ComesFrom g xs y
  comes_from g [] y member = absurd (not_in_none y member)
  comes_from g (x ∷ xs) y member =
      let next : Contains (flat_map g xs) y → ComesFrom g (x ∷ xs) y =
      λ later. let from = comes_from g xs y later in
      record { source = from.source; among = later_of x from.source xs from.among; made = from.made } in
      elim (Contains-append_cases (g x) (flat_map g xs) y member) [
        | inl now ↦ record { source = x; among = first_of x xs; made = now }
        | inr later ↦ next later
      ]

  pub goes_into : (g : A → List B) (xs : List A) (x : A) (y : B) → Contains xs x → Contains (g x) y → Contains (flat_map g xs) y
  goes_into g [] x y among made = absurd (not_in_none x among)
  goes_into g (z ∷ xs) x y among made =
      elim (which z x xs among) [
        | inl is ↦ Contains-append_left (g z) (flat_map g xs) y (subst (λ w. Contains (g w) y) (sym is) made)
        | inr later ↦ Contains-append_right (g z) (flat_map g xs) y (goes_into g xs x y later made)
      ]

  pub record IsImage (f : A → B) (xs : List A) (y : B) : Type 0 where
    pub original : A
    pub among : Contains xs original
    pub image_is : f original ≡ y

  pub image_of : (f : A → B) (xs : List A) (y : B) → Contains (map f xs) y → IsImage f xs y
  image_of f [] y member = absurd (not_in_none y member)
  image_of f (x ∷ xs) y member =
      let next : Contains (map f xs) y → IsImage f (x ∷ xs) y =
      λ later. let is = image_of f xs y later in
      record { original = is.original; among = later_of x is.original xs is.among; image_is = is.image_is } in
      elim (which (f x) y (map f xs) member) [
        | inl now ↦ record { original = x; among = first_of x xs; image_is = now }
        | inr later ↦ next later
      ]

  pub has_image : (f : A → B) (xs : List A) (x : A) → Contains xs x → Contains (map f xs) (f x)
  has_image f [] x among = absurd (not_in_none x among)
  has_image f (z ∷ xs) x among =
      elim (which z x xs among) [
        | inl is ↦ subst (λ w. Contains (f z ∷ map f xs) (f w)) is (first_of (f z) (map f xs))
        | inr later ↦ later_of (f z) (f x) (map f xs) (has_image f xs x later)
      ]

  pub map-length : (f : A → B) (xs : List A) → length (map f xs) ≡ length xs
  map-length f [] = refl
  map-length f (x ∷ xs) = ap suc (map-length f xs)

-- ---- lists of lists

module _ {A : Type 0} where
  -- the place of the list that a member is in
  pub record IsAt (lists : List (List A)) (x : A) : Type 0 where
    pub place : ℕ
    pub within : place < length lists
    pub member : Contains (slice_index_or lists place []) x

  pub at_of : (lists : List (List A)) (x : A) → Contains (joined lists) x → IsAt lists x
  at_of [] x member = absurd (not_in_none x member)
  at_of (list ∷ lists) x member =
      let next : Contains (joined lists) x → IsAt (list ∷ lists) x =
      λ later. let is = at_of lists x later in record { place = suc is.place; within = omega (arith, is.within); member = is.member } in
      elim (Contains-append_cases list (joined lists) x member) [
        | inl now ↦ record { place = 0; within = omega arith; member = now }
        | inr later ↦ next later
      ]
