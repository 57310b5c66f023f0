-- Members of lists of any kind.
use Rattle.std.proofs.Common.{◌≡◌, ℕ, zero, suc, ◌<◌, Bool, true, false, List, [], ◌∷◌, length, map, refl, ap, sym, subst, arith, inl, inr}
use Rattle.std.proofs.Common.{◌⊎◌, Option, Some, None}
use Rattle.std.specs.Prelude.{flat_map, Contains, slice_index_or, option_to_list}
use Rattle.std.specs.List.{list_any, list_all}
use Rattle.std.proofs.lemmas.Bool.{true≢false, and_parts, or_cases, or_parts, or_left, or_right}
use Rattle.std.proofs.lemmas.List.Elements.{Contains-append_left, Contains-append_right, Contains-append_cases, Contains-push}

module _ {A : Type 0} where
  pub first_of : (x : A) (xs : List A) → Contains (x ∷ xs) x
  first_of x xs = Contains-append_left (x ∷ []) xs x (Contains-push [] x)

  pub later_of : (y x : A) (xs : List A) → Contains xs x → Contains (y ∷ xs) x
  later_of y x xs member = Contains-append_right (y ∷ []) xs x member

  only_of : (y x : A) → Contains (y ∷ []) x → y ≡ x
  only_of y x member = one member.0 member.1 member.2
    where
      one : (k : ℕ) → k < 1 → slice_index_or (y ∷ []) k x ≡ x → y ≡ x
      one zero below is = is
      one (suc k) below is = absurd (omega (arith, below))

  pub which : (y x : A) (xs : List A) → Contains (y ∷ xs) x → (y ≡ x) ⊎ Contains xs x
  which y x xs member = elim (Contains-append_cases (y ∷ []) xs x member) [ inl first ↦ inl (only_of y x first) | inr later ↦ inr later ]

  pub not_in_none : (x : A) → Contains [] x → ⊥
  not_in_none x member = omega (arith, member.1)

  pub in_option : (o : Option A) (x : A) → Contains (option_to_list o) x → o ≡ Some x
  in_option None x member = absurd (not_in_none x member)
  in_option (Some y) x member = ap Some (only_of y x member)

  pub any_member : (p : A → Bool) (xs : List A) (x : A) → Contains xs x → p x ≡ true → list_any p xs ≡ true
  any_member p [] x member pass = absurd (not_in_none x member)
  any_member p (y ∷ xs) x member pass =
      elim (which y x xs member) [
        | inl is ↦ or_left _ _ (subst (λ z. p z ≡ true) (sym is) pass)
        | inr later ↦ or_right _ _ (any_member p xs x later pass)
      ]

  pub none_passes : (p : A → Bool) (xs : List A) (x : A) → list_any p xs ≡ false → Contains xs x → p x ≡ false
  none_passes p [] x none member = absurd (not_in_none x member)
  none_passes p (y ∷ xs) x none member =
      let parts = or_parts (p y) (list_any p xs) none in
      elim (which y x xs member) [ inl is ↦ subst (λ z. p z ≡ false) is parts.0 | inr later ↦ none_passes p xs x parts.1 later ]

  pub passes_member : (p : A → Bool) (xs : List A) (x : A) → list_all p xs ≡ true → Contains xs x → p x ≡ true
  passes_member p [] x every member = absurd (not_in_none x member)
  passes_member p (y ∷ xs) x every member =
      let parts = and_parts (p y) (list_all p xs) every in
      elim (which y x xs member) [ inl is ↦ subst (λ z. p z ≡ true) is parts.0 | inr later ↦ passes_member p xs x parts.1 later ]

  -- one that passes
  pub record IsSome (p : A → Bool) (xs : List A) : Type 0 where
    pub member : A
    pub among : Contains xs member
    pub passes : p member ≡ true

  pub some_member : (p : A → Bool) (xs : List A) → list_any p xs ≡ true → IsSome p xs
  some_member p [] some = absurd (true≢false (sym some))
  some_member p (x ∷ xs) some =
      let next : list_any p xs ≡ true → IsSome p (x ∷ xs) =
      λ more. let rest = some_member p xs more in
      record { member = rest.member; among = later_of x rest.member xs rest.among; passes = rest.passes } in
      elim (or_cases (p x) (list_any p xs) some) [
        | inl now ↦ record { member = x; among = first_of x xs; passes = now }
        | inr more ↦ next more
      ]

module _ {A B : Type 0} where
  -- where a member of what a list makes comes from
  pub record ComesFrom (g : A → List B) (xs : List A) (y : B) : Type 0 where
    pub source : A
    pub among : Contains xs source
    pub made : Contains (g source) y

  pub comes_from : (g : A → List B) (xs : List A) (y : B) → Contains (flat_map g xs) y → ComesFrom g xs y
  comes_from g [] y member = absurd (not_in_none y member)
  comes_from g (x ∷ xs) y member =
      let next : Contains (flat_map g xs) y → ComesFrom g (x ∷ xs) y =
      λ later. let from = comes_from g xs y later in
      record { source = from.source; among = later_of x from.source xs from.among; made = from.made } in
      elim (Contains-append_cases (g x) (flat_map g xs) y member) [
        | inl now ↦ record { source = x; among = first_of x xs; made = now }
        | inr later ↦ next later
      ]

  pub goes_into : (g : A → List B) (xs : List A) (x : A) (y : B) → Contains xs x → Contains (g x) y → Contains (flat_map g xs) y
  goes_into g [] x y among made = absurd (not_in_none x among)
  goes_into g (z ∷ xs) x y among made =
      elim (which z x xs among) [
        | inl is ↦ Contains-append_left (g z) (flat_map g xs) y (subst (λ w. Contains (g w) y) (sym is) made)
        | inr later ↦ Contains-append_right (g z) (flat_map g xs) y (goes_into g xs x y later made)
      ]

  pub record IsImage (f : A → B) (xs : List A) (y : B) : Type 0 where
    pub original : A
    pub among : Contains xs original
    pub image_is : f original ≡ y

  pub image_of : (f : A → B) (xs : List A) (y : B) → Contains (map f xs) y → IsImage f xs y
  image_of f [] y member = absurd (not_in_none y member)
  image_of f (x ∷ xs) y member =
      let next : Contains (map f xs) y → IsImage f (x ∷ xs) y =
      λ later. let is = image_of f xs y later in
      record { original = is.original; among = later_of x is.original xs is.among; image_is = is.image_is } in
      elim (which (f x) y (map f xs) member) [
        | inl now ↦ record { original = x; among = first_of x xs; image_is = now }
        | inr later ↦ next later
      ]

  pub map-length : (f : A → B) (xs : List A) → length (map f xs) ≡ length xs
  map-length f [] = refl
  map-length f (x ∷ xs) = ap suc (map-length f xs)
