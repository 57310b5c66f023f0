-- Members of lists, of a filtered list, and of one that is made of another.
use Rattle.std.proofs.Common.{inl, inr, ◌⊎◌, ◌≡◌, zero, suc, Bool, true, false, cond, List, [], ◌∷◌, map, refl, sym, ◌∙◌, ap, subst, arith}
use Rattle.std.specs.Prelude.{Contains, filter}
use Rattle.std.specs.List.{list_any}
use Rattle.std.proofs.lemmas.Bool.{true≢false, or_left, or_right, or_cases}

-- ---- members

module _ {A : Type 0} where
  pub here : (x : A) (xs : List A) → Contains (x ∷ xs) x
  here x xs = (0, omega arith, refl)

  pub there : (x y : A) (xs : List A) → Contains xs y → Contains (x ∷ xs) y
  there x y xs member = (suc member.0, omega (arith, member.1), member.2)

  pub cases_of : (x y : A) (xs : List A) → Contains (x ∷ xs) y → (x ≡ y) ⊎ Contains xs y
  cases_of x y xs (zero, below, is) = inl is
  cases_of x y xs (suc k, below, is) = inr (k, omega (arith, below), is)

  pub none_of : (y : A) → Contains [] y → ⊥
  none_of y member = omega (arith, member.1)

-- ---- filters, and tests of some member

module _ {A : Type 0} (p : A → Bool) where
  pub kept_member : (xs : List A) (x : A) → Contains (filter p xs) x → Contains xs x × (p x ≡ true)
  kept_member [] x member = absurd (none_of x member)
  kept_member (y ∷ xs) x member = go (p y) refl member (kept_member xs x)
    where
      later : Contains xs x × (p x ≡ true) → Contains (y ∷ xs) x × (p x ≡ true)
      later is = (there y x xs is.0, is.1)

      go : (b : Bool) → p y ≡ b → Contains (cond b (y ∷ filter p xs) (filter p xs)) x
          → (Contains (filter p xs) x → Contains xs x × (p x ≡ true)) → Contains (y ∷ xs) x × (p x ≡ true)
      go true is inside next = elim (cases_of y x (filter p xs) inside) [
        | inl same ↦ (subst (λ z. Contains (y ∷ xs) z) same (here y xs), subst (λ z. p z ≡ true) same is)
        | inr rest ↦ later (next rest)
      ]
      go false is inside next = later (next inside)

  pub kept_has : (xs : List A) (x : A) → Contains xs x → p x ≡ true → Contains (filter p xs) x
  kept_has [] x member pass = absurd (none_of x member)
  kept_has (y ∷ xs) x member pass = go (p y) refl (λ later. kept_has xs x later pass) (cases_of y x xs member)
    where
      go : (b : Bool) → p y ≡ b → (Contains xs x → Contains (filter p xs) x) → (y ≡ x) ⊎ Contains xs x
          → Contains (cond b (y ∷ filter p xs) (filter p xs)) x
      go true is next (inl same) = subst (λ z. Contains (y ∷ filter p xs) z) same (here y (filter p xs))
      go true is next (inr later) = there y x (filter p xs) (next later)
      go false is next (inl same) = absurd (true≢false (sym pass ∙ ap p (sym same) ∙ is))
      go false is next (inr later) = next later

  pub any_has : (xs : List A) (x : A) → Contains xs x → p x ≡ true → list_any p xs ≡ true
  any_has [] x member pass = absurd (none_of x member)
  any_has (y ∷ xs) x member pass = elim (cases_of y x xs member) [
    | inl same ↦ or_left _ _ (subst (λ z. p z ≡ true) (sym same) pass)
    | inr later ↦ or_right _ _ (any_has xs x later pass)
  ]

  pub any_member : (xs : List A) → list_any p xs ≡ true → (x : A) × Contains xs x × (p x ≡ true)
  any_member [] some = absurd (true≢false (sym some))
  any_member (y ∷ xs) some = elim (or_cases (p y) (list_any p xs) some) [
    | inl first ↦ (y, here y xs, first)
    | inr more ↦ let rest = any_member xs more in (rest.0, there y rest.0 xs rest.1, rest.2)
  ]

-- ---- lists that are made of others

module _ {A B : Type 0} (f : A → B) where
  pub map_has : (xs : List A) (x : A) → Contains xs x → Contains (map f xs) (f x)
  map_has [] x member = absurd (none_of x member)
  map_has (y ∷ xs) x member = elim (cases_of y x xs member) [
    | inl same ↦ subst (λ z. Contains (f y ∷ map f xs) (f z)) same (here (f y) (map f xs))
    | inr later ↦ there (f y) (f x) (map f xs) (map_has xs x later)
  ]

  pub map_member : (xs : List A) (z : B) → Contains (map f xs) z → (x : A) × Contains xs x × (f x ≡ z)
  map_member [] z member = absurd (none_of z member)
  map_member (y ∷ xs) z member = elim (cases_of (f y) z (map f xs) member) [
    | inl same ↦ (y, here y xs, same)
    | inr later ↦ let from = map_member xs z later in (from.0, there y from.0 xs from.1, from.2)
  ]
