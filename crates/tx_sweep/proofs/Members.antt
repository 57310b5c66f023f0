-- Members of lists, and tests of them.
use Rattle.std.proofs.Common.{◌≡◌, ℕ, ◌+◌, ◌≤◌, Bool, true, false, cond, List, [], ◌∷◌, refl, ap, sym, ◌∙◌, subst, arith, inl, inr, ◌⊎◌}
use Rattle.std.specs.Prelude.{Contains, Option, None, Some, filter_map}
use Rattle.std.specs.List.{list_any, list_all, cons_option}
use Rattle.std.specs.Ordering.{is_lt}
use Rattle.std.proofs.lemmas.Bool.{true≢false, and_parts, and_from, or_cases, or_left, or_right}
use Rattle.fb_values.specs.declared.facts.Datom.{Datom}
use Rattle.fb_values.specs.declared.indexes.Order.{Order}
use Rattle.fb_values.specs.Orders.{key_cmp}
use Rattle.fb_model.specs.Rising.{put_in_order, in_order}
use Rattle.tx_model.proofs.Lists.{first_of, later_of, which, not_in_none}

module _ {A : Type 0} where
  pub any_of : (p : A → Bool) (xs : List A) (x : A) → Contains xs x → p x ≡ true → list_any p xs ≡ true
  any_of p [] x member passes = absurd (not_in_none x member)
  any_of p (y ∷ xs) x member passes =
      elim (which y x xs member) [
        | inl is ↦ or_left _ _ (subst (λ z. p z ≡ true) (sym is) passes)
        | inr later ↦ or_right _ _ (any_of p xs x later passes)
      ]

  pub some_of : (p : A → Bool) (xs : List A) → list_any p xs ≡ true → (x : A) × Contains xs x × (p x ≡ true)
  some_of p [] some = absurd (true≢false (sym some))
  some_of p (x ∷ xs) some =
      let next : list_any p xs ≡ true → (y : A) × Contains (x ∷ xs) y × (p y ≡ true) =
      λ more. let rest = some_of p xs more in (rest.0, later_of x rest.0 xs rest.1, rest.2) in
      elim (or_cases (p x) (list_any p xs) some) [ inl first ↦ (x, first_of x xs, first) | inr more ↦ next more ]

  pub all_of : (p : A → Bool) (xs : List A) → ((x : A) → Contains xs x → p x ≡ true) → list_all p xs ≡ true
  all_of p [] each = refl
  all_of p (x ∷ xs) each = and_from _ _ (each x (first_of x xs)) (all_of p xs (λ y member. each y (later_of x y xs member)))

  pub each_of : (p : A → Bool) (xs : List A) (x : A) → list_all p xs ≡ true → Contains xs x → p x ≡ true
  each_of p [] x every member = absurd (not_in_none x member)
  each_of p (y ∷ xs) x every member =
      let parts = and_parts (p y) (list_all p xs) every in
      elim (which y x xs member) [ inl is ↦ subst (λ z. p z ≡ true) is parts.0 | inr later ↦ each_of p xs x parts.1 later ]

module _ {A B : Type 0} where
  -- a member of what is mapped where there is something
  pub record IsMade (f : A → Option B) (xs : List A) (y : B) : Type 0 where
    pub source : A
    pub among : Contains xs source
    pub gives : f source ≡ Some y

  pub made_of : (f : A → Option B) (xs : List A) (y : B) → Contains (filter_map f xs) y → IsMade f xs y
  made_of f [] y member = absurd (not_in_none y member)
  made_of f (x ∷ xs) y member = go (f x) refl member (made_of f xs y)
    where
      later : IsMade f xs y → IsMade f (x ∷ xs) y
      later is = record { source = is.source; among = later_of x is.source xs is.among; gives = is.gives }

      go : (o : Option B) → f x ≡ o → Contains (cons_option o (filter_map f xs)) y → (Contains (filter_map f xs) y → IsMade f xs y)
          → IsMade f (x ∷ xs) y
      go None is among next = later (next among)
      go (Some z) is among next =
          elim (which z y (filter_map f xs) among) [
            | inl same ↦ record { source = x; among = first_of x xs; gives = is ∙ ap Some same }
            | inr more ↦ later (next more)
          ]

  pub makes : (f : A → Option B) (xs : List A) (x : A) (y : B) → Contains xs x → f x ≡ Some y → Contains (filter_map f xs) y
  makes f [] x y among gives = absurd (not_in_none x among)
  makes f (z ∷ xs) x y among gives = go (f z) refl (which z x xs among) (λ later. makes f xs x y later gives)
    where
      go : (o : Option B) → f z ≡ o → (z ≡ x) ⊎ Contains xs x → (Contains xs x → Contains (filter_map f xs) y)
          → Contains (cons_option o (filter_map f xs)) y
      go None is (inl same) next = absurd (cc)
      go None is (inr later) next = next later
      go (Some w) is (inl same) next =
          let w_is : Some w ≡ Some y = sym is ∙ ap f same ∙ gives in
          let plain : w ≡ y = cc in
          subst (λ u. Contains (u ∷ filter_map f xs) y) (sym plain) (first_of y (filter_map f xs))
      go (Some w) is (inr later) next = later_of w y (filter_map f xs) (next later)

-- ---- how many pass

abbrev pub count : (Datom → Bool) → List Datom → ℕ
count p [] = 0
count p (d ∷ ds) = cond (p d) (count p ds + 1) (count p ds)

-- a list in order has no more of them
count-put : (p : Datom → Bool) (order : Order) (d : Datom) (ds : List Datom) → count p (put_in_order order d ds) ≤ count p (d ∷ ds)
count-put p order d [] = omega arith
count-put p order d (y ∷ ds) = go (is_lt (key_cmp order d y)) (is_lt (key_cmp order y d)) (p d) (p y) refl refl (count-put p order d ds)
  where
    go : (b c m n : Bool) → p d ≡ m → p y ≡ n → count p (put_in_order order d ds) ≤ cond (p d) (count p ds + 1) (count p ds)
        → count p (cond b (d ∷ y ∷ ds) (cond c (y ∷ put_in_order order d ds) (y ∷ ds))) ≤ count p (d ∷ y ∷ ds)
    go true c m n d_is y_is rest = omega arith
    go false true true true d_is y_is rest =
        rw (d_is, y_is) (let few : count p (put_in_order order d ds) ≤ count p ds + 1 = rw d_is at rest in omega (arith, few))
    go false true true false d_is y_is rest =
        rw (d_is, y_is) (let few : count p (put_in_order order d ds) ≤ count p ds + 1 = rw d_is at rest in omega (arith, few))
    go false true false true d_is y_is rest =
        rw (d_is, y_is) (let few : count p (put_in_order order d ds) ≤ count p ds = rw d_is at rest in omega (arith, few))
    go false true false false d_is y_is rest =
        rw (d_is, y_is) (let few : count p (put_in_order order d ds) ≤ count p ds = rw d_is at rest in omega (arith, few))
    go false false true n d_is y_is rest = rw d_is (omega arith)
    go false false false n d_is y_is rest = rw d_is (omega arith)

pub count-in_order : (p : Datom → Bool) (order : Order) (ds : List Datom) → count p (in_order order ds) ≤ count p ds
count-in_order p order [] = omega arith
count-in_order p order (d ∷ ds) = go (p d) refl (count-put p order d (in_order order ds)) (count-in_order p order ds)
  where
    go : (b : Bool) → p d ≡ b
        → count p (put_in_order order d (in_order order ds)) ≤ cond (p d) (count p (in_order order ds) + 1) (count p (in_order order ds))
        → count p (in_order order ds) ≤ count p ds
        → count p (put_in_order order d (in_order order ds)) ≤ cond b (count p ds + 1) (count p ds)
    go true is one rest =
        let few : count p (put_in_order order d (in_order order ds)) ≤ count p (in_order order ds) + 1 = rw is at one in
        omega (arith, few, rest)
    go false is one rest =
        let few : count p (put_in_order order d (in_order order ds)) ≤ count p (in_order order ds) = rw is at one in
        omega (arith, few, rest)
