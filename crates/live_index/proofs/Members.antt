-- What is a member of a list after a filter, an insertion or a push.
use Rattle.std.proofs.Common.{◌≡◌, ℕ, zero, suc, ◌⊎◌, Bool, true, false, cond, List, [], ◌∷◌, take, drop, refl, sym, ap, subst, inl, inr}
use Rattle.std.proofs.Common.{arith}
use Rattle.std.specs.Prelude.{◌↔◌, Contains, filter}
use Rattle.std.specs.List.{insert, All}
use Rattle.std.proofs.lemmas.Bool.{cases_Bool}
use Rattle.std.proofs.lemmas.List.{take-append-drop}
use Rattle.std.proofs.lemmas.List.Elements.{Contains-append_left, Contains-append_right, Contains-append_cases, All-head, All-tail}

pub contains-cons : {X : Type 0} (x : X) (xs : List X) (y : X) → Contains (x ∷ xs) y → (x ≡ y) ⊎ Contains xs y
contains-cons x xs y (zero, within, is) = inl is
contains-cons x xs y (suc k, within, is) = inr (k, omega arith, is)

pub contains_head : {X : Type 0} (x : X) (xs : List X) (y : X) → x ≡ y → Contains (x ∷ xs) y
contains_head x xs y is = (0, omega arith, is)

pub contains_tail : {X : Type 0} (x : X) (xs : List X) (y : X) → Contains xs y → Contains (x ∷ xs) y
contains_tail x xs y (k, within, is) = (suc k, omega arith, is)

pub contains_none : {X : Type 0} (y : X) → Contains [] y → ⊥
contains_none y (k, within, is) = omega arith

filtered_cons : {X : Type 0} (p : X → Bool) (x : X) (xs : List X) (y : X) → (Contains (filter p xs) y → Contains xs y × (p y ≡ true))
    → Contains (filter p (x ∷ xs)) y → Contains (x ∷ xs) y × (p y ≡ true)
filtered_cons {X} p x xs y rest there =
    elim (cases_Bool (p x)) [
      | inl passes ↦
          let P : Bool → Type 0 = λ b. Contains (cond b (x ∷ filter p xs) (filter p xs)) y in
          let at : Contains (x ∷ filter p xs) y = subst P passes there in
          elim (contains-cons x (filter p xs) y at) [
            | inl same ↦ (contains_head x xs y same, subst (λ (z : X). p z ≡ true) same passes)
            | inr behind ↦ (contains_tail x xs y (rest behind).0, (rest behind).1)
          ]
      | inr fails ↦
          let P : Bool → Type 0 = λ b. Contains (cond b (x ∷ filter p xs) (filter p xs)) y in
          let behind : Contains (filter p xs) y = subst P fails there in
          (contains_tail x xs y (rest behind).0, (rest behind).1)
    ]

pub from_filter : {X : Type 0} (p : X → Bool) (xs : List X) (y : X) → Contains (filter p xs) y → Contains xs y × (p y ≡ true)
from_filter p [] y there = absurd (contains_none y there)
from_filter p (x ∷ xs) y there = filtered_cons p x xs y (from_filter p xs y) there

into_cons : {X : Type 0} (p : X → Bool) (x : X) (xs : List X) (y : X) → (Contains xs y → Contains (filter p xs) y) → p y ≡ true
    → Contains (x ∷ xs) y → Contains (filter p (x ∷ xs)) y
into_cons {X} p x xs y rest passes there =
    elim (contains-cons x xs y there) [
      | inl same ↦ rw (subst (λ (z : X). p z ≡ true) (sym same) passes) (contains_head x (filter p xs) y same)
      | inr behind ↦
          elim (p x) as (λ b. Contains (cond b (x ∷ filter p xs) (filter p xs)) y) [
            | true ↦ contains_tail x (filter p xs) y (rest behind)
            | false ↦ rest behind
          ]
    ]

pub into_filter : {X : Type 0} (p : X → Bool) (xs : List X) (y : X) → Contains xs y → p y ≡ true → Contains (filter p xs) y
into_filter p [] y there passes = absurd (contains_none y there)
into_filter p (x ∷ xs) y there passes = into_cons p x xs y (λ behind. into_filter p xs y behind passes) passes there

pub filter_all : {X : Type 0} (p : X → Bool) (xs : List X) → All (λ x. p x ≡ true) xs → filter p xs ≡ xs
filter_all p [] all = refl
filter_all p (x ∷ xs) all =
    rw (All-head (λ y. p y ≡ true) x xs all) (ap (λ ys. x ∷ ys) (filter_all p xs (All-tail (λ y. p y ≡ true) x xs all)))

pub contains-insert : {X : Type 0} (xs : List X) (i : ℕ) (x y : X) → Contains (insert xs i x) y ↔ (Contains xs y ⊎ (x ≡ y))
contains-insert xs i x y = (
  λ there. elim (Contains-append_cases (take i xs) (x ∷ drop i xs) y there) [
    | inl before ↦ inl (rw (take-append-drop i xs) at (Contains-append_left (take i xs) (drop i xs) y before))
    | inr at ↦ elim (contains-cons x (drop i xs) y at) [
      | inl same ↦ inr same
      | inr behind ↦ inl (rw (take-append-drop i xs) at (Contains-append_right (take i xs) (drop i xs) y behind))
    ]
  ],
  λ given. elim given [
    | inl there ↦ elim (Contains-append_cases (take i xs) (drop i xs) y (rw (take-append-drop i xs) there)) [
      | inl before ↦ Contains-append_left (take i xs) (x ∷ drop i xs) y before
      | inr behind ↦ Contains-append_right (take i xs) (x ∷ drop i xs) y (contains_tail x (drop i xs) y behind)
    ]
    | inr same ↦ Contains-append_right (take i xs) (x ∷ drop i xs) y (contains_head x (drop i xs) y same)
  ],
)
