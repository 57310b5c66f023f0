-- Lists whose elements all have a property, and lists that rise.
use Rattle.std.proofs.Common.{◌≡◌, ℕ, zero, suc, ◌+◌, ◌<◌, Bool, false, List, [], ◌∷◌, ◌++◌, length, map, get_or, All, IsPermutation}
use Rattle.std.proofs.Common.{IsSortedBy, subst, arith}
use Rattle.std.proofs.lemmas.List.Sorted.{sorted_far, All-permutation}
use Rattle.std.specs.Cmp.{IsStrictWeakOrder}
use Rattle.std.specs.List.{AllByRecursion}
use Rattle.edn_duplicates.specs.Code.{Rises}

the_next : (k : ℕ) → suc k + 1 ≡ suc (suc k)
the_next k = omega arith

one_more : (k : ℕ) → suc k ≡ k + 1
one_more k = omega arith

module _ {X : Type 0} where
  pub each_from_all : (P : X → Type 0) (xs : List X) → All P xs → AllByRecursion P xs
  each_from_all P [] h = tt
  each_from_all P (x ∷ xs) h = (h zero x (omega arith), each_from_all P xs (λ k d l. h (suc k) d (omega arith)))

  pub all_from_each : (P : X → Type 0) (xs : List X) → AllByRecursion P xs → (k : ℕ) (d : X) → k < length xs → P (get_or xs k d)
  all_from_each P [] a k d l = absurd (omega arith)
  all_from_each P (x ∷ xs) a zero d l = a.0
  all_from_each P (x ∷ xs) a (suc k) d l = all_from_each P xs a.1 k d (omega arith)

  pub each_shuffled : (P : X → Type 0) (xs ys : List X) → IsPermutation xs ys → AllByRecursion P xs → AllByRecursion P ys
  each_shuffled P xs ys p a = each_from_all P ys (All-permutation P xs ys p (all_from_each P xs a))

  pub each_weaker : (P Q : X → Type 0) → ((x : X) → P x → Q x) → (xs : List X) → AllByRecursion P xs → AllByRecursion Q xs
  each_weaker P Q f [] a = tt
  each_weaker P Q f (x ∷ xs) a = (f x a.0, each_weaker P Q f xs a.1)

  -- the last of the first ones, of those in a row
  pub each_behind : (P : X → Type 0) (xs : List X) (y : X) (ys : List X) → AllByRecursion P (xs ++ y ∷ ys) → P y
  each_behind P [] y ys a = a.0
  each_behind P (x ∷ xs) y ys a = each_behind P xs y ys a.1

  pub rises_from_sorted : (lt : X → X → Bool) → IsStrictWeakOrder lt → (xs : List X) → IsSortedBy lt xs → Rises lt xs
  rises_from_sorted lt o [] s = tt
  rises_from_sorted lt o (x ∷ xs) s =
      let below : (k : ℕ) (d : X) → k < length xs → lt (get_or xs k d) x ≡ false =
      λ k d l. sorted_far lt o (x ∷ xs) s zero (suc k) d (omega arith) (omega arith) in
      let next : (k : ℕ) (d : X) → suc k < length xs → lt (get_or xs (suc k) d) (get_or xs k d) ≡ false =
      λ k d l. subst (λ m. lt (get_or (x ∷ xs) m d) (get_or xs k d) ≡ false) (the_next k) (s (suc k) d (omega arith) (omega arith)) in (
        each_from_all (λ y. lt y x ≡ false) xs below,
        rises_from_sorted lt o xs
            (λ k d l h. subst (λ m. lt (get_or xs m d) (get_or xs k d) ≡ false) (one_more k) (next k d (omega arith))),
      )

pub each_mapped : {X Y : Type 0} (f : X → Y) (P : Y → Type 0) (xs : List X) → AllByRecursion (λ x. P (f x)) xs → AllByRecursion P (map f xs)
each_mapped f P [] a = tt
each_mapped f P (x ∷ xs) a = (a.0, each_mapped f P xs a.1)

pub rises_mapped : {X Y : Type 0} (f : X → Y) (lt : Y → Y → Bool) (xs : List X) → Rises (λ x y. lt (f x) (f y)) xs → Rises lt (map f xs)
rises_mapped f lt [] r = tt
rises_mapped f lt (x ∷ xs) r = (each_mapped f (λ y. lt y (f x) ≡ false) xs r.0, rises_mapped f lt xs r.1)
