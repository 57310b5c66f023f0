-- Places in lists, and in what a function makes of them.
use Rattle.std.proofs.Common.{◌≡◌, ℕ, zero, suc, List, [], ◌∷◌, ◌++◌, map, Some, refl, sym, ap, subst, arith}
use Rattle.std.specs.List.{slice_get, All}
use Rattle.std.proofs.lemmas.Option.{slice_get_within, get_or_from_slice_get}
use Rattle.std.proofs.lemmas.List.Elements.{All-append}
use mathlib.Core.Option.{some, some-injective, some-ne-none}
use lib.ListN.{get_elem?}

module _ {A B : Type 0} (f : A → B) where
  pub made_of : (l : List A) (k : ℕ) (b : B) → get_elem? (map f l) k ≡ some b → (a : A) × (slice_get l k ≡ Some a) × (b ≡ f a)
  made_of [] k b e = absurd (some-ne-none b (sym e))
  made_of (x ∷ l) zero b e = (x, refl, sym (some-injective (f x) b e))
  made_of (x ∷ l) (suc k) b e = made_of l k b e

  pub made_at : (l : List A) (k : ℕ) (a : A) → slice_get l k ≡ Some a → get_elem? (map f l) k ≡ some (f a)
  made_at [] k a e = absurd (cc)
  made_at (x ∷ l) zero a e = let same : x ≡ a = cc e in ap (λ z. some (f z)) same
  made_at (x ∷ l) (suc k) a e = made_at l k a e

  pub each_made : (P : B → Type 0) (l : List A) (k : ℕ) (a : A) → All P (map f l) → slice_get l k ≡ Some a → P (f a)
  each_made P [] k a all e = absurd (cc)
  each_made P (x ∷ l) zero a all e = let same : x ≡ a = cc e in subst (λ z. P (f z)) same (all zero (f x) (omega arith))
  each_made P (x ∷ l) (suc k) a all e = each_made P l k a (λ i d within. all (suc i) d (omega (arith, within))) e

pub all_at : {A : Type 0} (P : A → Type 0) (l : List A) (k : ℕ) (a : A) → All P l → slice_get l k ≡ Some a → P a
all_at P l k a all at = subst P (get_or_from_slice_get l k a a at) (all k a (slice_get_within l k a at))

only : {A : Type 0} (P : A → Type 0) (a : A) → P a → All P (a ∷ [])
only P a p zero d within = p
only P a p (suc k) d within = absurd (omega arith)

pub all_with : {A : Type 0} (P : A → Type 0) (l m : List A) (a : A) → m ≡ l ++ a ∷ [] → All P l → P a → All P m
all_with P l m a e all last = subst (All P) (sym e) (All-append P l (a ∷ []) all (only P a last))
