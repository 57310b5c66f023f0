-- Reading a list from its front.
use Rattle.std.proofs.Common.{◌≡◌, ℕ, zero, suc, ◌+◌, ◌<◌, List, [], ◌∷◌, ◌++◌, length, take, refl, sym, ap, ◌-◌, ◌∙◌, arith, Some, None}
use Rattle.std.specs.Prelude.{ℤ, pos, fold}
use Rattle.fb_values.specs.declared.facts.Entry.{Entry}
use Rattle.fb_model.specs.History.{last_instant}
use Rattle.std.specs.List.{slice_get}

pub take-next : {X : Type 0} (xs : List X) (i : ℕ) (x : X) → slice_get xs i ≡ Some x → take (i + 1) xs ≡ take i xs ++ x ∷ []
take-next [] i x read = absurd (cc)
take-next (y ∷ xs) zero x read = let same : y ≡ x = cc in ap (λ z. z ∷ []) same
take-next (y ∷ xs) (suc i) x read =
    let one : suc i + 1 ≡ suc (i + 1) = omega arith in rw one (ap (λ rest. y ∷ rest) (take-next xs i x read))

-- a list has something at each place before its end
pub there_is : {X : Type 0} (xs : List X) (i : ℕ) → i < length xs → slice_get xs i ≡ None → ⊥
there_is [] i within none = omega (arith, within)
there_is (x ∷ xs) zero within none = cc
there_is (x ∷ xs) (suc i) within none = there_is xs i (omega (arith, within)) none

behind_first : {X : Type 0} (x y : X) (xs : List X) (n : ℕ) → slice_get (x ∷ y ∷ xs) (suc (suc n) - 1) ≡ slice_get (y ∷ xs) (suc n - 1)
behind_first x y xs n = let one : suc (suc n) - 1 ≡ suc n = omega arith in let less : suc n - 1 ≡ n = omega arith in rw (one, less) refl

fold_last : (start : ℤ) (h : List Entry) (entry : Entry) → slice_get h (length h - 1) ≡ Some entry
    → fold (λ _ e. e.instant) start h ≡ entry.instant
fold_last start [] entry read = absurd (cc)
fold_last start (x ∷ []) entry read = let same : x ≡ entry = cc in ap (λ (e : Entry). e.instant) same
fold_last start (x ∷ y ∷ h) entry read = fold_last x.instant (y ∷ h) entry (sym (behind_first x y h (length h)) ∙ read)

pub last_instant_is : (h : List Entry) (entry : Entry) → slice_get h (length h - 1) ≡ Some entry → last_instant h ≡ entry.instant
last_instant_is h entry read = fold_last (pos 0) h entry read
