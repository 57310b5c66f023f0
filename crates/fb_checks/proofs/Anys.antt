-- Whether some member of a list passes.
use Rattle.std.proofs.Common.{◌≡◌, Bool, true, false, ◌||◌, List, [], ◌∷◌, map, refl, ap, ◌∙◌}
use Rattle.std.specs.List.{list_any}

module _ {A : Type 0} where
  pub any_false : (p : A → Bool) → ((x : A) → p x ≡ false) → (xs : List A) → list_any p xs ≡ false
  any_false p none [] = refl
  any_false p none (x ∷ xs) = ap (λ b. b || list_any p xs) (none x) ∙ any_false p none xs

  pub any_agree : (p q : A → Bool) → ((x : A) → p x ≡ q x) → (xs : List A) → list_any p xs ≡ list_any q xs
  any_agree p q same [] = refl
  any_agree p q same (x ∷ xs) = ap (λ b. b || list_any p xs) (same x) ∙ ap (λ b. q x || b) (any_agree p q same xs)

or_parts_swapped : (a b c d : Bool) → ((a || b) || (c || d)) ≡ ((a || c) || (b || d))
or_parts_swapped true b c d = refl
or_parts_swapped false true true d = refl
or_parts_swapped false true false d = refl
or_parts_swapped false false c d = refl

module _ {A : Type 0} (p q : A → Bool) where
  any_or : (xs : List A) → list_any (λ x. p x || q x) xs ≡ (list_any p xs || list_any q xs)
  any_or [] = refl
  any_or (x ∷ xs) =
      ap (λ b. (p x || q x) || b) (any_or xs) ∙ or_parts_swapped (p x) (q x) (list_any p xs) (list_any q xs)

module _ {A B : Type 0} where
  pub any_map : (p : B → Bool) (f : A → B) (xs : List A) → list_any p (map f xs) ≡ list_any (λ x. p (f x)) xs
  any_map p f [] = refl
  any_map p f (x ∷ xs) = ap (λ b. p (f x) || b) (any_map p f xs)

  -- some of the one list with some of the other
  pub any_swap : (r : A → B → Bool) (xs : List A) (ys : List B)
      → list_any (λ x. list_any (r x) ys) xs ≡ list_any (λ y. list_any (λ x. r x y) xs) ys
  any_swap r xs [] = any_false (λ x. false) (λ x. refl) xs
  any_swap r xs (y ∷ ys) =
      any_or (λ x. r x y) (λ x. list_any (r x) ys) xs ∙ ap (λ b. list_any (λ x. r x y) xs || b) (any_swap r xs ys)
