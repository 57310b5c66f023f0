-- One more of a list that is looked up element by element, until one finds nothing.
use Rattle.std.proofs.Common.{◌≡◌, ℕ, ◌+◌, ◌<◌, ◌≤◌, Bool, true, false, Option, Some, None, List, [], ◌∷◌, ◌++◌, length, map, take, drop}
use Rattle.std.proofs.Common.{get_or, ap, sym, ◌∙◌}
use Rattle.std.proofs.lemmas.List.{map_push, map_more, at_drop_more, at_drop_all}
use Rattle.std.specs.List.{list_any}
use Rattle.tx_model.specs.Step.{first_yes}

-- what the element at i gives stands behind what those before it gave
pub given_more : {A B C : Type 0} (shows : B → C) (gives : A → C) (xs : List A) (ys zs : List B) (i : ℕ) (x : A) (y : B)
    → i < length xs → x ≡ get_or xs i x → shows y ≡ gives x → zs ≡ ys ++ y ∷ [] → map shows ys ≡ map gives (take i xs)
    → map shows zs ≡ map gives (take (i + 1) xs)
given_more shows gives xs ys zs i x y inside is given more so_far =
    ap (map shows) more
    ∙ map_push shows ys y
    ∙ ap (λ list. list ++ shows y ∷ []) so_far
    ∙ ap (λ c. map gives (take i xs) ++ c ∷ []) given
    ∙ ap (λ a. map gives (take i xs) ++ gives a ∷ []) is
    ∙ sym (map_more gives xs i x inside)

module _ {A : Type 0} (test : A → Bool) (xs : List A) (i : ℕ) (x : A) (inside : i < length xs) (is : x ≡ get_or xs i x) where
  any_at : list_any test (drop i xs) ≡ list_any test (x ∷ drop (i + 1) xs)
  any_at = at_drop_more (list_any test) xs i x inside ∙ ap (λ a. list_any test (a ∷ drop (i + 1) xs)) (sym is)

  -- the element at i passes
  pub any_here : (whole : Bool) → test x ≡ true → list_any test (drop i xs) ≡ whole → true ≡ whole
  any_here whole passes so_far = sym (any_at ∙ rw passes) ∙ so_far

  pub any_later : (whole : Bool) → test x ≡ false → list_any test (drop i xs) ≡ whole → list_any test (drop (i + 1) xs) ≡ whole
  any_later whole fails so_far = sym (any_at ∙ rw fails) ∙ so_far

  first_at : (n : ℕ) → first_yes n (map test (drop i xs)) ≡ first_yes n (map test (x ∷ drop (i + 1) xs))
  first_at n =
      at_drop_more (λ list. first_yes n (map test list)) xs i x inside
      ∙ ap (λ a. first_yes n (map test (a ∷ drop (i + 1) xs))) (sym is)

  pub first_here : (n : ℕ) (whole : Option ℕ) → test x ≡ true → first_yes n (map test (drop i xs)) ≡ whole → Some n ≡ whole
  first_here n whole passes so_far = sym (first_at n ∙ rw passes) ∙ so_far

  pub first_later : (n : ℕ) (whole : Option ℕ) → test x ≡ false → first_yes n (map test (drop i xs)) ≡ whole
      → first_yes (n + 1) (map test (drop (i + 1) xs)) ≡ whole
  first_later n whole fails so_far = sym (first_at n ∙ rw fails) ∙ so_far

module _ {A : Type 0} (test : A → Bool) (xs : List A) (i : ℕ) (outside : length xs ≤ i) where
  pub any_left : (whole : Bool) → list_any test (drop i xs) ≡ whole → false ≡ whole
  any_left whole so_far = sym (at_drop_all (list_any test) xs i outside) ∙ so_far

  pub first_left : (n : ℕ) (whole : Option ℕ) → first_yes n (map test (drop i xs)) ≡ whole → None ≡ whole
  first_left n whole so_far = sym (at_drop_all (λ list. first_yes n (map test list)) xs i outside) ∙ so_far
