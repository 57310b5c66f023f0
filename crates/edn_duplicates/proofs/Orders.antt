-- Lists in one order: two that rise and have the same elements are one list.
use Rattle.std.proofs.Common.{◌≡◌, ◌≤◌, Bool, true, false, ◌||◌, List, [], ◌∷◌, ◌++◌, length, Ordering, Less, Equal, Greater, is_eq, is_lt}
use Rattle.std.proofs.Common.{IsPermutation, refl, ap, sym, subst, ◌∙◌, true≢false, arith}
use Rattle.std.proofs.lemmas.Cmp.{tied_itself, eq_by_cmp_equiv}
use Rattle.std.proofs.lemmas.List.Sorted.{list_any-IsPermutation, length_permutation}
use Rattle.std.proofs.lemmas.Map.Keys.{IsDistinct-from_sorted, IsDistinct-IsPermutation}
use Rattle.std.proofs.lemmas.Map.Lookups.{CmpEqualImpliesEq}
use Rattle.std.proofs.lemmas.Map.Made.{length-le_from_is_member}
use Rattle.std.specs.Cmp.{IsTotalOrder}
use Rattle.std.specs.List.{AllByRecursion, IsDistinct, list_any}
use Rattle.std.specs.List.Sorted.{IsStrictlySortedBy}
use Rattle.std.specs.Ordering.{eq_by_cmp, ordering_reverse}
use Rattle.edn_duplicates.specs.Code.{Rises}
use Rattle.edn_duplicates.proofs.Lists.{each_behind}

module _ {K : Type 0} {c : K → K → Ordering} (o : IsTotalOrder c) (exact : CmpEqualImpliesEq c) where
  -- whether a list has an element
  abbrev pub has : K → List K → Bool
  has q xs = list_any (eq_by_cmp c q) xs

  pub has_itself : (x : K) (xs : List K) → has x (x ∷ xs) ≡ true
  has_itself x xs = ap (λ r. is_eq r || has x xs) (tied_itself o x)

  pub same_key : (x y : K) → eq_by_cmp c x y ≡ true → x ≡ y
  same_key x y h =
      elim (c x y) as (λ r. c x y ≡ r → is_eq r ≡ true → x ≡ y) [
        | Less ↦ λ _ e. absurd (true≢false (sym e))
        | Equal ↦ λ e _. exact x y e
        | Greater ↦ λ _ e. absurd (true≢false (sym e))
      ] refl h

  -- an element that a list has is the first or another
  pub first_or_later : {P : Type 0} (q x : K) (xs : List K) → has q (x ∷ xs) ≡ true → (q ≡ x → P) → (has q xs ≡ true → P) → P
  first_or_later {P} q x xs h first later =
      elim (eq_by_cmp c q x) as (λ b. eq_by_cmp c q x ≡ b → (b || has q xs) ≡ true → P) [
        | true ↦ λ e _. first (same_key q x e)
        | false ↦ λ _ k. later k
      ] refl h

  pub has_property : (P : K → Type 0) (xs : List K) → AllByRecursion P xs → (q : K) → has q xs ≡ true → P q
  has_property P [] a q h = absurd (true≢false (sym h))
  has_property P (x ∷ xs) a q h = first_or_later q x xs h (λ e. subst P (sym e) a.0) (λ k. has_property P xs a.1 q k)

  less_from : (x y : K) → is_lt (c y x) ≡ false → eq_by_cmp c x y ≡ false → c x y ≡ Less
  less_from x y h e =
      elim (c y x) as (λ r. c x y ≡ ordering_reverse r → is_lt r ≡ false → c x y ≡ Less) [
        | Less ↦ λ _ k. absurd (true≢false k)
        | Equal ↦ λ p _. absurd (true≢false (sym (ap is_eq p) ∙ e))
        | Greater ↦ λ p _. p
      ] (o.antisymm x y) h

  all_less : (x : K) (ys : List K) → AllByRecursion (λ y. is_lt (c y x) ≡ false) ys → AllByRecursion (λ y. eq_by_cmp c x y ≡ false) ys
      → AllByRecursion (λ y. c x y ≡ Less) ys
  all_less x [] r d = tt
  all_less x (y ∷ ys) r d = (less_from x y r.0 d.0, all_less x ys r.1 d.1)

  -- what rises, and has no two alike, rises at each step
  strictly_sorted : (xs : List K) → Rises (λ a b. is_lt (c a b)) xs → IsDistinct (eq_by_cmp c) xs → IsStrictlySortedBy c xs
  unfolding IsDistinct IsStrictlySortedBy
  strictly_sorted [] r d = tt
  strictly_sorted (x ∷ xs) r d = (all_less x xs r.0 d.0, strictly_sorted xs r.1 d.1)

  not_less : (x : K) → c x x ≡ Less → ⊥
  not_less x h = true≢false (sym (ap is_eq (tied_itself o x)) ∙ ap is_eq h)

  abbrev pub Within : List K → List K → Type 0
  Within xs ys = (q : K) → has q xs ≡ true → has q ys ≡ true

  has_later : (q x : K) (xs : List K) → has q xs ≡ true → has q (x ∷ xs) ≡ true
  has_later q x xs h = elim (eq_by_cmp c q x) as (λ b. (b || has q xs) ≡ true) [ true ↦ refl | false ↦ h ]

  -- of two lists that rise, with no two alike in the first, which is no shorter: where the second has all of it, they are one
  one_list : (xs ys : List K) → IsStrictlySortedBy c xs → Rises (λ a b. is_lt (c a b)) ys → Within xs ys → length ys ≤ length xs → xs ≡ ys
  unfolding IsStrictlySortedBy
  one_list [] [] s r w l = refl
  one_list [] (y ∷ ys) s r w l = absurd (omega arith)
  one_list (x ∷ xs) [] s r w l = absurd (true≢false (sym (w x (has_itself x xs))))
  one_list (x ∷ xs) (y ∷ ys) s r w l =
      let above : (q : K) → has q xs ≡ true → c x q ≡ Less = λ q h. has_property (λ z. c x z ≡ Less) xs s.0 q h in
      elim (c x y) as (λ a. c x y ≡ a → x ∷ xs ≡ y ∷ ys) [
        | Less ↦ λ e.
            let later : has x ys ≡ true =
            first_or_later x y ys (w x (has_itself x xs)) (λ p. absurd (not_less x (subst (λ z. c x z ≡ Less) (sym p) e))) (λ h. h) in
            let none : is_lt (c x y) ≡ false = has_property (λ z. is_lt (c z y) ≡ false) ys r.0 x later in
            absurd (true≢false (sym (ap is_lt e) ∙ none))
        | Equal ↦ λ e.
            let p : x ≡ y = exact x y e in
            let inner : Within xs ys =
            λ q h. first_or_later q y ys (w q (has_later q x xs h))
            (λ z. absurd (not_less x (subst (λ k. c x k ≡ Less) (z ∙ sym p) (above q h)))) (λ k. k) in
            ap (λ z. z ∷ xs) p ∙ ap (λ zs. y ∷ zs) (one_list xs ys s.1 r.1 inner (omega arith))
        | Greater ↦ λ e.
            let after : c y x ≡ Less = o.antisymm y x ∙ ap ordering_reverse e in
            let apart : (q : K) → has q (x ∷ xs) ≡ true → q ≡ y → ⊥ =
            λ q h z. first_or_later q x xs h (λ k. not_less y (subst (λ m. c y m ≡ Less) (sym k ∙ z) after))
            (λ k. not_less y (subst (λ m. c y m ≡ Less) z (o.trans y x q after (above q k)))) in
            let inner : Within (x ∷ xs) ys = λ q h. first_or_later q y ys (w q h) (λ z. absurd (apart q h z)) (λ k. k) in
            let short : length (x ∷ xs) ≤ length ys =
            length-le_from_is_member (eq_by_cmp_equiv o) (x ∷ xs) ys (IsDistinct-from_sorted c (x ∷ xs) s) inner in
            absurd (omega arith)
      ] refl

  -- two lists of as many elements, one of which has all of the other's, with no two alike: in order they are one list
  pub one_order : (xs ys sorted sorted' : List K) → IsDistinct (eq_by_cmp c) xs → Within xs ys → length xs ≡ length ys
      → IsPermutation xs sorted → IsPermutation ys sorted' → Rises (λ a b. is_lt (c a b)) sorted → Rises (λ a b. is_lt (c a b)) sorted'
      → sorted ≡ sorted'
  one_order xs ys sorted sorted' d w l p q r r' =
      let distinct : IsDistinct (eq_by_cmp c) sorted = IsDistinct-IsPermutation (eq_by_cmp c) (eq_by_cmp_equiv o).symm xs sorted p d in
      let m : length sorted ≡ length xs = length_permutation xs sorted p in
      let n : length sorted' ≡ length ys = length_permutation ys sorted' q in
      one_list sorted sorted' (strictly_sorted sorted r distinct) r'
      (λ k h. sym (list_any-IsPermutation (eq_by_cmp c k) ys sorted' q) ∙ w k (list_any-IsPermutation (eq_by_cmp c k) xs sorted p ∙ h))
      (omega arith)

  -- behind a list that has no two alike, what stands there is in none of it
  pub none_before : (xs : List K) (y : K) (ys : List K) → IsDistinct (eq_by_cmp c) (xs ++ y ∷ ys) → has y xs ≡ false
  unfolding IsDistinct
  none_before [] y ys d = refl
  none_before (x ∷ xs) y ys d =
      let apart : eq_by_cmp c y x ≡ false = (eq_by_cmp_equiv o).symm y x ∙ each_behind (λ z. eq_by_cmp c x z ≡ false) xs y ys d.0 in
      ap (λ b. b || has y xs) apart ∙ none_before xs y ys d.1
