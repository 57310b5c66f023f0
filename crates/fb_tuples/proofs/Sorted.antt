-- Rows of different entities that are sorted rise.
use Rattle.std.proofs.Common.{◌≡◌, ℕ, suc, ◌+◌, Bool, true, false, cond, List, [], ◌∷◌, map, get_or}
use Rattle.std.proofs.Common.{refl, sym, ap, ◌∙◌, subst, arith}
use Rattle.std.specs.Prelude.{nat_eq, filter}
use Rattle.std.specs.List.{IsDistinct, AllByRecursion}
use Rattle.std.specs.List.Sorted.{IsPermutation, IsSortedBy, IsStrictlyIncreasing}
use Rattle.std.specs.Ordering.{is_lt, ordering_reverse}
use Rattle.std.specs.declared.cmp.Ordering.{Ordering}
use Rattle.std.specs.declared.cmp.Ordering.TheVariants.{Less, Equal, Greater}
use Rattle.std.proofs.lemmas.Bool.{true≢false, and_from, eq-eqb, eqb-true}
use Rattle.std.proofs.lemmas.List.Kept.{AllPairs-from_increasing}
use Rattle.std.proofs.lemmas.Map.Keys.{IsDistinct-from_apart, IsDistinct-IsPermutation}
use Rattle.tuple_model.specs.Tuples.{Row, row_cmp, rows_rise}
use Rattle.tuple_model.proofs.Rows.{row_cmp-Equal}
use Rattle.fb_tuples.proofs.RowOrders.{row_cmp_total}
use Rattle.fb_tuples.proofs.Firsts.{not_same}

abbrev pub same_entity : Row → Row → Bool
same_entity x y = nat_eq x.e y.e

flips : (x y : Row) → same_entity x y ≡ same_entity y x
flips x y = go (nat_eq x.e y.e) refl
  where
    go : (b : Bool) → nat_eq x.e y.e ≡ b → b ≡ nat_eq y.e x.e
    go true is = sym (eq-eqb y.e x.e (sym (eqb-true x.e y.e is)))
    go false is = sym (not_same y.e x.e (λ same. true≢false (sym (eq-eqb x.e y.e (sym same)) ∙ is)))

pub numbers_apart : (es : List ℕ) → IsStrictlyIncreasing es → IsDistinct nat_eq es
numbers_apart es rising =
    IsDistinct-from_apart nat_eq es
    (λ i j d before within. not_same (get_or es i d) (get_or es j d)
    (λ same. absurd (omega (arith, same, AllPairs-from_increasing es rising i j d before within))))

others : (x : Row) (rows : List Row) → AllByRecursion (λ n. nat_eq x.e n ≡ false) (map (λ row. row.e) rows)
    → AllByRecursion (λ y. same_entity x y ≡ false) rows
others x [] apart = tt
others x (y ∷ rows) apart = (apart.0, others x rows apart.1)

pub rows_apart : (rows : List Row) → IsDistinct nat_eq (map (λ row. row.e) rows) → IsDistinct same_entity rows
unfolding IsDistinct
rows_apart [] apart = tt
rows_apart (x ∷ rows) apart = (others x rows apart.0, rows_apart rows apart.1)

kept_first : (b : Bool) (x : Row) (rows : List Row) → AllByRecursion (λ z. same_entity x z ≡ false) rows → IsDistinct same_entity rows
    → IsDistinct same_entity (cond b (x ∷ rows) rows)
unfolding IsDistinct
kept_first true x rows others rest = (others, rest)
kept_first false x rows others rest = rest

module _ (p : Row → Bool) where
  kept_others : (x : Row) (rows : List Row) → AllByRecursion (λ y. same_entity x y ≡ false) rows
      → AllByRecursion (λ y. same_entity x y ≡ false) (filter p rows)
  kept_others x [] apart = tt
  kept_others x (y ∷ rows) apart = go (p y) (kept_others x rows apart.1)
    where
      go : (b : Bool) → AllByRecursion (λ z. same_entity x z ≡ false) (filter p rows)
          → AllByRecursion (λ z. same_entity x z ≡ false) (cond b (y ∷ filter p rows) (filter p rows))
      go true rest = (apart.0, rest)
      go false rest = rest

  pub kept_apart : (rows : List Row) → IsDistinct same_entity rows → IsDistinct same_entity (filter p rows)
  unfolding IsDistinct
  kept_apart [] apart = tt
  kept_apart (x ∷ rows) apart = kept_first (p x) x (filter p rows) (kept_others x rows apart.0) (kept_apart rows apart.1)

next_above : (x y : Row) → is_lt (row_cmp y x) ≡ false → same_entity x y ≡ false → is_lt (row_cmp x y) ≡ true
next_above x y upto apart = go (row_cmp x y) refl
  where
    go : (o : Ordering) → row_cmp x y ≡ o → is_lt o ≡ true
    go Less is = refl
    go Equal is = absurd (true≢false (sym (eq-eqb x.e y.e (ap (λ (row : Row). row.e) (row_cmp-Equal x y is))) ∙ apart))
    go Greater is = absurd (true≢false (sym (ap is_lt (row_cmp_total.antisymm y x ∙ ap ordering_reverse is)) ∙ upto))

module _ {A : Type 0} (f : A → Row) where
  rise : (xs : List A) → IsSortedBy (λ x y. is_lt (row_cmp (f x) (f y))) xs → IsDistinct same_entity (map f xs) → rows_rise (map f xs) ≡ true
  unfolding IsDistinct
  rise [] sorted apart = refl
  rise (x ∷ []) sorted apart = refl
  rise (x ∷ y ∷ xs) sorted apart =
      and_from (is_lt (row_cmp (f x) (f y))) (rows_rise (f y ∷ map f xs))
      (next_above (f x) (f y) (sorted 0 x (omega arith) (omega arith)) apart.0.0)
      (rise (y ∷ xs) (λ k d low high. subst
      (λ n. is_lt (row_cmp (f (get_or (x ∷ y ∷ xs) n d)) (f (get_or (y ∷ xs) k d))) ≡ false) (later k)
      (sorted (suc k) d (omega arith) (omega (arith, high)))) apart.1)
    where
      later : (k : ℕ) → suc k + 1 ≡ suc (k + 1)
      later k = omega arith

  -- those of some rows, by their entities, that pass a test
  pub kept_rows_rise : (p : Row → Bool) (rows : List Row) → IsStrictlyIncreasing (map (λ row. row.e) rows)
      → (ys : List A) → IsPermutation (filter p rows) (map f ys) → IsSortedBy (λ x y. is_lt (row_cmp (f x) (f y))) ys
      → rows_rise (map f ys) ≡ true
  kept_rows_rise p rows rising ys moved sorted =
      rise ys sorted
      (IsDistinct-IsPermutation same_entity flips (filter p rows) (map f ys) moved
      (kept_apart p rows (rows_apart rows (numbers_apart (map (λ row. row.e) rows) rising))))

pub map_same : (rows : List Row) → map (λ row. row) rows ≡ rows
map_same [] = refl
map_same (row ∷ rows) = ap (λ l. row ∷ l) (map_same rows)

-- rows that are apart, sorted
pub apart_rise : (rows ys : List Row) → IsDistinct same_entity rows → IsPermutation rows ys → IsSortedBy (λ x y. is_lt (row_cmp x y)) ys
    → rows_rise ys ≡ true
apart_rise rows ys apart moved sorted =
    ap rows_rise (sym (map_same ys))
    ∙ rise (λ row. row) ys sorted (subst (IsDistinct same_entity) (sym (map_same ys)) (IsDistinct-IsPermutation same_entity flips rows ys moved apart))
