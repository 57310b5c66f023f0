-- Rows below a bound come first.
use Rattle.std.proofs.Common.{◌≡◌, ℕ, zero, suc, ◌<◌, ◌≤◌, Bool, true, false, not, ◌&&◌, List, [], ◌∷◌, length, map, get_or}
use Rattle.std.proofs.Common.{refl, sym, ap, ◌∙◌, subst, arith, Option, Some, None}
use Rattle.std.specs.Prelude.{Contains, take, drop}
use Rattle.std.proofs.Math.ListN.{get_or-map}
use Rattle.std.proofs.lemmas.List.{length-map}
use Rattle.std.specs.Option.{option_map_or}
use Rattle.std.specs.List.{AllWithin}
use Rattle.std.specs.List.Sorted.{IsPartitionedBy}
use Rattle.std.specs.Ordering.{is_lt, ordering_then, nat_cmp}
use Rattle.std.specs.declared.cmp.Ordering.{Ordering}
use Rattle.std.specs.declared.cmp.Ordering.TheVariants.{Less, Equal, Greater}
use Rattle.std.proofs.lemmas.Bool.{true≢false}
use Rattle.std.proofs.lemmas.List.Elements.{Contains-get_or}
use Rattle.fb_values.specs.declared.facts.Value.{Value}
use Rattle.tuple_model.specs.Tuples.{Tuple, Row, tuple_cmp, row_cmp, rows_rise, is_in_range, range}
use Rattle.tuple_model.proofs.Rows.{tuple_cmp-Equal, first_is_least, rest_rises}
use Rattle.fb_tuples.proofs.RowOrders.{tuple_cmp_total}
use Rattle.std.specs.Borrow.{Bor}
use Rattle.fb_tuples.specs.Lent.{tuple_lent, is_below}
use Rattle.fb_tuples.proofs.Parts.{front_kept, rest_kept, filter_twice, filter_agree}

is_less : (r : Ordering) → is_lt r ≡ true → r ≡ Less
is_less Less e = refl
is_less Equal e = absurd (true≢false (sym e))
is_less Greater e = absurd (true≢false (sym e))

-- what is below a row that is below the bound is below the bound
below_too : (bound : Tuple) (x y : Row) → is_lt (row_cmp x y) ≡ true → is_below bound y ≡ true → is_below bound x ≡ true
below_too bound x y less below = go (tuple_cmp x.tuple y.tuple) refl less
  where
    go : (r : Ordering) → tuple_cmp x.tuple y.tuple ≡ r → is_lt (ordering_then r (nat_cmp x.e y.e)) ≡ true → is_below bound x ≡ true
    go Less is by = ap is_lt (tuple_cmp_total.trans x.tuple y.tuple bound is (is_less (tuple_cmp y.tuple bound) below))
    go Equal is by = subst (λ t. is_lt (tuple_cmp t bound) ≡ true) (sym (tuple_cmp-Equal x.tuple y.tuple is)) below
    go Greater is by = absurd (true≢false (sym by))

module _ {A : Type 0} (f : A → Row) (bound : Tuple) where
  has_map : (xs : List A) (j : ℕ) (d : A) → j < length xs → Contains (map f xs) (f (get_or xs j d))
  has_map xs j d within = subst (Contains (map f xs)) (get_or-map f xs j d) (Contains-get_or (map f xs) j (f d) (rw length-map within))

  pub partitioned : (xs : List A) → rows_rise (map f xs) ≡ true → IsPartitionedBy (λ x. is_below bound (f x)) xs
  partitioned [] rising i j d le within below = absurd (omega (arith, within))
  partitioned (x ∷ xs) rising zero zero d le within below = below
  partitioned (x ∷ xs) rising zero (suc j) d le within below =
      below_too bound (f x) (f (get_or xs j d))
      (first_is_least (f x) (map f xs) (f (get_or xs j d)) rising (has_map xs j d (omega (arith, within)))) below
  partitioned (x ∷ xs) rising (suc i) zero d le within below = absurd (omega (arith, le))
  partitioned (x ∷ xs) rising (suc i) (suc j) d le within below =
      partitioned xs (rest_rises (f x) (map f xs) rising) i j d (omega (arith, le)) (omega (arith, within)) below

  module _ (xs : List A) (n : ℕ) (within : n ≤ length xs) (front : AllWithin (λ x. is_below bound (f x) ≡ true) xs 0 n)
      (back : AllWithin (λ x. is_below bound (f x) ≡ false) xs n (length xs)) where
    pub below_rows : map f (take n xs) ≡ range None (Some bound) (map f xs)
    below_rows = front_kept f (is_below bound) xs n within front back

    pub rows_behind : map f (drop n xs) ≡ range (Some bound) None (map f xs)
    rows_behind =
        rest_kept f (is_below bound) xs n within front back
        ∙ filter_agree (λ row. not (is_below bound row)) (is_in_range (Some bound) None) (λ row. and_true (not (is_below bound row))) (map f xs)
      where
        and_true : (b : Bool) → b ≡ (b && true)
        and_true true = refl
        and_true false = refl

pub range_in_turn : (start end : Option Tuple) (rows : List Row) → range None end (range start None rows) ≡ range start end rows
range_in_turn start end rows = filter_twice (is_in_range None end) (is_in_range start None) (is_in_range start end) both rows
  where
    both : (row : Row) → is_in_range start end row ≡ (is_in_range start None row && is_in_range None end row)
    both row =
        go (option_map_or (λ bound. not (is_lt (tuple_cmp row.tuple bound))) start true)
        (option_map_or (λ bound. is_lt (tuple_cmp row.tuple bound)) end true)
      where
        go : (a b : Bool) → (a && b) ≡ ((a && true) && (true && b))
        go true true = refl
        go true false = refl
        go false true = refl
        go false false = refl

pub all_in_range : (rows : List Row) → rows ≡ range None None rows
all_in_range [] = refl
all_in_range (row ∷ rows) = ap (λ l. row ∷ l) (all_in_range rows)

-- a list goes behind one that it begins with
pub longer_is_greater : (xs : List (Option (Bor Value))) (ys : List (Option Value)) → 1 ≤ length xs → length ys < 1
    → Greater ≡ tuple_cmp (tuple_lent xs) ys
longer_is_greater [] ys some none = absurd (omega (arith, some))
longer_is_greater (x ∷ xs) [] some none = refl
longer_is_greater (x ∷ xs) (y ∷ ys) some none = absurd (omega (arith, none))
