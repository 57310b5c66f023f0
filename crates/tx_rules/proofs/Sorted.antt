-- Triples in order, and those of them that are neighbours.
use Rattle.std.proofs.Common.{◌≡◌, ℕ, zero, suc, ◌+◌, ◌-◌, ◌<◌, ◌≤◌, Bool, true, false, cond, ◌&&◌, eqb, leb, List, [], ◌∷◌, length, get_or}
use Rattle.std.proofs.Common.{refl, ap, sym, ◌∙◌, arith, inl, inr}
use Rattle.std.specs.Prelude.{filter}
use Rattle.std.specs.List.{list_all}
use Rattle.std.specs.List.Sorted.{IsSortedBy}
use Rattle.std.specs.Cmp.{IsTotalOrder, tied_then}
use Rattle.std.specs.Ordering.{is_lt, is_eq, is_gt, nat_cmp, ordering_then, ordering_reverse, on, then_cmp}
use Rattle.std.specs.declared.cmp.Ordering.{Ordering}
use Rattle.std.specs.declared.cmp.Ordering.TheVariants.{Less, Equal, Greater}
use Rattle.std.proofs.lemmas.Bool.{true≢false, and_parts, and_from, or_cases, or_left, or_right, le-leb, leb-true, lt-ltb, ltb-true}
use Rattle.std.proofs.lemmas.Bool.{cases_order}
use Rattle.std.proofs.lemmas.Cmp.{nat_cmp_total, on_total, then_total, tied_itself, tied_back}
use Rattle.std.proofs.lemmas.List.Sorted.{ranks_by, sorted_far}
use Rattle.fb_values.specs.Orders.{value_cmp}
use Rattle.fb_values.specs.OrderLaws.{value_cmp_total}
use Rattle.fb_model.specs.Facts.{value_eq}
use Rattle.tx_asks.specs.declared.triples.Triple.{Triple}
use Rattle.tx_asks.specs.Triples.{is_below, rise}
use Rattle.tx_rules.specs.Neighbours.{are_of_one_entity, are_of_one_value, is_beside}
use Rattle.tx_rules.proofs.Passing.{two_kept, another_passes, PassesBeside}

-- ---- orders of triples

abbrev pub entity_cmp : Triple → Triple → Ordering
entity_cmp = then_cmp (on (λ t. t.e) nat_cmp) (on (λ t. t.a) nat_cmp)

abbrev pub value_order : Triple → Triple → Ordering
value_order = then_cmp (on (λ t. t.a) nat_cmp) (on (λ t. t.v) value_cmp)

abbrev pub triple_cmp : Triple → Triple → Ordering
triple_cmp = then_cmp entity_cmp (on (λ t. t.v) value_cmp)

pub entity_cmp_total : IsTotalOrder entity_cmp
entity_cmp_total = then_total (on_total (λ (t : Triple). t.e) nat_cmp_total) (on_total (λ (t : Triple). t.a) nat_cmp_total)

pub value_order_total : IsTotalOrder value_order
value_order_total = then_total (on_total (λ (t : Triple). t.a) nat_cmp_total) (on_total (λ (t : Triple). t.v) value_cmp_total)

pub triple_cmp_total : IsTotalOrder triple_cmp
triple_cmp_total = then_total entity_cmp_total (on_total (λ (t : Triple). t.v) value_cmp_total)

is_eq-nat_cmp : (m n : ℕ) → is_eq (nat_cmp m n) ≡ eqb m n
is_eq-nat_cmp m n = grind arith

pub entity_alike : (x y : Triple) → is_eq (entity_cmp x y) ≡ are_of_one_entity x y
entity_alike x y =
    sym (tied_then (nat_cmp x.e y.e) (nat_cmp x.a y.a))
    ∙ ap (λ b. b && is_eq (nat_cmp x.a y.a)) (is_eq-nat_cmp x.e y.e)
    ∙ ap (λ b. eqb x.e y.e && b) (is_eq-nat_cmp x.a y.a)

pub value_alike : (x y : Triple) → is_eq (value_order x y) ≡ are_of_one_value x y
value_alike x y = sym (tied_then (nat_cmp x.a y.a) (value_cmp x.v y.v)) ∙ ap (λ b. b && value_eq x.v y.v) (is_eq-nat_cmp x.a y.a)

pub triple_alike : (x y : Triple) → is_eq (triple_cmp x y) ≡ (are_of_one_entity x y && value_eq x.v y.v)
triple_alike x y = sym (tied_then (entity_cmp x y) (value_cmp x.v y.v)) ∙ ap (λ b. b && value_eq x.v y.v) (entity_alike x y)

-- ---- lists in an order

module _ (R : Triple → Triple → Ordering) (o : IsTotalOrder R) where
  is_eq-true : (r : Ordering) → is_eq r ≡ true → r ≡ Equal
  is_eq-true Less is = absurd (true≢false (sym is))
  is_eq-true Equal is = refl
  is_eq-true Greater is = absurd (true≢false (sym is))

  not_greater : (x y : Triple) → is_lt (R y x) ≡ false → is_gt (R x y) ≡ false
  not_greater x y above = ap is_gt (o.antisymm x y) ∙ turned (R y x) above
    where
      turned : (r : Ordering) → is_lt r ≡ false → is_gt (ordering_reverse r) ≡ false
      turned Less is = absurd (true≢false is)
      turned Equal is = refl
      turned Greater is = refl

  -- what lies between two that are alike is alike to the first
  squeezed : (x y z : Triple) → is_gt (R x y) ≡ false → is_gt (R y z) ≡ false → R x z ≡ Equal → R x y ≡ Equal
  squeezed x y z first second ends = by_cases (R x y) (R y z) refl refl first second
    where
      by_cases : (r s : Ordering) → R x y ≡ r → R y z ≡ s → is_gt r ≡ false → is_gt s ≡ false → r ≡ Equal
      by_cases Less Less p q h k = absurd (true≢false (ap is_lt (sym (o.trans x y z p q) ∙ ends)))
      by_cases Less Equal p q h k =
          absurd (true≢false (ap is_lt (sym p ∙ o.antisymm x y ∙ ap ordering_reverse (tied_right x y z q) ∙ sym (o.antisymm x z) ∙ ends)))
        where
          tied_right : (x y z : Triple) → R y z ≡ Equal → R y x ≡ R z x
          tied_right x y z q = o.congr y z x q
      by_cases Less Greater p q h k = absurd (true≢false k)
      by_cases Equal s p q h k = refl
      by_cases Greater s p q h k = absurd (true≢false h)

  module _ (xs : List Triple) (up : IsSortedBy (λ x y. is_lt (R x y)) xs) where
    far : (i j : ℕ) (d : Triple) → i ≤ j → j < length xs → is_gt (R (get_or xs i d) (get_or xs j d)) ≡ false
    far i j d upto within =
        not_greater (get_or xs i d) (get_or xs j d)
        (sorted_far (λ x y. is_lt (R x y)) (ranks_by o (λ (t : Triple). t)) xs up i j d upto within)

    tied : (i j k : ℕ) (d : Triple) → i ≤ j → j ≤ k → k < length xs → R (get_or xs i d) (get_or xs k d) ≡ Equal
        → R (get_or xs i d) (get_or xs j d) ≡ Equal
    tied i j k d first second within ends =
        squeezed (get_or xs i d) (get_or xs j d) (get_or xs k d) (far i j d first (omega (arith, within))) (far j k d second within) ends

    tied_end : (i j k : ℕ) (d : Triple) → i ≤ j → j ≤ k → k < length xs → R (get_or xs i d) (get_or xs k d) ≡ Equal
        → R (get_or xs j d) (get_or xs k d) ≡ Equal
    tied_end i j k d first second within ends =
        sym (o.congr (get_or xs i d) (get_or xs j d) (get_or xs k d) (tied i j k d first second within ends)) ∙ ends

    abbrev alike : Triple → Triple → Bool
    alike x y = is_eq (R x y)

    alike_from : (x y : Triple) → R x y ≡ Equal → alike x y ≡ true
    alike_from x y is = ap is_eq is

    beside_if : (i : ℕ) (d : Triple) → i < length xs → PassesBeside (alike (get_or xs i d)) xs i d → is_beside alike xs i d ≡ true
    beside_if i d within at = elim (cases_order at.place i) [
      | inl same ↦ absurd (at.other same)
      | inr apart ↦ (elim apart [
        | inl before ↦ or_left _ _ (and_from _ _ (lt-ltb 0 i (omega (arith, before)))
            (alike_from (get_or xs (i - 1) d) (get_or xs i d) (tied_end at.place (i - 1) i d (omega (arith, before)) (omega arith) within
            (tied_back o (get_or xs i d) (get_or xs at.place d) (is_eq-true (R (get_or xs i d) (get_or xs at.place d)) at.passes)))))
        | inr behind ↦ or_right _ _ (and_from _ _ (lt-ltb (i + 1) (length xs) (let inside = at.within in omega (arith, inside, behind)))
            (alike_from (get_or xs i d) (get_or xs (i + 1) d) (tied i (i + 1) at.place d (omega arith) (omega (arith, behind)) at.within
            (is_eq-true (R (get_or xs i d) (get_or xs at.place d)) at.passes))))
      ])
    ]

    two_if : (i : ℕ) (d : Triple) → i < length xs → is_beside alike xs i d ≡ true → 2 ≤ length (filter (alike (get_or xs i d)) xs)
    two_if i d within beside = elim (or_cases _ _ beside) [
      | inl before ↦ (let parts = and_parts _ _ before in
          two_kept (alike (get_or xs i d)) xs (i - 1) i d (let above = ltb-true 0 i parts.0 in omega (arith, above)) within
          (alike_from (get_or xs i d) (get_or xs (i - 1) d) (tied_back o (get_or xs (i - 1) d) (get_or xs i d) (is_eq-true _ parts.1)))
          (alike_from (get_or xs i d) (get_or xs i d) (tied_itself o (get_or xs i d))))
      | inr behind ↦ (let parts = and_parts _ _ behind in
          two_kept (alike (get_or xs i d)) xs i (i + 1) d (omega arith) (ltb-true (i + 1) (length xs) parts.0)
          (alike_from (get_or xs i d) (get_or xs i d) (tied_itself o (get_or xs i d))) parts.1)
    ]

    -- who has a neighbour that is alike is not the only one of its kind
    pub beside-kept : (i : ℕ) (d : Triple) → i < length xs → is_beside alike xs i d ≡ leb 2 (length (filter (alike (get_or xs i d)) xs))
    beside-kept i d within =
        same_tests _ _ (λ beside. le-leb 2 _ (two_if i d within beside))
        (λ two. beside_if i d within (another_passes (alike (get_or xs i d)) xs i d (leb-true 2 _ two)))
      where
        same_tests : (b c : Bool) → (b ≡ true → c ≡ true) → (c ≡ true → b ≡ true) → b ≡ c
        same_tests true c f g = sym (f refl)
        same_tests false true f g = g refl
        same_tests false false f g = refl

-- ---- triples that rise

pub rest_rises : (x : Triple) (xs : List Triple) → rise (x ∷ xs) ≡ true → rise xs ≡ true
rest_rises x [] rising = refl
rest_rises x (y ∷ xs) rising = (and_parts (is_below x y) (rise (y ∷ xs)) rising).1

lt-Less : (r : Ordering) → is_lt r ≡ true → r ≡ Less
lt-Less Less is = refl
lt-Less Equal is = absurd (true≢false (sym is))
lt-Less Greater is = absurd (true≢false (sym is))

pub below_all : (x : Triple) (xs : List Triple) → rise (x ∷ xs) ≡ true → list_all (is_below x) xs ≡ true
below_all x [] rising = refl
below_all x (y ∷ xs) rising =
    let parts = and_parts (is_below x y) (rise (y ∷ xs)) rising in
    and_from _ _ parts.0 (farther xs (below_all y xs parts.1))
  where
    farther : (xs : List Triple) → list_all (is_below y) xs ≡ true → list_all (is_below x) xs ≡ true
    farther [] every = refl
    farther (z ∷ zs) every =
        let parts = and_parts (is_below y z) (list_all (is_below y) zs) every in
        and_from _ _ (ap is_lt (triple_cmp_total.trans x y z (lt-Less (triple_cmp x y) (and_parts (is_below x y) (rise (y ∷ xs)) rising).0)
        (lt-Less (triple_cmp y z) parts.0))) (farther zs parts.1)

-- a part of the list rises too
pub rise-filter : (p : Triple → Bool) (xs : List Triple) → rise xs ≡ true → rise (filter p xs) ≡ true
rise-filter p [] rising = refl
rise-filter p (x ∷ xs) rising = go (p x) (rise-filter p xs (rest_rises x xs rising)) (below_kept xs (below_all x xs rising))
  where
    below_kept : (ys : List Triple) → list_all (is_below x) ys ≡ true → list_all (is_below x) (filter p ys) ≡ true
    below_kept [] every = refl
    below_kept (y ∷ ys) every =
        let parts = and_parts (is_below x y) (list_all (is_below x) ys) every in
        keep (p y) parts.0 (below_kept ys parts.1)
      where
        keep : (b : Bool) → is_below x y ≡ true → list_all (is_below x) (filter p ys) ≡ true
            → list_all (is_below x) (cond b (y ∷ filter p ys) (filter p ys)) ≡ true
        keep true first rest = and_from _ _ first rest
        keep false first rest = rest

    front : (ys : List Triple) → list_all (is_below x) ys ≡ true → rise ys ≡ true → rise (x ∷ ys) ≡ true
    front [] every up = refl
    front (y ∷ ys) every up = and_from _ _ (and_parts (is_below x y) (list_all (is_below x) ys) every).0 up

    go : (b : Bool) → rise (filter p xs) ≡ true → list_all (is_below x) (filter p xs) ≡ true
        → rise (cond b (x ∷ filter p xs) (filter p xs)) ≡ true
    go true up every = front (filter p xs) every up
    go false up every = up

-- each is below those behind it
pub below-far : (xs : List Triple) (i j : ℕ) (d : Triple) → rise xs ≡ true → i < j → j < length xs
    → is_below (get_or xs i d) (get_or xs j d) ≡ true
below-far [] i j d rising before within = absurd (omega (arith, within))
below-far (x ∷ xs) i zero d rising before within = absurd (omega (arith, before))
below-far (x ∷ xs) zero (suc j) d rising before within = at_place xs j (below_all x xs rising) (omega (arith, within))
  where
    at_place : (ys : List Triple) (k : ℕ) → list_all (is_below x) ys ≡ true → k < length ys → is_below x (get_or ys k d) ≡ true
    at_place [] k every within = absurd (omega (arith, within))
    at_place (y ∷ ys) zero every within = (and_parts (is_below x y) (list_all (is_below x) ys) every).0
    at_place (y ∷ ys) (suc k) every within =
        at_place ys k (and_parts (is_below x y) (list_all (is_below x) ys) every).1 (omega (arith, within))
below-far (x ∷ xs) (suc i) (suc j) d rising before within =
    below-far xs i j d (rest_rises x xs rising) (omega (arith, before)) (omega (arith, within))

-- triples at two places are two
pub apart : (xs : List Triple) (i j : ℕ) (d : Triple) → rise xs ≡ true → i < length xs → j < length xs → (i ≡ j → ⊥)
    → is_eq (triple_cmp (get_or xs i d) (get_or xs j d)) ≡ false
apart xs i j d rising i_in j_in other = elim (cases_order i j) [
  | inl same ↦ absurd (other same)
  | inr sides ↦ (elim sides [
    | inl before ↦ ap is_eq (lt-Less (triple_cmp (get_or xs i d) (get_or xs j d)) (below-far xs i j d rising before j_in))
    | inr behind ↦
        ap is_eq (triple_cmp_total.antisymm (get_or xs i d) (get_or xs j d)
        ∙ ap ordering_reverse (lt-Less (triple_cmp (get_or xs j d) (get_or xs i d)) (below-far xs j i d rising behind i_in)))
  ])
]

-- so are their entities and attributes in order
pub entities_sorted : (xs : List Triple) → rise xs ≡ true → IsSortedBy (λ x y. is_lt (entity_cmp x y)) xs
entities_sorted xs rising k d low high = not_less (get_or xs k d) (get_or xs (k + 1) d) (below-far xs k (k + 1) d rising (omega arith) high)
  where
    turned : (r s : Ordering) → is_lt (ordering_then r s) ≡ true → is_lt (ordering_reverse r) ≡ false
    turned Less s is = refl
    turned Equal s is = refl
    turned Greater s is = absurd (true≢false (sym is))

    not_less : (x y : Triple) → is_below x y ≡ true → is_lt (entity_cmp y x) ≡ false
    not_less x y below = ap is_lt (entity_cmp_total.antisymm y x) ∙ turned (entity_cmp x y) (value_cmp x.v y.v) below
