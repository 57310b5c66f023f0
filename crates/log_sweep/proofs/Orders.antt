-- The orders of the groups, and which datoms are alike by them.
use Rattle.std.proofs.Common.{◌≡◌, ℕ, true, false, not, ◌&&◌, List, [], ◌∷◌, refl, ap, sym, ◌∙◌, subst, eqb}
use Rattle.std.specs.Prelude.{filter}
use Rattle.std.specs.Ordering.{nat_cmp, ordering_then, ordering_reverse, is_eq, is_lt}
use Rattle.std.specs.Cmp.{IsTotalOrder, on_total, then_total, nat_cmp_total, tied_itself}
use Rattle.std.specs.FinMap.{nat_cmp-IsAntisymmetric}
use Rattle.std.specs.declared.cmp.Ordering.{Ordering}
use Rattle.std.specs.declared.cmp.Ordering.TheVariants.{Less, Equal, Greater}
use Rattle.std.proofs.lemmas.Bool.{true≢false, and_parts, and_from, eqb-true, eq-eqb}
use Rattle.fb_values.specs.declared.facts.Datom.{Datom}
use Rattle.fb_values.specs.declared.facts.Value.{Value}
use Rattle.fb_values.specs.Orders.{value_cmp}
use Rattle.fb_values.specs.OrderLaws.{value_cmp_total, value_cmp-IsAntisymmetric}
use Rattle.fb_model.specs.Facts.{is_of, value_eq}
use Rattle.fb_model.specs.Schema.{is_about}
use Rattle.fb_model.proofs.Triples.{is_of-true, value_eq-true}
use Rattle.fb_model.proofs.Untouched.{IsOnTriples}
use Rattle.tx_after.proofs.Promising.{both_ways}
use Rattle.log_sweep.specs.declared.law.Law.{Law}
use Rattle.log_sweep.specs.declared.law.Law.TheVariants.{ChangesAlone, OneValueEach, OneHolderEach}
use Rattle.log_sweep.specs.Groups.{group_cmp, alike}

pub group_cmp_total : (law : Law) → IsTotalOrder (group_cmp law)
group_cmp_total ChangesAlone =
    then_total (then_total (on_total (λ (d : Datom). d.e) nat_cmp_total) (on_total (λ (d : Datom). d.a) nat_cmp_total))
    (on_total (λ (d : Datom). d.v) value_cmp_total)
group_cmp_total OneValueEach = then_total (on_total (λ (d : Datom). d.e) nat_cmp_total) (on_total (λ (d : Datom). d.a) nat_cmp_total)
group_cmp_total OneHolderEach = then_total (on_total (λ (d : Datom). d.a) nat_cmp_total) (on_total (λ (d : Datom). d.v) value_cmp_total)

-- ---- datoms that are alike

pub is_eq-true : (r : Ordering) → is_eq r ≡ true → r ≡ Equal
is_eq-true Less e = absurd (true≢false (sym e))
is_eq-true Equal e = refl
is_eq-true Greater e = absurd (true≢false (sym e))

pub alike-refl : (law : Law) (d : Datom) → alike law d d ≡ true
alike-refl law d = ap is_eq (tied_itself (group_cmp_total law) d)

pub alike-same : (law : Law) (x y z : Datom) → alike law x y ≡ true → alike law x z ≡ alike law y z
alike-same law x y z is = ap is_eq ((group_cmp_total law).congr x y z (is_eq-true (group_cmp law x y) is))

pub alike-sym : (law : Law) (x y : Datom) → alike law x y ≡ true → alike law y x ≡ true
alike-sym law x y is = sym (alike-same law x y x is) ∙ alike-refl law x

pub filter-alike : (law : Law) (x y : Datom) → alike law x y ≡ true → (ds : List Datom) → filter (alike law x) ds ≡ filter (alike law y) ds
filter-alike law x y is [] = refl
filter-alike law x y is (d ∷ ds) = rw (alike-same law x y d is, filter-alike law x y is ds) refl

-- ---- what they have in common

then-eq : (r s : Ordering) → is_eq (ordering_then r s) ≡ (is_eq r && is_eq s)
then-eq Less s = refl
then-eq Equal s = refl
then-eq Greater s = refl

same_number : (m n : ℕ) → is_eq (nat_cmp m n) ≡ true → m ≡ n
same_number m n is = nat_cmp-IsAntisymmetric m n (is_eq-true (nat_cmp m n) is)

same_value : (v w : Value) → is_eq (value_cmp v w) ≡ true → v ≡ w
same_value v w is = value_cmp-IsAntisymmetric v w (is_eq-true (value_cmp v w) is)

pub same_place : (x y : Datom) → alike OneValueEach x y ≡ true → (x.e ≡ y.e) × (x.a ≡ y.a)
same_place x y is =
    let parts = and_parts _ _ (sym (then-eq (nat_cmp x.e y.e) (nat_cmp x.a y.a)) ∙ is) in
    (same_number x.e y.e parts.0, same_number x.a y.a parts.1)

pub same_content : (x y : Datom) → alike OneHolderEach x y ≡ true → (x.a ≡ y.a) × (x.v ≡ y.v)
same_content x y is =
    let parts = and_parts _ _ (sym (then-eq (nat_cmp x.a y.a) (value_cmp x.v y.v)) ∙ is) in
    (same_number x.a y.a parts.0, same_value x.v y.v parts.1)

pub same_triple : (x y : Datom) → alike ChangesAlone x y ≡ true → (alike OneValueEach x y ≡ true) × (x.v ≡ y.v)
same_triple x y is =
    let parts = and_parts _ _ (sym (then-eq (ordering_then (nat_cmp x.e y.e) (nat_cmp x.a y.a)) (value_cmp x.v y.v)) ∙ is) in
    (parts.0, same_value x.v y.v parts.1)

pub alike-about : (x y : Datom) → alike OneValueEach x y ≡ is_about x.e x.a y
alike-about x y =
    both_ways _ _
    (λ is. let same = same_place x y is in and_from _ _ (eq-eqb y.e x.e (sym same.0)) (eq-eqb y.a x.a (sym same.1)))
    (λ is. let parts = and_parts _ _ is in
    let e_is = eqb-true y.e x.e parts.0 in
    let a_is = eqb-true y.a x.a parts.1 in
    rw (e_is, a_is) (alike-refl OneValueEach x))

pub alike-with : (x y : Datom) → alike OneHolderEach x y ≡ (eqb y.a x.a && value_eq y.v x.v)
alike-with x y =
    both_ways _ _
    (λ is. let same = same_content x y is in
    and_from _ _ (eq-eqb y.a x.a (sym same.0)) (subst (λ v. value_eq v x.v ≡ true) same.1 (ap is_eq (tied_itself value_cmp_total x.v))))
    (λ is. let parts = and_parts _ _ is in
    let a_is = eqb-true y.a x.a parts.0 in
    let v_is = value_eq-true y.v x.v parts.1 in
    rw (a_is, v_is) (alike-refl OneHolderEach x))

pub alike-of : (x y : Datom) → alike ChangesAlone x y ≡ is_of x.e x.a x.v y
alike-of x y =
    both_ways _ _
    (λ is. let triple = same_triple x y is in
    and_from _ _ (sym (alike-about x y) ∙ triple.0)
    (subst (λ v. value_eq v x.v ≡ true) triple.1 (ap is_eq (tied_itself value_cmp_total x.v))))
    (λ is. let of = is_of-true x.e x.a x.v y is in rw (of.e_is, of.a_is, of.v_is) (alike-refl ChangesAlone x))

pub is_of-sym : (x y : Datom) → is_of y.e y.a y.v x ≡ is_of x.e x.a x.v y
is_of-sym x y =
    sym (alike-of y x) ∙ both_ways _ _ (alike-sym ChangesAlone y x) (alike-sym ChangesAlone x y) ∙ alike-of x y

pub is_of-refl : (d : Datom) → is_of d.e d.a d.v d ≡ true
is_of-refl d = sym (alike-of d d) ∙ alike-refl ChangesAlone d

-- the datoms of a triple are in one group of each law
pub alike-IsOnTriples : (law : Law) (g : Datom) → IsOnTriples (alike law g)
alike-IsOnTriples law g = record { same = λ d other h. on_triples law d other h }
  where
    on_triples : (law : Law) (d other : Datom) → is_of d.e d.a d.v other ≡ true → alike law g d ≡ alike law g other
    on_triples ChangesAlone d other h = let of = is_of-true d.e d.a d.v other h in rw (of.e_is, of.a_is, of.v_is) refl
    on_triples OneValueEach d other h = let of = is_of-true d.e d.a d.v other h in rw (of.e_is, of.a_is) refl
    on_triples OneHolderEach d other h = let of = is_of-true d.e d.a d.v other h in rw (of.a_is, of.v_is) refl

-- ---- neighbours in the order

pub reverse-less : (r s : Ordering) → r ≡ ordering_reverse s → is_lt s ≡ false → is_eq s ≡ false → r ≡ Less
reverse-less r Less is low apart = absurd (true≢false low)
reverse-less r Equal is low apart = absurd (true≢false apart)
reverse-less r Greater is low apart = is

ties-is : (r s : Ordering) → r ≡ ordering_reverse s → (not (is_lt r) && not (is_lt s)) ≡ is_eq r
ties-is r Less is = rw is refl
ties-is r Equal is = rw is refl
ties-is r Greater is = rw is refl

pub ties-alike : (law : Law) (x y : Datom)
    → (not (is_lt (group_cmp law x y)) && not (is_lt (group_cmp law y x))) ≡ alike law x y
ties-alike law x y = ties-is (group_cmp law x y) (group_cmp law y x) ((group_cmp_total law).antisymm x y)
