-- The places and contents that are met among datoms that count.
use Rattle.std.proofs.Common.{◌≡◌, ℕ, zero, suc, Bool, true, false, cond, ◌&&◌, ◌||◌, List, [], ◌∷◌, drop, refl, ap, sym, ◌∙◌}
use Rattle.std.specs.Prelude.{nat_eq}
use Rattle.std.specs.Ordering.{is_eq, nat_cmp, ordering_then}
use Rattle.std.specs.BTreeSet.{BTreeSet, contains, Updates}
use Rattle.std.specs.declared.cmp.Ordering.{Ordering}
use Rattle.std.specs.declared.cmp.Ordering.TheVariants.{Less, Equal, Greater}
use Rattle.std.proofs.lemmas.Bool.{true≢false, and_parts}
use Rattle.fb_values.specs.declared.facts.Datom.{Datom}
use Rattle.fb_values.specs.declared.facts.Value.{Value}
use Rattle.fb_values.specs.Orders.{value_cmp}
use Rattle.fb_model.specs.Facts.{value_eq}
use Rattle.fb_schema.proofs.Meeting.{is_eq-nat_cmp}
use Rattle.tx_laws.specs.Additions.{place_cmp, content_cmp, HasPlaces, HasContents, are_apart, are_alone}

is_eq-then : (o p : Ordering) → is_eq (ordering_then o p) ≡ (is_eq o && is_eq p)
is_eq-then Less p = refl
is_eq-then Equal p = refl
is_eq-then Greater p = refl

or-cond : (b c : Bool) → cond b true c ≡ (b || c)
or-cond true c = refl
or-cond false c = refl

pub HasPlaces-cons : (met new : BTreeSet (ℕ × ℕ)) (test : Datom → Bool) (d : Datom) (ds : List Datom) → test d ≡ true
    → Updates place_cmp met new (d.e, d.a) true → HasPlaces met test ds → HasPlaces new test (d ∷ ds)
HasPlaces-cons met new test d ds counts updates has = λ e a.
    updates.0 (e, a)
    ∙ or-cond (is_eq (place_cmp (d.e, d.a) (e, a))) (contains place_cmp met (e, a))
    ∙ ap (λ b. b || contains place_cmp met (e, a)) (is_eq-then (nat_cmp d.e e) (nat_cmp d.a a)
    ∙ ap (λ b. b && is_eq (nat_cmp d.a a)) (is_eq-nat_cmp d.e e) ∙ ap (λ b. nat_eq d.e e && b) (is_eq-nat_cmp d.a a))
    ∙ ap (λ b. (b && (nat_eq d.e e && nat_eq d.a a)) || contains place_cmp met (e, a)) (sym counts)
    ∙ ap (λ b. (test d && (nat_eq d.e e && nat_eq d.a a)) || b) (has e a)

pub HasContents-cons : (met new : BTreeSet (ℕ × Value)) (test : Datom → Bool) (d : Datom) (ds : List Datom) → test d ≡ true
    → Updates content_cmp met new (d.a, d.v) true → HasContents met test ds → HasContents new test (d ∷ ds)
HasContents-cons met new test d ds counts updates has = λ a v.
    updates.0 (a, v)
    ∙ or-cond (is_eq (content_cmp (d.a, d.v) (a, v))) (contains content_cmp met (a, v))
    ∙ ap (λ b. b || contains content_cmp met (a, v))
    (is_eq-then (nat_cmp d.a a) (value_cmp d.v v) ∙ ap (λ b. b && value_eq d.v v) (is_eq-nat_cmp d.a a))
    ∙ ap (λ b. (b && (nat_eq d.a a && value_eq d.v v)) || contains content_cmp met (a, v)) (sym counts)
    ∙ ap (λ b. (test d && (nat_eq d.a a && value_eq d.v v)) || b) (has a v)

-- ---- what is found at a place is found in the whole list

apart_drop : (test : Datom → Bool) (n : ℕ) (ds : List Datom) → are_apart test ds ≡ true → are_apart test (drop n ds) ≡ true
apart_drop test zero ds apart = apart
apart_drop test (suc n) [] apart = refl
apart_drop test (suc n) (d ∷ ds) apart = apart_drop test n ds (and_parts _ _ apart).1

alone_drop : (test : Datom → Bool) (n : ℕ) (ds : List Datom) → are_alone test ds ≡ true → are_alone test (drop n ds) ≡ true
alone_drop test zero ds apart = apart
alone_drop test (suc n) [] apart = refl
alone_drop test (suc n) (d ∷ ds) apart = alone_drop test n ds (and_parts _ _ apart).1

pub not_apart : (test : Datom → Bool) (n : ℕ) (ds : List Datom) → are_apart test (drop n ds) ≡ false → false ≡ are_apart test ds
not_apart test n ds twice = go (are_apart test ds) refl
  where
    go : (b : Bool) → are_apart test ds ≡ b → false ≡ b
    go false is = refl
    go true is = absurd (true≢false (sym (apart_drop test n ds is) ∙ twice))

pub not_alone : (test : Datom → Bool) (n : ℕ) (ds : List Datom) → are_alone test (drop n ds) ≡ false → false ≡ are_alone test ds
not_alone test n ds twice = go (are_alone test ds) refl
  where
    go : (b : Bool) → are_alone test ds ≡ b → false ≡ b
    go false is = refl
    go true is = absurd (true≢false (sym (alone_drop test n ds is) ∙ twice))
