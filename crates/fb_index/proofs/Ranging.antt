-- What a probe leads to stands together in a rising list, from the probe's place on.
use Rattle.std.proofs.Common.{◌≡◌, ℕ, zero, suc, ◌+◌, ◌<◌, ◌≤◌, true, false, List, [], ◌∷◌, length, take, drop, get_or, refl, sym, ap}
use Rattle.std.proofs.Common.{subst, arith, Some, None, inl, inr}
use Rattle.std.specs.List.{slice_get}
use Rattle.std.specs.Ordering.{ordering_then, is_eq, is_gt}
use Rattle.std.specs.Cmp.{IsTotalOrder}
use Rattle.std.specs.Cmp.Lexicographic.{slice_cmp}
use Rattle.std.specs.declared.cmp.Ordering.{Ordering}
use Rattle.std.specs.declared.cmp.Ordering.TheVariants.{Less, Equal, Greater}
use Rattle.std.proofs.lemmas.Bool.{cases_Bool}
use Rattle.fb_values.specs.declared.facts.Datom.{Datom}
use Rattle.fb_values.specs.declared.indexes.Probe.{Probe}
use Rattle.fb_values.specs.Orders.{key_of, key_cmp, given, probe_cmp}
use Rattle.fb_values.specs.OrderLaws.{value_cmp_total}
use Rattle.fb_values.specs.Rising.{IsBelowAll, IsRising}
use Rattle.fb_search.specs.Places.{is_below, place_of}
use Rattle.fb_search.proofs.Below.{place_behind}
use Rattle.fb_index.specs.Ranges.{is_led, led_to}

heads : {K : Type 0} {R : K → K → Ordering} (o : IsTotalOrder R) (v a b : K) (va ab x y xy : Ordering) → R v a ≡ va → R a b ≡ ab
    → (xy ≡ Less → x ≡ Less → y ≡ Less) → ordering_then ab xy ≡ Less → ordering_then va x ≡ Less → ordering_then (R v b) y ≡ Less
heads {R = R} o v a b Less Less x y xy p q rest less above = let far : R v b ≡ Less = o.trans v a b p q in rw far refl
heads {R = R} o v a b Less Equal x y xy p q rest less above =
    let far : R v b ≡ Less = cc (o.antisymm v a, o.antisymm v b, o.congr a b v q) in
    rw far refl
heads {R = R} o v a b Less Greater x y xy p q rest less above = absurd (cc)
heads {R = R} o v a b Equal Less x y xy p q rest less above = let far : R v b ≡ Less = cc (o.congr v a b p) in rw far refl
heads {R = R} o v a b Equal Equal x y xy p q rest less above = let far : R v b ≡ Equal = cc (o.congr v a b p) in rw far (rest less above)
heads {R = R} o v a b Equal Greater x y xy p q rest less above = absurd (cc)
heads {R = R} o v a b Greater ab x y xy p q rest less above = absurd (cc)

-- what leads a smaller list from below leads a greater one from below too
later : {K : Type 0} {R : K → K → Ordering} (o : IsTotalOrder R) (g x y : List K) → slice_cmp R x y ≡ Less
    → slice_cmp R g (take (length g) x) ≡ Less → slice_cmp R g (take (length g) y) ≡ Less
later o [] x y less above = absurd (cc)
later o (v ∷ g) [] y less above = absurd (cc)
later o (v ∷ g) (a ∷ x) [] less above = absurd (cc)
later {R = R} o (v ∷ g) (a ∷ x) (b ∷ y) less above = heads o v a b (R v a) (R a b) _ _ _ refl refl (later o g x y) less above

pub above_later : (p : Probe) (x y : Datom) → key_cmp p.order x y ≡ Less → probe_cmp p x ≡ Less → probe_cmp p y ≡ Less
above_later p x y less above = later value_cmp_total (given p) (key_of p.order x) (key_of p.order y) less above

-- a datom below the probe is not led to
pub below_not_led : (o : Ordering) → is_gt o ≡ true → is_eq o ≡ false
below_not_led Less h = refl
below_not_led Equal h = absurd (cc)
below_not_led Greater h = refl

pub above_not_led : (o : Ordering) → o ≡ Less → is_eq o ≡ false
above_not_led Less h = refl
above_not_led Equal h = absurd (cc)
above_not_led Greater h = absurd (cc)

pub neither : (o : Ordering) → is_gt o ≡ false → is_eq o ≡ false → o ≡ Less
neither Less g e = refl
neither Equal g e = absurd (cc)
neither Greater g e = absurd (cc)

-- nothing before the place is led to
pub led_from_place : (p : Probe) (ds : List Datom) → led_to p (drop (place_of p ds) ds) ≡ led_to p ds
led_from_place p [] = refl
led_from_place p (d ∷ ds) =
    elim (cases_Bool (is_below p d)) [
      | inl below ↦ let one : 1 + place_of p ds ≡ suc (place_of p ds) = omega arith in rw (below, one, below_not_led (probe_cmp p d) below)
          (led_from_place p ds)
      | inr above ↦ rw above refl
    ]

-- none behind a datom that is above the probe
none_behind : (p : Probe) (x : Datom) (ds : List Datom) → IsBelowAll p.order x ds → probe_cmp p x ≡ Less → led_to p ds ≡ []
none_behind p x [] before above = refl
none_behind p x (d ∷ ds) before above =
    rw (above_not_led (probe_cmp p d) (above_later p x d before.0 above)) (none_behind p x ds before.1 above)

none_from : (p : Probe) (ds : List Datom) (i : ℕ) (d : Datom) → IsRising p.order ds → slice_get ds i ≡ Some d → probe_cmp p d ≡ Less
    → led_to p (drop i ds) ≡ []
none_from p [] i d rising read above = absurd (cc)
none_from p (x ∷ ds) zero d rising read above =
    let same : x ≡ d = cc in
    let first : probe_cmp p x ≡ Less = subst (λ (z : Datom). probe_cmp p z ≡ Less) (sym same) above in
    rw (above_not_led (probe_cmp p x) first) (none_behind p x ds rising.0 first)
none_from p (x ∷ ds) (suc i) d rising read above = none_from p ds i d rising.1 read above

pub read_at : (ds : List Datom) (i : ℕ) (d : Datom) → slice_get ds i ≡ Some d → (i < length ds) × (get_or ds i d ≡ d)
read_at [] i d read = absurd (cc)
read_at (x ∷ ds) zero d read = (omega arith, cc)
read_at (x ∷ ds) (suc i) d read = let rest = read_at ds i d read in (omega (arith, rest.0), rest.1)

-- the walk ends at the first datom from the place on that is not led to
pub led_ends : (p : Probe) (ds : List Datom) (i : ℕ) (d : Datom) → IsRising p.order ds → place_of p ds ≤ i → slice_get ds i ≡ Some d
    → is_led p d ≡ false → led_to p (drop i ds) ≡ []
led_ends p ds i d rising from read not_led =
    let at = read_at ds i d read in
    elim (cases_Bool (is_below p d)) [
      | inl below ↦
          let there : is_below p (get_or ds i d) ≡ true = subst (λ (z : Datom). is_below p z ≡ true) (sym at.1) below in
          let early = place_behind p ds i d rising at.0 there in
          absurd (omega (arith, early, from))
      | inr not_below ↦ none_from p ds i d rising read (neither (probe_cmp p d) not_below not_led)
    ]

-- or at the end
pub led_past : (p : Probe) (ds : List Datom) (i : ℕ) → slice_get ds i ≡ None → led_to p (drop i ds) ≡ []
led_past p [] i none = drop_none i
  where
    drop_none : (i : ℕ) → led_to p (drop i []) ≡ []
    drop_none zero = refl
    drop_none (suc i) = refl
led_past p (x ∷ ds) zero none = absurd (cc)
led_past p (x ∷ ds) (suc i) none = led_past p ds i none

-- and takes each that is
pub led_step : (p : Probe) (ds : List Datom) (i : ℕ) (d : Datom) → slice_get ds i ≡ Some d → is_led p d ≡ true
    → led_to p (drop i ds) ≡ d ∷ led_to p (drop (i + 1) ds)
led_step p [] i d read led = absurd (cc)
led_step p (x ∷ ds) zero d read led =
    let same : x ≡ d = cc in
    let first : is_led p x ≡ true = subst (λ (z : Datom). is_led p z ≡ true) (sym same) led in
    rw first (ap (λ (z : Datom). z ∷ led_to p ds) same)
led_step p (x ∷ ds) (suc i) d read led = let one : suc i + 1 ≡ suc (i + 1) = omega arith in rw one (led_step p ds i d read led)
