-- What a comparison with one datom says of the datoms before and behind it.
use Rattle.std.proofs.Common.{◌≡◌, ℕ, zero, suc, ◌+◌, ◌^◌, ◌/◌, pow-suc, ◌<◌, ◌≤◌, true, false, cond, List, [], ◌∷◌, length, take, get_or}
use Rattle.std.proofs.Common.{refl, arith}
use Rattle.std.specs.Ordering.{ordering_then, is_gt}
use Rattle.std.specs.Cmp.{IsTotalOrder}
use Rattle.std.specs.Cmp.Lexicographic.{slice_cmp}
use Rattle.std.specs.declared.cmp.Ordering.{Ordering}
use Rattle.std.specs.declared.cmp.Ordering.TheVariants.{Less, Equal, Greater}
use Rattle.fb_values.specs.declared.facts.Datom.{Datom}
use Rattle.fb_values.specs.declared.indexes.Probe.{Probe}
use Rattle.fb_values.specs.Orders.{key_of, key_cmp, given}
use Rattle.fb_values.specs.OrderLaws.{value_cmp_total}
use Rattle.fb_values.specs.Rising.{IsBelowAll, IsRising}
use Rattle.fb_search.specs.Places.{is_below, place_of}

-- the first components decide, or leave it to the rest
heads : {K : Type 0} {R : K → K → Ordering} (o : IsTotalOrder R) (v a b : K) (vb ab x y xy : Ordering) → R v b ≡ vb → R a b ≡ ab
    → (xy ≡ Less → is_gt y ≡ true → is_gt x ≡ true) → ordering_then ab xy ≡ Less → is_gt (ordering_then vb y) ≡ true
    → is_gt (ordering_then (R v a) x) ≡ true
heads {R = R} o v a b Less ab x y xy p q rest less below = absurd (cc)
heads {R = R} o v a b Greater Less x y xy p q rest less below =
    let back : R b v ≡ Less = cc (o.antisymm b v) in
    let far : R a v ≡ Less = o.trans a b v q back in
    let up : R v a ≡ Greater = cc (o.antisymm v a) in
    rw up refl
heads {R = R} o v a b Greater Equal x y xy p q rest less below =
    let back : R b v ≡ Less = cc (o.antisymm b v) in
    let up : R v a ≡ Greater = cc (o.antisymm v a, o.congr a b v q) in
    rw up refl
heads {R = R} o v a b Greater Greater x y xy p q rest less below = absurd (cc)
heads {R = R} o v a b Equal Less x y xy p q rest less below =
    let up : R v a ≡ Greater = cc (o.antisymm b a, o.congr v b a p) in
    rw up refl
heads {R = R} o v a b Equal Equal x y xy p q rest less below =
    let up : R v a ≡ Equal = cc (o.antisymm b a, o.congr v b a p) in
    rw up (rest less below)
heads {R = R} o v a b Equal Greater x y xy p q rest less below = absurd (cc)

-- what leads a greater list above another leads a smaller one above it too
earlier : {K : Type 0} {R : K → K → Ordering} (o : IsTotalOrder R) (g x y : List K) → slice_cmp R x y ≡ Less
    → is_gt (slice_cmp R g (take (length g) y)) ≡ true → is_gt (slice_cmp R g (take (length g) x)) ≡ true
earlier o [] x y less below = absurd (cc)
earlier o (v ∷ g) [] y less below = refl
earlier o (v ∷ g) (a ∷ x) [] less below = absurd (cc)
earlier {R = R} o (v ∷ g) (a ∷ x) (b ∷ y) less below = heads o v a b (R v b) (R a b) _ _ _ refl refl (earlier o g x y) less below

-- a datom before one that is below the probe is below it
pub below_earlier : (p : Probe) (x y : Datom) → key_cmp p.order x y ≡ Less → is_below p y ≡ true → is_below p x ≡ true
below_earlier p x y less below = earlier value_cmp_total (given p) (key_of p.order x) (key_of p.order y) less below

pub place_of-le-length : (p : Probe) (ds : List Datom) → place_of p ds ≤ length ds
place_of-le-length p [] = omega arith
place_of-le-length p (d ∷ ds) =
    elim (is_below p d) as (λ b. cond b (1 + place_of p ds) 0 ≤ suc (length ds)) [
      | true ↦ omega (arith, place_of-le-length p ds)
      | false ↦ omega arith
    ]

-- a datom that stands before others, of which one is below the probe
pub front_below : (p : Probe) (d : Datom) (ds : List Datom) (i : ℕ) (x : Datom) → IsBelowAll p.order d ds → i < length ds
    → is_below p (get_or ds i x) ≡ true → is_below p d ≡ true
front_below p d [] i x before within below = absurd (omega arith)
front_below p d (e ∷ ds) zero x before within below = below_earlier p d e before.0 below
front_below p d (e ∷ ds) (suc i) x before within below = front_below p d ds i x before.1 (omega arith) below

-- where a datom is below the probe, the place is behind it
pub place_behind : (p : Probe) (ds : List Datom) (i : ℕ) (x : Datom) → IsRising p.order ds → i < length ds
    → is_below p (get_or ds i x) ≡ true → i < place_of p ds
place_behind p [] i x rising within below = absurd (omega arith)
place_behind p (d ∷ ds) zero x rising within below = rw below (omega arith)
place_behind p (d ∷ ds) (suc i) x rising within below =
    rw (front_below p d ds i x rising.0 (omega arith) below) (omega (arith, place_behind p ds i x rising.1 (omega arith) below))

-- where a datom is not below the probe, the place is not behind it
pub place_upto : (p : Probe) (ds : List Datom) (i : ℕ) (x : Datom) → i < length ds → is_below p (get_or ds i x) ≡ false → place_of p ds ≤ i
place_upto p [] i x within above = absurd (omega arith)
place_upto p (d ∷ ds) zero x within above = rw above (omega arith)
place_upto p (d ∷ ds) (suc i) x within above =
    elim (is_below p d) as (λ b. cond b (1 + place_of p ds) 0 ≤ suc i) [
      | true ↦ omega (arith, place_upto p ds i x (omega arith) above)
      | false ↦ omega arith
    ]

-- what is at most half of a number has a binary digit less
pub half_digits : (n half digits : ℕ) → 0 < n → n < 2 ^ digits → half ≤ n / 2 → (few : ℕ) × (half < 2 ^ few) × (few + 1 ≤ digits)
half_digits n half zero some within le = absurd (omega arith)
half_digits n half (suc digits) some within le = (digits, omega (arith, pow-suc 2 digits), omega arith)
