-- A datom's own place: where a test of each element of a sorted list turns.
use Rattle.std.proofs.Common.{◌≡◌, ℕ, zero, suc, ◌<◌, ◌≤◌, Bool, true, false, List, [], ◌∷◌, length, map, get_or, refl, sym, ap, ◌∙◌, subst}
use Rattle.std.proofs.Common.{arith}
use Rattle.std.proofs.Math.ListN.{get_or-map}
use Rattle.std.proofs.lemmas.List.{length-map}
use Rattle.std.specs.List.{AllWithin}
use Rattle.std.specs.List.Sorted.{IsPartitionedBy}
use Rattle.std.specs.Ordering.{is_gt}
use Rattle.fb_values.specs.declared.facts.Datom.{Datom}
use Rattle.fb_values.specs.declared.indexes.Order.{Order}
use Rattle.fb_values.specs.declared.indexes.Order.TheVariants.{Eavt, Aevt, Avet, Vaet}
use Rattle.fb_values.specs.declared.indexes.Probe.{Probe}
use Rattle.fb_values.specs.Orders.{key_cmp}
use Rattle.fb_values.specs.Rising.{IsRising}
use Rattle.fb_search.specs.Places.{is_below, place_of, probe_of}
use Rattle.fb_search.proofs.Below.{front_below}

-- a datom's own probe compares as the datom does
pub is_below-probe_of : (order : Order) (d x : Datom) → is_below (probe_of order d) x ≡ is_gt (key_cmp order d x)
is_below-probe_of Eavt d x = refl
is_below-probe_of Aevt d x = refl
is_below-probe_of Avet d x = refl
is_below-probe_of Vaet d x = refl

-- what stands before a datom below the probe is below it too
below_front : (p : Probe) (ds : List Datom) (i j : ℕ) (x : Datom) → IsRising p.order ds → i ≤ j → j < length ds
    → is_below p (get_or ds j x) ≡ true → is_below p (get_or ds i x) ≡ true
below_front p [] i j x rising le within below = absurd (omega arith)
below_front p (d ∷ ds) zero zero x rising le within below = below
below_front p (d ∷ ds) zero (suc j) x rising le within below = front_below p d ds j x rising.0 (omega arith) below
below_front p (d ∷ ds) (suc i) zero x rising le within below = absurd (omega arith)
below_front p (d ∷ ds) (suc i) (suc j) x rising le within below = below_front p ds i j x rising.1 (omega arith) (omega arith) below

-- in what holds rising datoms, those below the probe come first
pub partitioned : {X : Type 0} (held : X → Datom) (p : Probe) (xs : List X) → IsRising p.order (map held xs)
    → IsPartitionedBy (λ x. is_below p (held x)) xs
partitioned held p xs rising i j d le within below =
    let there : is_below p (get_or (map held xs) j (held d)) ≡ true = rw (get_or-map held xs j d) below in
    let front = below_front p (map held xs) i j (held d) rising le (rw length-map within) there in
    subst (λ (y : Datom). is_below p y ≡ true) (get_or-map held xs i d) front

-- and the place is where they end
pub place_at : {X : Type 0} (held : X → Datom) (p : Probe) (xs : List X) (n : ℕ)
    → n ≤ length xs → AllWithin (λ x. is_below p (held x) ≡ true) xs 0 n → AllWithin (λ x. is_below p (held x) ≡ false) xs n (length xs)
    → n ≡ place_of p (map held xs)
place_at held p [] n within front back = omega arith
place_at held p (x ∷ xs) zero within front back =
    let above : is_below p (held x) ≡ false = back 0 x (omega arith) (omega arith) in
    rw above refl
place_at held p (x ∷ xs) (suc n) within front back =
    let below : is_below p (held x) ≡ true = front 0 x (omega arith) (omega arith) in
    let rest =
    place_at held p xs n (omega arith) (λ k d low high. front (suc k) d (omega arith) (omega arith))
    (λ k d low high. back (suc k) d (omega arith) (omega arith)) in
    rw below (omega (arith, rest))

-- the datom of an element
pub held_at : {X : Type 0} (held : X → Datom) (p : Probe) (ds : List Datom) (xs : List X) (i : ℕ) (x : X) (b : Bool) → ds ≡ map held xs
    → x ≡ get_or xs i x → is_below p (held x) ≡ b → is_below p (get_or ds i (held x)) ≡ b
held_at held p ds xs i x b each at is =
    ap (is_below p) (ap (λ (l : List Datom). get_or l i (held x)) each ∙ get_or-map held xs i x ∙ ap held (sym at)) ∙ is

pub as_many : {X : Type 0} (held : X → Datom) (ds : List Datom) (xs : List X) → ds ≡ map held xs → length ds ≡ length xs
as_many held ds xs each = ap length each ∙ length-map xs held
