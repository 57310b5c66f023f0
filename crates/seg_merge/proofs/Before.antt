-- Lists whose datoms stand before those of another list.
use Rattle.std.proofs.Common.{◌≡◌, ℕ, suc, ◌+◌, Bool, true, false, cond, List, [], ◌∷◌, ◌++◌, take, drop, refl, sym, ◌∙◌, subst, inl, inr}
use Rattle.std.proofs.Common.{arith}
use Rattle.std.specs.Prelude.{Contains, filter}
use Rattle.std.specs.Ordering.{is_gt}
use Rattle.std.specs.declared.cmp.Ordering.{Ordering}
use Rattle.std.specs.declared.cmp.Ordering.TheVariants.{Less, Equal, Greater}
use Rattle.std.proofs.lemmas.Bool.{cases_Bool}
use Rattle.std.proofs.lemmas.List.Elements.{Contains-append_right, Contains-append_cases}
use Rattle.fb_values.specs.declared.facts.Datom.{Datom}
use Rattle.fb_values.specs.declared.indexes.Order.{Order}
use Rattle.fb_values.specs.declared.indexes.Probe.{Probe}
use Rattle.fb_values.specs.Orders.{key_cmp}
use Rattle.fb_values.specs.OrderLaws.{key_cmp_total}
use Rattle.fb_values.specs.Rising.{IsBelowAll, IsRising}
use Rattle.fb_search.specs.Places.{is_below, place_of, probe_of}
use Rattle.fb_search.proofs.Below.{below_earlier}
use Rattle.fb_search.proofs.Own.{is_below-probe_of}
use Rattle.live_index.proofs.Members.{contains-cons, contains_head, contains_tail, contains_none, from_filter}

-- each datom of the one list stands before each of the other
abbrev pub Before : Order → List Datom → List Datom → Type 0
Before order xs ys = (x y : Datom) → Contains xs x → Contains ys y → key_cmp order x y ≡ Less

pub stands_at : (order : Order) (d : Datom) (xs : List Datom) → IsBelowAll order d xs → (y : Datom) → Contains xs y
    → key_cmp order d y ≡ Less
stands_at order d [] h y there = absurd (contains_none y there)
stands_at order d (x ∷ xs) h y there =
    elim (contains-cons x xs y there) [
      | inl same ↦ subst (λ (z : Datom). key_cmp order d z ≡ Less) same h.0
      | inr behind ↦ stands_at order d xs h.1 y behind
    ]

stands_from : (order : Order) (d : Datom) (xs : List Datom)
    → ((y : Datom) → Contains xs y → key_cmp order d y ≡ Less) → IsBelowAll order d xs
stands_from order d [] h = tt
stands_from order d (x ∷ xs) h = (h x (contains_head x xs x refl), stands_from order d xs (λ y there. h y (contains_tail x xs y there)))

pub rising_join : (order : Order) (xs ys : List Datom) → IsRising order xs → IsRising order ys → Before order xs ys
    → IsRising order (xs ++ ys)
rising_join order [] ys front back before = back
rising_join order (x ∷ xs) ys front back before = (
  stands_from order x (xs ++ ys) (λ y there. elim (Contains-append_cases xs ys y there) [
    | inl l ↦ stands_at order x xs front.0 y l
    | inr r ↦ before x y (contains_head x xs x refl) r
  ]),
  rising_join order xs ys front.1 back (λ a y there. before a y (contains_tail x xs a there)),
)

pub rising_before : (order : Order) (xs ys : List Datom) → IsRising order (xs ++ ys) → Before order xs ys
rising_before order [] ys rising a y there at = absurd (contains_none a there)
rising_before order (x ∷ xs) ys rising a y there at =
    elim (contains-cons x xs a there) [
      | inl same ↦
          subst (λ (z : Datom). key_cmp order z y ≡ Less) same (stands_at order x (xs ++ ys) rising.0 y (Contains-append_right xs ys y at))
      | inr behind ↦ rising_before order xs ys rising.1 a y behind at
    ]

pub rising-filter : (order : Order) (p : Datom → Bool) (xs : List Datom) → IsRising order xs → IsRising order (filter p xs)
rising-filter order p [] rising = tt
rising-filter order p (x ∷ xs) rising =
    elim (p x) as (λ b. IsRising order (cond b (x ∷ filter p xs) (filter p xs))) [
      | true ↦ (
        stands_from order x (filter p xs) (λ y there. stands_at order x xs rising.0 y (from_filter p xs y there).0),
        rising-filter order p xs rising.1,
      )
      | false ↦ rising-filter order p xs rising.1
    ]

one-add : (n : ℕ) → 1 + n ≡ suc n
one-add n = omega arith

-- before a place stand those below the probe
pub take_below : (p : Probe) (ds : List Datom) (x : Datom) → Contains (take (place_of p ds) ds) x → is_below p x ≡ true
take_below p [] x there = absurd (contains_none x there)
take_below p (d ∷ ds) x there =
    elim (cases_Bool (is_below p d)) [
      | inl below ↦
          let place : place_of p (d ∷ ds) ≡ suc (place_of p ds) = rw below (one-add (place_of p ds)) in
          let at : Contains (d ∷ take (place_of p ds) ds) x = subst (λ (n : ℕ). Contains (take n (d ∷ ds)) x) place there in
          elim (contains-cons d (take (place_of p ds) ds) x at) [
            | inl same ↦ subst (λ (z : Datom). is_below p z ≡ true) same below
            | inr behind ↦ take_below p ds x behind
          ]
      | inr above ↦
          let place : place_of p (d ∷ ds) ≡ 0 = rw above refl in
          absurd (contains_none x (subst (λ (n : ℕ). Contains (take n (d ∷ ds)) x) place there))
    ]

-- and behind it the others
pub drop_above : (p : Probe) (ds : List Datom) (x : Datom) → IsRising p.order ds → Contains (drop (place_of p ds) ds) x
    → is_below p x ≡ false
drop_above p [] x rising there = absurd (contains_none x there)
drop_above p (d ∷ ds) x rising there =
    elim (cases_Bool (is_below p d)) [
      | inl below ↦
          let place : place_of p (d ∷ ds) ≡ suc (place_of p ds) = rw below (one-add (place_of p ds)) in
          drop_above p ds x rising.1 (subst (λ (n : ℕ). Contains (drop n (d ∷ ds)) x) place there)
      | inr above ↦
          let place : place_of p (d ∷ ds) ≡ 0 = rw above refl in
          let at : Contains (d ∷ ds) x = subst (λ (n : ℕ). Contains (drop n (d ∷ ds)) x) place there in
          elim (contains-cons d ds x at) [
            | inl same ↦ subst (λ (z : Datom). is_below p z ≡ false) same above
            | inr behind ↦
                elim (cases_Bool (is_below p x)) [
                  | inl lower ↦ absurd (cc (below_earlier p d x (stands_at p.order d ds rising.0 x behind) lower, above))
                  | inr upper ↦ upper
                ]
          ]
    ]

greater_is_less : (order : Order) (d x : Datom) (o : Ordering) → key_cmp order d x ≡ o → is_gt o ≡ true → key_cmp order x d ≡ Less
greater_is_less order d x Less e h = absurd (cc)
greater_is_less order d x Equal e h = absurd (cc)
greater_is_less order d x Greater e h = let t = key_cmp_total order in t.antisymm x d ∙ cc

-- before a datom's own place stand lesser ones
pub own_before : (order : Order) (d : Datom) (ds : List Datom) (x : Datom) → Contains (take (place_of (probe_of order d) ds) ds) x
    → key_cmp order x d ≡ Less
own_before order d ds x there =
    greater_is_less order d x (key_cmp order d x) refl (sym (is_below-probe_of order d x) ∙ take_below (probe_of order d) ds x there)

-- and behind it none
pub own_behind : (order : Order) (d : Datom) (ds : List Datom) (x : Datom) → IsRising order ds
    → Contains (drop (place_of (probe_of order d) ds) ds) x → is_gt (key_cmp order d x) ≡ false
own_behind order d ds x rising there = sym (is_below-probe_of order d x) ∙ drop_above (probe_of order d) ds x rising there
