-- Two lists of an order read as one: their first datom, what a filter leaves of them, and where a probe leads in them.
use Rattle.std.proofs.Common.{◌≡◌, ◌∙◌, suc, ◌+◌, Bool, true, false, not, List, [], ◌∷◌, ◌++◌, drop, refl, sym, ap, arith, inl, inr}
use Rattle.std.specs.Prelude.{Contains, filter}
use Rattle.std.specs.List.{take_while, prefix_len}
use Rattle.std.specs.Ordering.{is_lt}
use Rattle.std.specs.declared.cmp.Ordering.{Ordering}
use Rattle.std.specs.declared.cmp.Ordering.TheVariants.{Less, Equal, Greater}
use Rattle.std.proofs.lemmas.Bool.{true≢false, cases_Bool}
use Rattle.std.proofs.lemmas.List.Elements.{Contains-append_left, Contains-append_right, Contains-append_cases}
use Rattle.fb_values.specs.declared.facts.Datom.{Datom}
use Rattle.fb_values.specs.declared.indexes.Order.{Order}
use Rattle.fb_values.specs.declared.indexes.Probe.{Probe}
use Rattle.fb_values.specs.Orders.{key_cmp, probe_cmp}
use Rattle.fb_values.specs.Rising.{IsBelowAll, IsRising}
use Rattle.fb_values.proofs.Rising.{less_is}
use Rattle.fb_search.specs.Places.{is_below, place_of}
use Rattle.fb_search.proofs.Below.{below_earlier}
use Rattle.live_index.specs.Halves.{IsPair, merged}
use Rattle.live_index.proofs.Members.{from_filter, into_filter, contains_head, contains_tail}
use Rattle.live_index.proofs.Growing.{single_part, rising-filter}
use Rattle.live_index.proofs.Halves.{merged_rises, from_merged, into_merged, same_list}
use Rattle.live_index.proofs.Walking.{next_older_alone, next_live_alone, next_older, next_live}
use Rattle.fb_index.specs.Ranges.{is_led, led_to, from_probe, is_above, upto_probe}
use Rattle.fb_index.proofs.Ranging.{above_later, above_not_led, neither, led_from_place}

-- parts of both that rise can be read as one
pub part_pair : (order : Order) (older live part part_live : List Datom) → IsPair order older live → IsRising order part
    → IsRising order part_live
    → ((d : Datom) → Contains part d → Contains older d) → ((d : Datom) → Contains part_live d → Contains live d)
    → IsPair order part part_live
part_pair order older live part part_live pair rising rising_live in_older in_live = record {
  older_rises = rising;
  live_rises = rising_live;
  apart = λ d a b. pair.apart d (in_older d a) (in_live d b);
  single = single_part (part ++ part_live) (older ++ live) (λ d there. elim (Contains-append_cases part part_live d there) [
    | inl a ↦ Contains-append_left older live d (in_older d a)
    | inr b ↦ Contains-append_right older live d (in_live d b)
  ]) pair.single;
}

-- ---- the first datom of both

pub first_of_older_alone : (order : Order) (x : Datom) (xs : List Datom) → IsPair order (x ∷ xs) []
    → merged order (x ∷ xs) [] ≡ x ∷ merged order xs []
first_of_older_alone order x xs pair = next_older_alone order (x ∷ xs) [] pair 0 0 x refl refl

pub first_of_live_alone : (order : Order) (y : Datom) (ys : List Datom) → IsPair order [] (y ∷ ys)
    → merged order [] (y ∷ ys) ≡ y ∷ merged order [] ys
first_of_live_alone order y ys pair = next_live_alone order [] (y ∷ ys) pair 0 0 y refl refl

pub first_of_older : (order : Order) (x y : Datom) (xs ys : List Datom) → IsPair order (x ∷ xs) (y ∷ ys) → is_lt (key_cmp order x y) ≡ true
    → merged order (x ∷ xs) (y ∷ ys) ≡ x ∷ merged order xs (y ∷ ys)
first_of_older order x y xs ys pair less = next_older order (x ∷ xs) (y ∷ ys) pair 0 0 x y refl refl (less_is (key_cmp order x y) less)

pub first_of_live : (order : Order) (x y : Datom) (xs ys : List Datom) → IsPair order (x ∷ xs) (y ∷ ys) → is_lt (key_cmp order x y) ≡ false
    → merged order (x ∷ xs) (y ∷ ys) ≡ y ∷ merged order (x ∷ xs) ys
first_of_live order x y xs ys pair not_less = next_live order (x ∷ xs) (y ∷ ys) pair 0 0 x y refl refl not_less

-- ---- what a filter leaves of both

pub filter_pair : (order : Order) (test : Datom → Bool) (older live : List Datom) → IsPair order older live
    → IsPair order (filter test older) (filter test live)
filter_pair order test older live pair =
    part_pair order older live (filter test older) (filter test live) pair (rising-filter order test older pair.older_rises)
    (rising-filter order test live pair.live_rises)
    (λ d there. (from_filter test older d there).0) (λ d there. (from_filter test live d there).0)

pub merged-filter : (order : Order) (test : Datom → Bool) (older live : List Datom) → IsPair order older live
    → merged order (filter test older) (filter test live) ≡ filter test (merged order older live)
merged-filter order test older live pair =
    same_list order (merged order (filter test older) (filter test live)) (filter test (merged order older live))
    (merged_rises order (filter test older) (filter test live))
    (rising-filter order test (merged order older live) (merged_rises order older live)) forth back
  where
    forth : (d : Datom) → Contains (merged order (filter test older) (filter test live)) d
        → Contains (filter test (merged order older live)) d
    forth d there =
        elim (from_merged order (filter test older) (filter test live) d there) [
          | inl a ↦ let at = from_filter test older d a in into_filter test (merged order older live) d
              (into_merged order older live d pair.single (inl at.0)) at.1
          | inr b ↦ let at = from_filter test live d b in into_filter test (merged order older live) d
              (into_merged order older live d pair.single (inr at.0)) at.1
        ]

    back : (d : Datom) → Contains (filter test (merged order older live)) d
        → Contains (merged order (filter test older) (filter test live)) d
    back d there =
        let at = from_filter test (merged order older live) d there in
        into_merged order (filter test older) (filter test live) d (filter_pair order test older live pair).single
        (elim (from_merged order older live d at.0) [
          | inl a ↦ inl (into_filter test older d a at.1)
          | inr b ↦ inr (into_filter test live d b at.1)
        ])

pub filter-filter : (f g : Datom → Bool) (ds : List Datom) → filter f (filter g ds) ≡ filter g (filter f ds)
filter-filter f g [] = refl
filter-filter f g (d ∷ ds) = go (f d) (g d) refl refl (filter-filter f g ds)
  where
    go : (a b : Bool) → f d ≡ a → g d ≡ b → filter f (filter g ds) ≡ filter g (filter f ds)
        → filter f (filter g (d ∷ ds)) ≡ filter g (filter f (d ∷ ds))
    go true true a_is b_is rest = rw (b_is, a_is, b_is) (ap (λ l. d ∷ l) rest)
    go true false a_is b_is rest = rw (b_is, a_is, b_is) rest
    go false true a_is b_is rest = rw (b_is, a_is) rest
    go false false a_is b_is rest = rw (b_is, a_is) rest

-- ---- where a probe leads

-- behind a datom that is not below a probe none is
all_from : (p : Probe) (x : Datom) (ds : List Datom) → IsBelowAll p.order x ds → is_below p x ≡ false → from_probe p ds ≡ ds
all_from p x [] before above = refl
all_from p x (d ∷ ds) before above =
    elim (cases_Bool (is_below p d)) [
      | inl below ↦ absurd (true≢false (sym (below_earlier p x d before.0 below) ∙ above))
      | inr not_below ↦ rw not_below (ap (λ l. d ∷ l) (all_from p x ds before.1 above))
    ]

-- the probe's place is where the datoms begin that are not below it
pub from_place : (p : Probe) (ds : List Datom) → IsRising p.order ds → drop (place_of p ds) ds ≡ from_probe p ds
from_place p [] rising = refl
from_place p (d ∷ ds) rising =
    elim (cases_Bool (is_below p d)) [
      | inl below ↦ let one : 1 + place_of p ds ≡ suc (place_of p ds) = omega arith in rw (below, one) (from_place p ds rising.1)
      | inr above ↦ rw above (ap (λ l. d ∷ l) (sym (all_from p d ds rising.0 above)))
    ]

-- behind a datom that is above a probe it leads to none
none_led : (p : Probe) (x : Datom) (ds : List Datom) → IsBelowAll p.order x ds → probe_cmp p x ≡ Less → led_to p ds ≡ []
none_led p x [] before above = refl
none_led p x (d ∷ ds) before above = rw (above_not_led (probe_cmp p d) (above_later p x d before.0 above)) (none_led p x ds before.1 above)

-- from where none is below a probe on those come first that it leads to
run_is_led : (p : Probe) (ds : List Datom) → IsRising p.order ds → ((d : Datom) → Contains ds d → is_below p d ≡ false)
    → take_while (is_led p) ds ≡ led_to p ds
run_is_led p [] rising not_below = refl
run_is_led p (d ∷ ds) rising not_below =
    elim (cases_Bool (is_led p d)) [
      | inl led ↦
          let one : 1 + prefix_len (is_led p) ds ≡ suc (prefix_len (is_led p) ds) = omega arith in
          rw (led, one) (ap (λ l. d ∷ l) (run_is_led p ds rising.1 (λ x there. not_below x (contains_tail d ds x there))))
      | inr other ↦
          let above = neither (probe_cmp p d) (not_below d (contains_head d ds d refl)) other in
          rw other (sym (none_led p d ds rising.0 above))
    ]

pub run_from : (p : Probe) (ds : List Datom) → IsRising p.order ds → take_while (is_led p) (from_probe p ds) ≡ led_to p ds
run_from p ds rising =
    run_is_led p (from_probe p ds) (rising-filter p.order (λ d. not (is_below p d)) ds rising)
    (λ d there. is_false (is_below p d) (from_filter (λ x. not (is_below p x)) ds d there).1)
    ∙ ap (led_to p) (sym (from_place p ds rising))
    ∙ led_from_place p ds
  where
    is_false : (b : Bool) → not b ≡ true → b ≡ false
    is_false true is = absurd (true≢false (sym is))
    is_false false is = refl

pub run_step : (p : Probe) (d : Datom) (ds : List Datom) → is_led p d ≡ true → take_while (is_led p) (d ∷ ds) ≡ d ∷ take_while (is_led p) ds
run_step p d ds led = let one : 1 + prefix_len (is_led p) ds ≡ suc (prefix_len (is_led p) ds) = omega arith in rw (led, one) refl

pub run_end : (p : Probe) (d : Datom) (ds : List Datom) → is_led p d ≡ false → take_while (is_led p) (d ∷ ds) ≡ []
run_end p d ds other = rw other refl

-- ---- what is not above a probe

all_above : (p : Probe) (x : Datom) (ds : List Datom) → IsBelowAll p.order x ds → probe_cmp p x ≡ Less → upto_probe p ds ≡ []
all_above p x [] before above = refl
all_above p x (d ∷ ds) before above = rw (above_later p x d before.0 above) (all_above p x ds before.1 above)

pub upto_none : (p : Probe) (x : Datom) (ds : List Datom) → IsRising p.order (x ∷ ds) → is_above p x ≡ true → upto_probe p (x ∷ ds) ≡ []
upto_none p x ds rising above = let less = less_is (probe_cmp p x) above in rw less (all_above p x ds rising.0 less)

-- what is neither below a probe nor above it is what it leads to
pub upto_from : (p : Probe) (ds : List Datom) → upto_probe p (from_probe p ds) ≡ led_to p ds
upto_from p [] = refl
upto_from p (d ∷ ds) = go (probe_cmp p d) refl (upto_from p ds)
  where
    go : (o : Ordering) → probe_cmp p d ≡ o → upto_probe p (from_probe p ds) ≡ led_to p ds
        → upto_probe p (from_probe p (d ∷ ds)) ≡ led_to p (d ∷ ds)
    go Less is rest = rw (is, is) rest
    go Equal is rest = rw (is, is) (ap (λ l. d ∷ l) rest)
    go Greater is rest = rw is rest
