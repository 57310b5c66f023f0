-- Changed lists one behind the other, and what a probe leads to in a changed list.
use Rattle.std.proofs.Common.{◌≡◌, ◌∙◌, ℕ, suc, ◌+◌, ◌⊎◌, inl, inr, Bool, true, false, cond, List, [], ◌∷◌, ◌++◌, take, drop, refl, sym, ap, subst, arith}
use Rattle.std.specs.Prelude.{Contains}
use Rattle.std.specs.declared.cmp.Ordering.{Ordering}
use Rattle.std.specs.declared.cmp.Ordering.TheVariants.{Less, Equal, Greater}
use Rattle.std.proofs.lemmas.Bool.{cases_Bool, true≢false}
use Rattle.std.proofs.lemmas.List.{take-append-drop}
use Rattle.std.proofs.lemmas.List.Elements.{Contains-append_left, Contains-append_right, Contains-append_cases}
use Rattle.fb_values.specs.declared.facts.Datom.{Datom}
use Rattle.fb_values.specs.declared.indexes.Order.{Order}
use Rattle.fb_values.specs.declared.indexes.Probe.{Probe}
use Rattle.fb_values.specs.Orders.{key_cmp}
use Rattle.fb_values.specs.OrderLaws.{key_cmp_total}
use Rattle.fb_values.specs.Rising.{IsRising}
use Rattle.fb_model.proofs.Members.{here, there, cases_of, none_of}
use Rattle.fb_search.specs.Places.{is_below, place_of}
use Rattle.fb_search.proofs.Below.{below_earlier}
use Rattle.fb_search.proofs.Ends.{rising-append_left, rising-append_right}
use Rattle.live_runs.specs.Changed.{HasNoTwins, changed, MayChange, from_probe}
use Rattle.live_runs.proofs.Rises.{before_member, not_below_itself, one_key, AreBefore, rising-append}
use Rattle.live_runs.proofs.Changed.{changed_rises, from_changed, into_changed, changed_is}

module _ (order : Order) (table g1 c1 b1 g2 c2 b2 : List Datom) (single : HasNoTwins table) (may1 : MayChange order table g1 c1 b1)
    (may2 : MayChange order table g2 c2 b2) (before : AreBefore order (b1 ++ c1) (b2 ++ c2)) where
  apart : (d : Datom) → Contains (b1 ++ c1) d → Contains (b2 ++ c2) d → ⊥
  apart d first second = not_below_itself order d (before d d first second)

  of_b1 : (d : Datom) → Contains b1 d → Contains (b1 ++ c1) d
  of_b1 d inside = Contains-append_left b1 c1 d inside

  of_c1 : (d : Datom) → Contains c1 d → Contains (b1 ++ c1) d
  of_c1 d inside = Contains-append_right b1 c1 d inside

  of_b2 : (d : Datom) → Contains b2 d → Contains (b2 ++ c2) d
  of_b2 d inside = Contains-append_left b2 c2 d inside

  of_c2 : (d : Datom) → Contains c2 d → Contains (b2 ++ c2) d
  of_c2 d inside = Contains-append_right b2 c2 d inside

  pub beside_may : MayChange order table (g1 ++ g2) (c1 ++ c2) (b1 ++ b2)
  beside_may =
      record {
        rising = rising-append order b1 b2 may1.rising may2.rising (λ x y x_in y_in. before x y (of_b1 x x_in) (of_b2 y y_in));
        gone_rises =
            rising-append order g1 g2 may1.gone_rises may2.gone_rises
            (λ x y x_in y_in. before x y (of_b1 x (may1.there x x_in)) (of_b2 y (may2.there y y_in)));
        come_rises =
            rising-append order c1 c2 may1.come_rises may2.come_rises (λ x y x_in y_in. before x y (of_c1 x x_in) (of_c2 y y_in));
        within = λ d inside. elim (Contains-append_cases b1 b2 d inside) [ inl a ↦ may1.within d a | inr b ↦ may2.within d b ];
        come_within =
            λ d inside. elim (Contains-append_cases c1 c2 d inside) [ inl a ↦ may1.come_within d a | inr b ↦ may2.come_within d b ];
        there = λ d inside. elim (Contains-append_cases g1 g2 d inside) [
          | inl a ↦ Contains-append_left b1 b2 d (may1.there d a)
          | inr b ↦ Contains-append_right b1 b2 d (may2.there d b)
        ];
        fresh = λ d comes inside. elim (Contains-append_cases c1 c2 d comes) [
          | inl a ↦ elim (Contains-append_cases b1 b2 d inside) [
            | inl x ↦ may1.fresh d a x
            | inr y ↦ apart d (of_c1 d a) (of_b2 d y)
          ]
          | inr b ↦ elim (Contains-append_cases b1 b2 d inside) [
            | inl x ↦ apart d (of_b1 d x) (of_c2 d b)
            | inr y ↦ may2.fresh d b y
          ]
        ];
      }

  first_of : (d : Datom) → Contains (changed order g1 c1 b1) d → Contains (b1 ++ c1) d
  first_of d inside = elim (from_changed order table g1 c1 b1 single may1 d inside) [ inl a ↦ of_b1 d a.0 | inr c ↦ of_c1 d c ]

  second_of : (d : Datom) → Contains (changed order g2 c2 b2) d → Contains (b2 ++ c2) d
  second_of d inside = elim (from_changed order table g2 c2 b2 single may2 d inside) [ inl a ↦ of_b2 d a.0 | inr c ↦ of_c2 d c ]

  -- the changes of each part, one behind the other
  pub beside : changed order (g1 ++ g2) (c1 ++ c2) (b1 ++ b2) ≡ changed order g1 c1 b1 ++ changed order g2 c2 b2
  beside =
      changed_is order table (g1 ++ g2) (c1 ++ c2) (b1 ++ b2) single beside_may (changed order g1 c1 b1 ++ changed order g2 c2 b2)
      (rising-append order (changed order g1 c1 b1) (changed order g2 c2 b2) (changed_rises order table g1 c1 b1 single may1)
      (changed_rises order table g2 c2 b2 single may2) (λ x y x_in y_in. before x y (first_of x x_in) (second_of y y_in)))
      (λ d inside. elim (Contains-append_cases (changed order g1 c1 b1) (changed order g2 c2 b2) d inside) [
        | inl first ↦ elim (from_changed order table g1 c1 b1 single may1 d first) [
          | inl stayed ↦
              inl (
                Contains-append_left b1 b2 d stayed.0,
                λ went. elim (Contains-append_cases g1 g2 d went) [
                  | inl a ↦ stayed.1 a
                  | inr b ↦ apart d (of_b1 d stayed.0) (of_b2 d (may2.there d b))
                ],
              )
          | inr comes ↦ inr (Contains-append_left c1 c2 d comes)
        ]
        | inr second ↦ elim (from_changed order table g2 c2 b2 single may2 d second) [
          | inl stayed ↦
              inl (
                Contains-append_right b1 b2 d stayed.0,
                λ went. elim (Contains-append_cases g1 g2 d went) [
                  | inl a ↦ apart d (of_b1 d (may1.there d a)) (of_b2 d stayed.0)
                  | inr b ↦ stayed.1 b
                ],
              )
          | inr comes ↦ inr (Contains-append_right c1 c2 d comes)
        ]
      ])
      (λ d given. elim given [
        | inl stayed ↦ elim (Contains-append_cases b1 b2 d stayed.0) [
          | inl a ↦
              Contains-append_left (changed order g1 c1 b1) (changed order g2 c2 b2) d
              (into_changed order table g1 c1 b1 single may1 d (inl (a, λ went. stayed.1 (Contains-append_left g1 g2 d went))))
          | inr b ↦
              Contains-append_right (changed order g1 c1 b1) (changed order g2 c2 b2) d
              (into_changed order table g2 c2 b2 single may2 d (inl (b, λ went. stayed.1 (Contains-append_right g1 g2 d went))))
        ]
        | inr comes ↦ elim (Contains-append_cases c1 c2 d comes) [
          | inl a ↦
              Contains-append_left (changed order g1 c1 b1) (changed order g2 c2 b2) d
              (into_changed order table g1 c1 b1 single may1 d (inr a))
          | inr b ↦
              Contains-append_right (changed order g1 c1 b1) (changed order g2 c2 b2) d
              (into_changed order table g2 c2 b2 single may2 d (inr b))
        ]
      ])

-- ---- from a probe on

abbrev pub upto_probe : Probe → List Datom → List Datom
upto_probe p ds = take (place_of p ds) ds

pub one_more : (n : ℕ) → 1 + n ≡ suc n
one_more n = omega arith

pub upto_below : (p : Probe) (ds : List Datom) (x : Datom) → Contains (upto_probe p ds) x → is_below p x ≡ true
upto_below p [] x inside = absurd (none_of x inside)
upto_below p (d ∷ ds) x inside = go (is_below p d) refl inside (λ behind. upto_below p ds x behind)
  where
    go : (b : Bool) → is_below p d ≡ b → Contains (take (cond b (1 + place_of p ds) 0) (d ∷ ds)) x
        → (Contains (take (place_of p ds) ds) x → is_below p x ≡ true) → is_below p x ≡ true
    go false is found rest = absurd (none_of x found)
    go true is found rest =
        let at : Contains (d ∷ take (place_of p ds) ds) x = rw (one_more (place_of p ds)) at found in
        elim (cases_of d x (take (place_of p ds) ds) at) [
          | inl same ↦ subst (λ (y : Datom). is_below p y ≡ true) same is
          | inr behind ↦ rest behind
        ]

pub from_above : (p : Probe) (ds : List Datom) (x : Datom) → IsRising p.order ds → Contains (from_probe p ds) x → is_below p x ≡ false
from_above p [] x rising inside = absurd (none_of x inside)
from_above p (d ∷ ds) x rising inside = go (is_below p d) refl inside (λ behind. from_above p ds x rising.1 behind)
  where
    go : (b : Bool) → is_below p d ≡ b → Contains (drop (cond b (1 + place_of p ds) 0) (d ∷ ds)) x
        → (Contains (drop (place_of p ds) ds) x → is_below p x ≡ false) → is_below p x ≡ false
    go true is found rest = rest (rw (one_more (place_of p ds)) at found)
    go false is found rest =
        elim (cases_of d x ds found) [
          | inl same ↦ subst (λ (y : Datom). is_below p y ≡ false) same is
          | inr behind ↦ elim (cases_Bool (is_below p x)) [
            | inl below ↦ absurd (true≢false (sym (below_earlier p d x (before_member p.order d ds x rising.0 behind) below) ∙ is))
            | inr above ↦ above
          ]
        ]

pub both_sides : (p : Probe) (ds : List Datom) (x : Datom) → Contains ds x → Contains (upto_probe p ds) x ⊎ Contains (from_probe p ds) x
both_sides p ds x inside =
    Contains-append_cases (upto_probe p ds) (from_probe p ds) x (rw (take-append-drop (place_of p ds) ds) inside)

pub upto_of : (p : Probe) (ds : List Datom) (x : Datom) → Contains (upto_probe p ds) x → Contains ds x
upto_of p ds x inside = rw (take-append-drop (place_of p ds) ds) at (Contains-append_left (upto_probe p ds) (from_probe p ds) x inside)

pub from_of : (p : Probe) (ds : List Datom) (x : Datom) → Contains (from_probe p ds) x → Contains ds x
from_of p ds x inside = rw (take-append-drop (place_of p ds) ds) at (Contains-append_right (upto_probe p ds) (from_probe p ds) x inside)

pub into_upto : (p : Probe) (ds : List Datom) (x : Datom) → IsRising p.order ds → Contains ds x → is_below p x ≡ true
    → Contains (upto_probe p ds) x
into_upto p ds x rising inside below =
    elim (both_sides p ds x inside) [
      | inl before ↦ before
      | inr behind ↦ absurd (true≢false (sym below ∙ from_above p ds x rising behind))
    ]

pub into_from : (p : Probe) (ds : List Datom) (x : Datom) → Contains ds x → is_below p x ≡ false → Contains (from_probe p ds) x
into_from p ds x inside above =
    elim (both_sides p ds x inside) [
      | inl before ↦ absurd (true≢false (sym (upto_below p ds x before) ∙ above))
      | inr behind ↦ behind
    ]

-- where a list turns from what is below the probe to what is not
pub turns_at : (p : Probe) (xs ys : List Datom) → ((d : Datom) → Contains xs d → is_below p d ≡ true)
    → ((d : Datom) → Contains ys d → is_below p d ≡ false) → from_probe p (xs ++ ys) ≡ ys
turns_at p [] [] below above = refl
turns_at p [] (y ∷ ys) below above = rw (above y (here y ys)) refl
turns_at p (x ∷ xs) ys below above =
    rw (below x (here x xs), one_more (place_of p (xs ++ ys))) (turns_at p xs ys (λ d inside. below d (there x d xs inside)) above)

-- a datom below the probe is before one that is not
across : (p : Probe) (table : List Datom) (x y : Datom) → HasNoTwins table → Contains table x → Contains table y → is_below p x ≡ true
    → is_below p y ≡ false → key_cmp p.order x y ≡ Less
across p table x y single x_in y_in below above = go (key_cmp p.order x y) refl
  where
    go : (o : Ordering) → key_cmp p.order x y ≡ o → o ≡ Less
    go Less is = refl
    go Equal is = let same : x ≡ y = one_key p.order table x y single x_in y_in is in absurd (true≢false (sym below ∙ ap (is_below p) same ∙ above))
    go Greater is =
        let back : key_cmp p.order y x ≡ Less = cc ((key_cmp_total p.order).antisymm y x) in
        absurd (true≢false (sym (below_earlier p y x back below) ∙ above))

module _ (p : Probe) (table gone come base : List Datom) (single : HasNoTwins table) (may : MayChange p.order table gone come base) where
  rises_upto : (ds : List Datom) → IsRising p.order ds → IsRising p.order (upto_probe p ds)
  rises_upto ds rising =
      rising-append_left p.order (upto_probe p ds) (from_probe p ds)
      (subst (IsRising p.order) (sym (take-append-drop (place_of p ds) ds)) rising)

  rises_from : (ds : List Datom) → IsRising p.order ds → IsRising p.order (from_probe p ds)
  rises_from ds rising =
      rising-append_right p.order (upto_probe p ds) (from_probe p ds)
      (subst (IsRising p.order) (sym (take-append-drop (place_of p ds) ds)) rising)

  pub upto_may : MayChange p.order table (upto_probe p gone) (upto_probe p come) (upto_probe p base)
  upto_may =
      record {
        rising = rises_upto base may.rising;
        gone_rises = rises_upto gone may.gone_rises;
        come_rises = rises_upto come may.come_rises;
        within = λ d inside. may.within d (upto_of p base d inside);
        come_within = λ d inside. may.come_within d (upto_of p come d inside);
        there = λ d inside. into_upto p base d may.rising (may.there d (upto_of p gone d inside)) (upto_below p gone d inside);
        fresh = λ d comes inside. may.fresh d (upto_of p come d comes) (upto_of p base d inside);
      }

  pub from_may : MayChange p.order table (from_probe p gone) (from_probe p come) (from_probe p base)
  from_may =
      record {
        rising = rises_from base may.rising;
        gone_rises = rises_from gone may.gone_rises;
        come_rises = rises_from come may.come_rises;
        within = λ d inside. may.within d (from_of p base d inside);
        come_within = λ d inside. may.come_within d (from_of p come d inside);
        there = λ d inside. into_from p base d (may.there d (from_of p gone d inside)) (from_above p gone d may.gone_rises inside);
        fresh = λ d comes inside. may.fresh d (from_of p come d comes) (from_of p base d inside);
      }

  first_half : (d : Datom) → Contains (upto_probe p base ++ upto_probe p come) d → Contains table d × (is_below p d ≡ true)
  first_half d inside =
      elim (Contains-append_cases (upto_probe p base) (upto_probe p come) d inside) [
        | inl a ↦ (may.within d (upto_of p base d a), upto_below p base d a)
        | inr b ↦ (may.come_within d (upto_of p come d b), upto_below p come d b)
      ]

  second_half : (d : Datom) → Contains (from_probe p base ++ from_probe p come) d → Contains table d × (is_below p d ≡ false)
  second_half d inside =
      elim (Contains-append_cases (from_probe p base) (from_probe p come) d inside) [
        | inl a ↦ (may.within d (from_of p base d a), from_above p base d may.rising a)
        | inr b ↦ (may.come_within d (from_of p come d b), from_above p come d may.come_rises b)
      ]

  halves : AreBefore p.order (upto_probe p base ++ upto_probe p come) (from_probe p base ++ from_probe p come)
  halves x y x_in y_in =
      across p table x y single (first_half x x_in).0 (second_half y y_in).0 (first_half x x_in).1 (second_half y y_in).1

  pub joined_up : changed p.order gone come base
      ≡ changed p.order (upto_probe p gone) (upto_probe p come) (upto_probe p base)
      ++ changed p.order (from_probe p gone) (from_probe p come) (from_probe p base)
  joined_up =
      ap (λ (l : List Datom). changed p.order l come base) (sym (take-append-drop (place_of p gone) gone))
      ∙ ap (λ (l : List Datom). changed p.order (upto_probe p gone ++ from_probe p gone) l base)
      (sym (take-append-drop (place_of p come) come))
      ∙ ap (λ (l : List Datom). changed p.order (upto_probe p gone ++ from_probe p gone) (upto_probe p come ++ from_probe p come) l)
      (sym (take-append-drop (place_of p base) base))
      ∙ beside p.order table (upto_probe p gone) (upto_probe p come) (upto_probe p base) (from_probe p gone) (from_probe p come)
      (from_probe p base) single upto_may from_may halves

  -- each part from the probe on gives the whole from there on
  pub cut : from_probe p (changed p.order gone come base) ≡ changed p.order (from_probe p gone) (from_probe p come) (from_probe p base)
  cut =
      ap (from_probe p) joined_up
      ∙ turns_at p (changed p.order (upto_probe p gone) (upto_probe p come) (upto_probe p base))
      (changed p.order (from_probe p gone) (from_probe p come) (from_probe p base))
      (λ d inside. elim (from_changed p.order table (upto_probe p gone) (upto_probe p come) (upto_probe p base) single upto_may d inside) [
        | inl a ↦ upto_below p base d a.0
        | inr b ↦ upto_below p come d b
      ])
      (λ d inside. elim (from_changed p.order table (from_probe p gone) (from_probe p come) (from_probe p base) single from_may d inside) [
        | inl a ↦ from_above p base d may.rising a.0
        | inr b ↦ from_above p come d may.come_rises b
      ])
