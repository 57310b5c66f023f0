-- Askings in order, joined into triples one after another.
use Rattle.std.proofs.Common.{◌≡◌, ℕ, suc, ◌+◌, Bool, true, false, cond, ◌&&◌, List, [], ◌∷◌, length, get_or, refl, ap, sym, ◌∙◌}
use Rattle.std.proofs.Common.{◌++◌, append_assoc, subst, arith, inl, inr, ◌⊎◌}
use Rattle.std.specs.Prelude.{nat_eq, Contains, Option, None}
use Rattle.std.specs.List.{list_any}
use Rattle.std.specs.List.Sorted.{IsSorted}
use Rattle.std.specs.Cmp.{IsTotalOrder, on_total, then_total, nat_cmp_total}
use Rattle.std.specs.Ordering.{is_lt, is_eq, nat_cmp, ordering_then, ordering_reverse}
use Rattle.std.specs.declared.cmp.Ordering.{Ordering}
use Rattle.std.specs.declared.cmp.Ordering.TheVariants.{Less, Equal, Greater}
use Rattle.std.proofs.lemmas.Bool.{true≢false, and_parts, and_from, or_left, or_right, eqb-true, eq-eqb}
use Rattle.std.proofs.lemmas.List.Sorted.{ranks_by, sorted_far}
use Rattle.fb_values.specs.declared.facts.Entry.{Entry}
use Rattle.fb_values.specs.declared.facts.Value.{Value}
use Rattle.fb_values.specs.Orders.{value_cmp}
use Rattle.fb_values.specs.OrderLaws.{value_cmp_total}
use Rattle.fb_model.specs.Facts.{value_eq, least, holds}
use Rattle.fb_model.proofs.Triples.{value_eq-true, value_eq-refl}
use Rattle.tx_model.proofs.Lists.{first_of, later_of, which, not_in_none}
use Rattle.tx_asks.specs.declared.triples.Triple.{Triple}
use Rattle.tx_asks.specs.Triples.{is_triple, rise}
use Rattle.tx_sweep.proofs.Sweeping.{is_eq-then, is_eq-nat_cmp, all_members}
use Rattle.tx_changes.specs.declared.noted.AskedAs.{AskedAs}
use Rattle.tx_changes.specs.declared.noted.AskedAs.TheVariants.{Added, Retracted, Swept, Replaced}
use Rattle.tx_changes.specs.declared.noted.Noted.{Noted}
use Rattle.tx_changes.specs.Noted.{is_way, askings_as, noted_cmp, asks, asks_same, placed, placed_as, with_noted, triple_from}
use Rattle.tx_changes.specs.Noted.{IsJoined, AreJoined}
use Rattle.tx_changes.proofs.Ways.{one_as}

abbrev pub triple_cmp : Triple → Triple → Ordering
triple_cmp x y = ordering_then (ordering_then (nat_cmp x.e y.e) (nat_cmp x.a y.a)) (value_cmp x.v y.v)

pub triple_cmp_total : IsTotalOrder triple_cmp
triple_cmp_total =
    then_total (then_total (on_total (λ (t : Triple). t.e) nat_cmp_total) (on_total (λ (t : Triple). t.a) nat_cmp_total))
    (on_total (λ (t : Triple). t.v) value_cmp_total)

pub noted_cmp_total : IsTotalOrder noted_cmp
noted_cmp_total =
    then_total (then_total (on_total (λ (n : Noted). n.asking.e) nat_cmp_total) (on_total (λ (n : Noted). n.asking.a) nat_cmp_total))
    (on_total (λ (n : Noted). n.asking.v) value_cmp_total)

-- ---- two of one triple

record IsSame (t u : Triple) : Type 0 where
  e_is : t.e ≡ u.e
  a_is : t.a ≡ u.a
  v_is : t.v ≡ u.v

cmp-same : (t u : Triple) → is_eq (triple_cmp t u) ≡ is_triple u.e u.a u.v t
cmp-same t u =
    is_eq-then (ordering_then (nat_cmp t.e u.e) (nat_cmp t.a u.a)) (value_cmp t.v u.v)
    ∙ ap (λ b. b && value_eq t.v u.v) (is_eq-then (nat_cmp t.e u.e) (nat_cmp t.a u.a))
    ∙ ap (λ b. (b && is_eq (nat_cmp t.a u.a)) && value_eq t.v u.v) (is_eq-nat_cmp t.e u.e)
    ∙ ap (λ b. (nat_eq t.e u.e && b) && value_eq t.v u.v) (is_eq-nat_cmp t.a u.a)

same-true : (t u : Triple) → is_triple u.e u.a u.v t ≡ true → IsSame t u
same-true t u is =
    let parts = and_parts (nat_eq t.e u.e && nat_eq t.a u.a) (value_eq t.v u.v) is in
    let numbers = and_parts (nat_eq t.e u.e) (nat_eq t.a u.a) parts.0 in
    record { e_is = eqb-true t.e u.e numbers.0; a_is = eqb-true t.a u.a numbers.1; v_is = value_eq-true t.v u.v parts.1 }

true-same : (t u : Triple) → IsSame t u → is_triple u.e u.a u.v t ≡ true
true-same t u is =
    and_from _ _ (and_from _ _ (eq-eqb t.e u.e is.e_is) (eq-eqb t.a u.a is.a_is)) (ap (λ w. value_eq w u.v) is.v_is ∙ value_eq-refl u.v)

same_back : (t u : Triple) → IsSame t u → IsSame u t
same_back t u is = record { e_is = sym is.e_is; a_is = sym is.a_is; v_is = sym is.v_is }

below_same : (t u w : Triple) → IsSame w u → triple_cmp t u ≡ Less → triple_cmp t w ≡ Less
below_same t u w is less =
    ap (λ e. ordering_then (ordering_then (nat_cmp t.e e) (nat_cmp t.a w.a)) (value_cmp t.v w.v)) is.e_is
    ∙ ap (λ a. ordering_then (ordering_then (nat_cmp t.e u.e) (nat_cmp t.a a)) (value_cmp t.v w.v)) is.a_is
    ∙ ap (λ v. ordering_then (ordering_then (nat_cmp t.e u.e) (nat_cmp t.a u.a)) (value_cmp t.v v)) is.v_is
    ∙ less

other_same : (t last u : Triple) → IsSame last u → is_triple t.e t.a t.v last ≡ false → is_triple t.e t.a t.v u ≡ false
other_same t last u is other =
    sym (ap (λ e. nat_eq e t.e && nat_eq last.a t.a && value_eq last.v t.v) is.e_is
    ∙ ap (λ a. nat_eq u.e t.e && nat_eq a t.a && value_eq last.v t.v) is.a_is
    ∙ ap (λ v. nat_eq u.e t.e && nat_eq u.a t.a && value_eq v t.v) is.v_is)
    ∙ other

-- who is below another is not the same
below_other : (t u : Triple) → triple_cmp t u ≡ Less → is_triple u.e u.a u.v t ≡ false
below_other t u less = sym (cmp-same t u) ∙ ap is_eq less

above_other : (t u : Triple) → triple_cmp t u ≡ Less → is_triple t.e t.a t.v u ≡ false
above_other t u less = sym (cmp-same u t) ∙ ap is_eq (triple_cmp_total.antisymm u t ∙ ap ordering_reverse less)

stands_below : (t u : Triple) → is_triple u.e u.a u.v t ≡ false → is_lt (triple_cmp u t) ≡ false → triple_cmp t u ≡ Less
stands_below t u other floor =
    go (triple_cmp t u) refl (cmp-same t u ∙ other) (sym (ap is_lt (triple_cmp_total.antisymm u t)) ∙ floor)
  where
    go : (r : Ordering) → triple_cmp t u ≡ r → is_eq r ≡ false → is_lt (ordering_reverse r) ≡ false → r ≡ Less
    go Less at no_tie no_less = refl
    go Equal at no_tie no_less = absurd (true≢false no_tie)
    go Greater at no_tie no_less = absurd (true≢false no_less)

-- ---- the fold

abbrev pub folded : List Entry → Triple → List Noted → List Triple
folded h last [] = last ∷ []
folded h last (n ∷ ns) = cond (asks_same last n) (folded h (with_noted last n) ns) (last ∷ folded h (triple_from h n) ns)

abbrev pub folded_all : List Entry → List Noted → List Triple
folded_all h [] = []
folded_all h (n ∷ ns) = folded h (triple_from h n) ns

only : (t u : Triple) → Contains (t ∷ []) u → t ≡ u
only t u among = elim (which t u [] among) [ inl is ↦ is | inr later ↦ absurd (not_in_none u later) ]

module _ (h : List Entry) where
  -- an asking more: of the last triple, or of a new one
  by_last : (last : Triple) (n : Noted) (ns : List Noted) (P : List Triple → Type 0)
      → (asks_same last n ≡ true → P (folded h (with_noted last n) ns))
      → (asks_same last n ≡ false → P (last ∷ folded h (triple_from h n) ns)) → P (folded h last (n ∷ ns))
  by_last last n ns P same other = go (asks_same last n) refl
    where
      go : (b : Bool) → asks_same last n ≡ b → P (cond b (folded h (with_noted last n) ns) (last ∷ folded h (triple_from h n) ns))
      go true is = same is
      go false is = other is

  -- nothing that comes is below the triple
  abbrev IsFloor : Triple → List Noted → Type 0
  IsFloor t ns = (n : Noted) → Contains ns n → is_lt (triple_cmp (triple_from h n) t) ≡ false

  floor_rest : (t : Triple) (n : Noted) (ns : List Noted) → IsFloor t (n ∷ ns) → IsFloor t ns
  floor_rest t n ns floor = λ m among. floor m (later_of n m ns among)

  sorted_rest : (n : Noted) (ns : List Noted) → IsSorted noted_cmp (n ∷ ns) → IsSorted noted_cmp ns
  sorted_rest n ns up = λ k d low high.
      let next : suc k + 1 ≡ suc (k + 1) = omega arith in
      subst (λ i. is_lt (noted_cmp (get_or (n ∷ ns) i d) (get_or ns k d)) ≡ false) next (up (suc k) d (omega arith) (omega (arith, high)))

  floor_of : (n : Noted) (ns : List Noted) → IsSorted noted_cmp (n ∷ ns) → IsFloor (triple_from h n) ns
  floor_of n ns up = λ m among.
      let inside = among.1 in
      let far = sorted_far (λ x y. is_lt (noted_cmp x y)) (ranks_by noted_cmp_total (λ (x : Noted). x)) (n ∷ ns) up 0 (suc among.0) m
      (omega arith) (omega (arith, inside)) in
      subst (λ y. is_lt (noted_cmp y n) ≡ false) among.2 far

  -- ---- in order

  rises_behind : (x last : Triple) (ns : List Noted) → triple_cmp x last ≡ Less → rise (folded h last ns) ≡ true
      → rise (x ∷ folded h last ns) ≡ true
  rises_behind x last [] less up = and_from _ _ (ap is_lt less) refl
  rises_behind x last (n ∷ ns) less up =
      by_last last n ns (λ ts. rise ts ≡ true → rise (x ∷ ts) ≡ true) (λ same rising. rises_behind x (with_noted last n) ns less rising)
      (λ other rising. and_from _ _ (ap is_lt less) rising) up

  rises : (last : Triple) (ns : List Noted) → IsFloor last ns → IsSorted noted_cmp ns → rise (folded h last ns) ≡ true
  rises last [] floor up = refl
  rises last (n ∷ ns) floor up =
      by_last last n ns (λ ts. rise ts ≡ true)
      (λ same. rises (with_noted last n) ns (floor_rest last n ns floor) (sorted_rest n ns up))
      (λ other.
      rises_behind last (triple_from h n) ns (stands_below last (triple_from h n) other (floor n (first_of n ns)))
      (rises (triple_from h n) ns (floor_of n ns up) (sorted_rest n ns up)))

  -- ---- none is left out

  has_last : (e a : ℕ) (v : Value) (last : Triple) (ns : List Noted) → is_triple e a v last ≡ true
      → list_any (is_triple e a v) (folded h last ns) ≡ true
  has_last e a v last [] is = or_left _ _ is
  has_last e a v last (n ∷ ns) is =
      by_last last n ns (λ ts. list_any (is_triple e a v) ts ≡ true) (λ same. has_last e a v (with_noted last n) ns is)
      (λ other. or_left _ _ is)

  has_itself : (n : Noted) → is_triple n.asking.e n.asking.a n.asking.v (triple_from h n) ≡ true
  has_itself n = true-same (triple_from h n) (triple_from h n) (record { e_is = refl; a_is = refl; v_is = refl })

  has_first : (n : Noted) (ns : List Noted) (m : Noted) → n ≡ m
      → list_any (is_triple m.asking.e m.asking.a m.asking.v) (folded h (triple_from h n) ns) ≡ true
  has_first n ns m is =
      has_last m.asking.e m.asking.a m.asking.v (triple_from h n) ns
      (subst (λ y. is_triple y.asking.e y.asking.a y.asking.v (triple_from h n) ≡ true) is (has_itself n))

  has_each : (last : Triple) (ns : List Noted) (m : Noted) → Contains ns m
      → list_any (is_triple m.asking.e m.asking.a m.asking.v) (folded h last ns) ≡ true
  has_each last [] m among = absurd (not_in_none m among)
  has_each last (n ∷ ns) m among = elim (which n m ns among) [
    | inl is ↦ by_last last n ns (λ ts. list_any (is_triple m.asking.e m.asking.a m.asking.v) ts ≡ true)
        (λ same.
        has_last m.asking.e m.asking.a m.asking.v (with_noted last n) ns
        (subst (λ y. is_triple y.asking.e y.asking.a y.asking.v last ≡ true) is same))
        (λ other. or_right _ _ (has_first n ns m is))
    | inr later ↦ by_last last n ns (λ ts. list_any (is_triple m.asking.e m.asking.a m.asking.v) ts ≡ true)
        (λ same. has_each (with_noted last n) ns m later) (λ other. or_right _ _ (has_each (triple_from h n) ns m later))
  ]

  -- ---- what holds

  abbrev TellsHolding : Triple → Type 0
  TellsHolding t = t.holds ≡ holds h t.e t.a t.v

  tell_holding : (last : Triple) (ns : List Noted) → TellsHolding last → (t : Triple) → Contains (folded h last ns) t → TellsHolding t
  tell_holding last [] is t among = subst TellsHolding (only last t among) is
  tell_holding last (n ∷ ns) is t among =
      by_last last n ns (λ ts. Contains ts t → TellsHolding t) (λ same there. tell_holding (with_noted last n) ns is t there)
      (λ other there. elim (which last t (folded h (triple_from h n) ns) there) [
        | inl first ↦ subst TellsHolding first is
        | inr later ↦ tell_holding (triple_from h n) ns refl t later
      ]) among

  -- ---- the least places

  abbrev place_as : AskedAs → Triple → Option ℕ
  place_as Added t = t.added
  place_as Retracted t = t.retracted
  place_as Swept t = t.swept
  place_as Replaced t = t.replaced

  place_with : (way : AskedAs) (t : Triple) (n : Noted)
      → place_as way (with_noted t n) ≡ placed_as way n.way n.asking.place (place_as way t)
  place_with Added t n = refl
  place_with Retracted t n = refl
  place_with Swept t n = refl
  place_with Replaced t n = refl

  place_from : (way : AskedAs) (n : Noted) → place_as way (triple_from h n) ≡ placed_as way n.way n.asking.place None
  place_from Added n = refl
  place_from Retracted n = refl
  place_from Swept n = refl
  place_from Replaced n = refl

  -- the least place of what is noted of the triple in the way
  abbrev least_of : AskedAs → ℕ → ℕ → Value → Option ℕ → List Noted → Option ℕ
  least_of way e a v found ns = placed e a v found (askings_as way ns)

  least_more : (way : AskedAs) (e a : ℕ) (v : Value) (found : Option ℕ) (n : Noted) (ns : List Noted) → asks e a v n.asking ≡ true
      → least_of way e a v (placed_as way n.way n.asking.place found) ns ≡ least_of way e a v found (n ∷ ns)
  least_more way e a v found n ns of = go (is_way way n.way) refl
    where
      go : (b : Bool) → is_way way n.way ≡ b
          → least_of way e a v (cond (is_way way n.way) (least n.asking.place found) found) ns ≡ least_of way e a v found (n ∷ ns)
      go true is =
          ap (λ b. least_of way e a v (cond b (least n.asking.place found) found) ns) is
          ∙ ap (λ b. placed e a v (cond b (least n.asking.place found) found) (askings_as way ns)) (sym of)
          ∙ ap (placed e a v found) (sym (one_as way true n ns is))
      go false is =
          ap (λ b. least_of way e a v (cond b (least n.asking.place found) found) ns) is
          ∙ ap (placed e a v found) (sym (one_as way false n ns is))

  least_past : (way : AskedAs) (e a : ℕ) (v : Value) (found : Option ℕ) (n : Noted) (ns : List Noted) → asks e a v n.asking ≡ false
      → least_of way e a v found ns ≡ least_of way e a v found (n ∷ ns)
  least_past way e a v found n ns other = go (is_way way n.way) refl
    where
      go : (b : Bool) → is_way way n.way ≡ b → least_of way e a v found ns ≡ least_of way e a v found (n ∷ ns)
      go true is =
          ap (λ b. placed e a v (cond b (least n.asking.place found) found) (askings_as way ns)) (sym other)
          ∙ ap (placed e a v found) (sym (one_as way true n ns is))
      go false is = ap (placed e a v found) (sym (one_as way false n ns is))

  least_kept : (way : AskedAs) (e a : ℕ) (v : Value) (found : Option ℕ) (ns : List Noted)
      → ((m : Noted) → Contains ns m → asks e a v m.asking ≡ false) → found ≡ least_of way e a v found ns
  least_kept way e a v found [] none = refl
  least_kept way e a v found (n ∷ ns) none =
      least_kept way e a v found ns (λ m among. none m (later_of n m ns among))
      ∙ least_past way e a v found n ns (none n (first_of n ns))

  -- what a triple of the fold tells: of the last one's triple, or of one behind it
  record IsOfLast (last : Triple) (ns : List Noted) (t : Triple) : Type 0 where
    same : IsSame t last
    places : (way : AskedAs) → place_as way t ≡ least_of way t.e t.a t.v (place_as way last) ns

  record IsBehind (last : Triple) (ns : List Noted) (t : Triple) : Type 0 where
    below : triple_cmp last t ≡ Less
    places : (way : AskedAs) → place_as way t ≡ least_of way t.e t.a t.v None ns

  -- from the first one of those that are noted
  new_one : (n : Noted) (ns : List Noted) (t : Triple) → IsOfLast (triple_from h n) ns t ⊎ IsBehind (triple_from h n) ns t
      → (way : AskedAs) → place_as way t ≡ least_of way t.e t.a t.v None (n ∷ ns)
  new_one n ns t (inl of) way =
      of.places way ∙ ap (λ found. least_of way t.e t.a t.v found ns) (place_from way n)
      ∙ least_more way t.e t.a t.v None n ns (true-same (triple_from h n) t (same_back t (triple_from h n) of.same))
  new_one n ns t (inr behind) way =
      behind.places way ∙ least_past way t.e t.a t.v None n ns (below_other (triple_from h n) t behind.below)

  tells : (last : Triple) (ns : List Noted) → IsFloor last ns → IsSorted noted_cmp ns → (t : Triple) → Contains (folded h last ns) t
      → IsOfLast last ns t ⊎ IsBehind last ns t
  tells last [] floor up t among =
      let is = only last t among in
      inl (subst (IsOfLast last []) is (record { same = record { e_is = refl; a_is = refl; v_is = refl }; places = λ way. refl }))
  tells last (n ∷ ns) floor up t among =
      by_last last n ns (λ ts. Contains ts t → IsOfLast last (n ∷ ns) t ⊎ IsBehind last (n ∷ ns) t)
      (λ same there. grown same (tells (with_noted last n) ns (floor_rest last n ns floor) (sorted_rest n ns up) t there))
      (λ other there. elim (which last t (folded h (triple_from h n) ns) there) [
        | inl is ↦ inl (subst (IsOfLast last (n ∷ ns)) is (record {
          same = record { e_is = refl; a_is = refl; v_is = refl };
          places = λ way. least_kept way last.e last.a last.v (place_as way last) (n ∷ ns) (not_of_last other);
        }))
        | inr later ↦ inr (new_behind other (tells (triple_from h n) ns (floor_of n ns up) (sorted_rest n ns up) t later))
      ]) among
    where
      -- n is of the last triple
      grown : asks_same last n ≡ true → IsOfLast (with_noted last n) ns t ⊎ IsBehind (with_noted last n) ns t
          → IsOfLast last (n ∷ ns) t ⊎ IsBehind last (n ∷ ns) t
      grown same (inl of) =
          let is = same-true last (triple_from h n) same in
          inl (record {
            same = record { e_is = of.same.e_is; a_is = of.same.a_is; v_is = of.same.v_is };
            places = λ way.
                of.places way
                ∙ ap (λ found. least_of way t.e t.a t.v found ns) (place_with way last n)
                ∙ least_more way t.e t.a t.v (place_as way last) n ns (true-same (triple_from h n) t (record {
                  e_is = sym (of.same.e_is ∙ is.e_is);
                  a_is = sym (of.same.a_is ∙ is.a_is);
                  v_is = sym (of.same.v_is ∙ is.v_is);
                }));
          })
      grown same (inr behind) =
          let is = same-true last (triple_from h n) same in
          inr (record {
            below = behind.below;
            places = λ way.
                behind.places way
                ∙ least_past way t.e t.a t.v None n ns (other_same t last (triple_from h n) is (below_other last t behind.below));
          })

      -- n is of a new triple
      less : asks_same last n ≡ false → triple_cmp last (triple_from h n) ≡ Less
      less other = stands_below last (triple_from h n) other (floor n (first_of n ns))

      not_of_last : asks_same last n ≡ false → (m : Noted) → Contains (n ∷ ns) m → asks last.e last.a last.v m.asking ≡ false
      not_of_last other m there = elim (which n m ns there) [
        | inl is ↦ subst (λ y. asks last.e last.a last.v y.asking ≡ false) is (above_other last (triple_from h n) (less other))
        | inr later ↦ above_other last (triple_from h m)
            (reaches last (triple_from h n) (triple_from h m) (less other) (floor_of n ns up m later))
      ]
        where
          reaches : (x y z : Triple) → triple_cmp x y ≡ Less → is_lt (triple_cmp z y) ≡ false → triple_cmp x z ≡ Less
          reaches x y z first second = by_order (triple_cmp y z) refl (sym (ap is_lt (triple_cmp_total.antisymm z y)) ∙ second)
            where
              by_order : (r : Ordering) → triple_cmp y z ≡ r → is_lt (ordering_reverse r) ≡ false → triple_cmp x z ≡ Less
              by_order Less at no_less = triple_cmp_total.trans x y z first at
              by_order Equal at no_less =
                  below_same x y z (same_back y z (same-true y z (sym (cmp-same y z) ∙ ap is_eq at))) first
              by_order Greater at no_less = absurd (true≢false no_less)

      behind_last : asks_same last n ≡ false → IsOfLast (triple_from h n) ns t ⊎ IsBehind (triple_from h n) ns t
          → triple_cmp last t ≡ Less
      behind_last other (inl of) = below_same last (triple_from h n) t of.same (less other)
      behind_last other (inr behind) = triple_cmp_total.trans last (triple_from h n) t (less other) behind.below

      new_behind : asks_same last n ≡ false → IsOfLast (triple_from h n) ns t ⊎ IsBehind (triple_from h n) ns t
          → IsBehind last (n ∷ ns) t
      new_behind other from = record { below = behind_last other from; places = new_one n ns t from }

  pub are_joined : (ns : List Noted) → IsSorted noted_cmp ns → AreJoined h ns (folded_all h ns)
  are_joined [] up =
      record {
        rising = refl;
        exact = all_members (IsJoined h []) [] (λ t among. absurd (not_in_none t among));
        whole = λ n among. absurd (not_in_none n among);
      }
  are_joined (n ∷ ns) up =
      record {
        rising = rises (triple_from h n) ns (floor_of n ns up) (sorted_rest n ns up);
        exact = all_members (IsJoined h (n ∷ ns)) (folded h (triple_from h n) ns) joined;
        whole = λ m among. there m (which n m ns among);
      }
    where
      joined : (t : Triple) → Contains (folded h (triple_from h n) ns) t → IsJoined h (n ∷ ns) t
      joined t among =
          let places = new_one n ns t (tells (triple_from h n) ns (floor_of n ns up) (sorted_rest n ns up) t among) in
          record {
            added = places Added;
            retracted = places Retracted;
            swept = places Swept;
            replaced = places Replaced;
            holding = tell_holding (triple_from h n) ns refl t among;
          }

      there : (m : Noted) → (n ≡ m) ⊎ Contains ns m
          → list_any (is_triple m.asking.e m.asking.a m.asking.v) (folded h (triple_from h n) ns) ≡ true
      there m (inl is) = has_first n ns m is
      there m (inr later) = has_each (triple_from h n) ns m later

-- ---- the loop

pub take_next : (h : List Entry) (ts : List Triple) (last : Triple) (n : Noted) (ns : List Noted) (more : List Triple) (next : Triple)
    → more ≡ cond (asks_same last n) ts (ts ++ last ∷ []) → next ≡ cond (asks_same last n) (with_noted last n) (triple_from h n)
    → more ++ folded h next ns ≡ ts ++ folded h last (n ∷ ns)
take_next h ts last n ns more next more_is next_is =
    ap (λ xs. xs ++ folded h next ns) more_is
    ∙ ap (λ t. cond (asks_same last n) ts (ts ++ last ∷ []) ++ folded h t ns) next_is
    ∙ go (asks_same last n)
  where
    go : (b : Bool) → cond b ts (ts ++ last ∷ []) ++ folded h (cond b (with_noted last n) (triple_from h n)) ns
        ≡ ts ++ cond b (folded h (with_noted last n) ns) (last ∷ folded h (triple_from h n) ns)
    go true = refl
    go false = append_assoc ts (last ∷ []) (folded h (triple_from h n) ns)

pub none_left : (ns : List Noted) → length ns ≡ 0 → ns ≡ []
none_left [] is = refl
none_left (n ∷ ns) is = absurd (omega (arith, is))
