-- Sorted datoms, each of them once, are the datoms in the order; and which of them stand is told by neighbours.
use Rattle.std.proofs.Common.{◌≡◌, ◌∙◌, ℕ, zero, suc, ◌+◌, ◌<◌, ◌⊎◌, inl, inr, Bool, true, false, not, ◌&&◌, ◌||◌, cond, List, [], ◌∷◌}
use Rattle.std.proofs.Common.{◌++◌, length, drop, get_or, refl, sym, ap, subst, arith}
use Rattle.std.specs.Prelude.{Contains, IsPermutation}
use Rattle.std.specs.List.{slice_get, list_any}
use Rattle.std.specs.List.Sorted.{IsSortedBy}
use Rattle.std.specs.Option.{option_map_or}
use Rattle.std.specs.Ordering.{is_lt, is_eq}
use Rattle.std.specs.declared.cmp.Ordering.{Ordering}
use Rattle.std.specs.declared.cmp.Ordering.TheVariants.{Less, Equal, Greater}
use Rattle.std.proofs.lemmas.Bool.{cases_Bool, true≢false}
use Rattle.std.proofs.lemmas.List.Sorted.{Contains-permutation, IsPermutation-sym}
use Rattle.fb_values.specs.declared.facts.Datom.{Datom}
use Rattle.fb_values.specs.declared.indexes.Order.{Order}
use Rattle.fb_values.specs.Orders.{key_cmp}
use Rattle.fb_values.specs.OrderLaws.{key_cmp_total, key_cmp-Equal}
use Rattle.fb_values.specs.Rising.{IsRising}
use Rattle.fb_values.proofs.Rising.{rising_from}
use Rattle.fb_model.specs.Rising.{in_order}
use Rattle.fb_model.specs.Facts.{is_of, standing, is_last_assertion}
use Rattle.fb_model.proofs.Members.{in_order-rises, in_order_member, some_member}
use Rattle.fb_model.proofs.InOrder.{in_order_has}
use Rattle.live_index.specs.Growth.{HasNoTwins, is_twin}
use Rattle.live_index.specs.Halves.{withdrawn}
use Rattle.live_index.specs.Splits.{once, stands_at}
use Rattle.live_index.proofs.Members.{contains-cons, contains_head, contains_tail, contains_none}
use Rattle.live_index.proofs.Growing.{single_part}
use Rattle.live_index.proofs.Halves.{same_list}
use Rattle.live_index.proofs.Together.{before_member, before_all, together}

-- ---- sorted lists

-- no datom is above one behind it
abbrev IsAscending : Order → List Datom → Type 0
IsAscending order [] = Unit {0}
IsAscending order (d ∷ ds) = ((y : Datom) → Contains ds y → is_lt (key_cmp order y d) ≡ false) × IsAscending order ds

not_less_through : (order : Order) (x y z : Datom) → is_lt (key_cmp order y x) ≡ false → is_lt (key_cmp order z y) ≡ false
    → is_lt (key_cmp order z x) ≡ false
not_less_through order x y z first second = go (key_cmp order z x) (key_cmp order x y) refl refl
  where
    go : (o p : Ordering) → key_cmp order z x ≡ o → key_cmp order x y ≡ p → is_lt (key_cmp order z x) ≡ false
    go Less Less is less = let far : key_cmp order z y ≡ Less = (key_cmp_total order).trans z x y is less in absurd (cc)
    go Less Equal is tied =
        let t = key_cmp_total order in
        let far : key_cmp order z y ≡ Less = cc (t.antisymm x z, t.antisymm z y, t.congr x y z tied) in
        absurd (cc)
    go Less Greater is more = let t = key_cmp_total order in let back : key_cmp order y x ≡ Less = cc (t.antisymm y x) in absurd (cc)
    go Equal p is q = rw is refl
    go Greater p is q = rw is refl

one_on : (k : ℕ) → suc k + 1 ≡ suc (k + 1)
one_on k = omega arith

ascending_from : (order : Order) (ds : List Datom) → IsSortedBy (λ x y. is_lt (key_cmp order x y)) ds → IsAscending order ds
ascending_from order [] up = tt
ascending_from order (d ∷ []) up = (λ y there. absurd (contains_none y there), tt)
ascending_from order (d ∷ x ∷ ds) up =
    let rest : IsAscending order (x ∷ ds) =
    ascending_from order
    (x ∷ ds) (λ k e low high. subst (λ (n : ℕ). is_lt (key_cmp order (get_or (d ∷ x ∷ ds) n e) (get_or (x ∷ ds) k e)) ≡ false) (one_on k)
    (up (suc k) e (omega arith) (omega (arith, high)))) in
    let first : is_lt (key_cmp order x d) ≡ false = up 0 d (omega arith) (omega arith) in (
      λ y there. elim (contains-cons x ds y there) [
        | inl same ↦ subst (λ (z : Datom). is_lt (key_cmp order z d) ≡ false) same first
        | inr behind ↦ not_less_through order d x y first (rest.0 y behind)
      ],
      rest,
    )

once_member : (order : Order) (ds : List Datom) (x : Datom) → Contains (once order ds) x → Contains ds x
once_member order [] x there = there
once_member order (d ∷ ds) x there = go (is_twin order d (slice_get ds 0)) there (λ inside. once_member order ds x inside)
  where
    go : (b : Bool) → Contains (cond b (once order ds) (d ∷ once order ds)) x → (Contains (once order ds) x → Contains ds x)
        → Contains (d ∷ ds) x
    go true inside rest = contains_tail d ds x (rest inside)
    go false inside rest = elim (contains-cons d (once order ds) x inside) [
      | inl same ↦ contains_head d ds x same
      | inr behind ↦ contains_tail d ds x (rest behind)
    ]

less_of : (order : Order) (d x : Datom) → is_lt (key_cmp order x d) ≡ false → is_eq (key_cmp order x d) ≡ false → key_cmp order d x ≡ Less
less_of order d x not_less not_same = go (key_cmp order x d) refl not_less not_same
  where
    go : (o : Ordering) → key_cmp order x d ≡ o → is_lt o ≡ false → is_eq o ≡ false → key_cmp order d x ≡ Less
    go Less is lt eq = absurd (true≢false lt)
    go Equal is lt eq = absurd (true≢false eq)
    go Greater is lt eq = cc ((key_cmp_total order).antisymm d x)

less_then_not_less : (order : Order) (d x y : Datom) → key_cmp order d x ≡ Less → is_lt (key_cmp order y x) ≡ false
    → key_cmp order d y ≡ Less
less_then_not_less order d x y less not_less = go (key_cmp order y x) refl not_less
  where
    go : (o : Ordering) → key_cmp order y x ≡ o → is_lt o ≡ false → key_cmp order d y ≡ Less
    go Less is lt = absurd (true≢false lt)
    go Equal is lt = let t = key_cmp_total order in cc (t.congr y x d is, t.antisymm d y, t.antisymm d x)
    go Greater is lt = let t = key_cmp_total order in (t.trans d x y less (cc (t.antisymm x y)))

rising-once : (order : Order) (ds : List Datom) → IsAscending order ds → IsRising order (once order ds)
rising-once order [] up = tt
rising-once order (d ∷ []) up = (tt, tt)
rising-once order (d ∷ x ∷ ds) up = go (is_eq (key_cmp order x d)) refl (rising-once order (x ∷ ds) up.1)
  where
    go : (b : Bool) → is_eq (key_cmp order x d) ≡ b → IsRising order (once order (x ∷ ds)) → IsRising order (once order (d ∷ x ∷ ds))
    go true is rest = rw is rest
    go false is rest =
        let first : key_cmp order d x ≡ Less = less_of order d x (up.0 x (contains_head x ds x refl)) is in
        rw is (
          before_all order d (once order (x ∷ ds)) (λ y there. elim (contains-cons x ds y (once_member order (x ∷ ds) y there)) [
            | inl same ↦ subst (λ (z : Datom). key_cmp order d z ≡ Less) same first
            | inr behind ↦ less_then_not_less order d x y first (up.1.0 y behind)
          ]),
          rest,
        )

-- no datom is lost, since one that the next one repeats is that one
once_has : (order : Order) (ds : List Datom) (x : Datom) → HasNoTwins ds → Contains ds x → Contains (once order ds) x
once_has order [] x single there = there
once_has order (d ∷ []) x single there = there
once_has order (d ∷ y ∷ ds) x single there = go (is_eq (key_cmp order y d)) refl (λ behind. once_has order (y ∷ ds) x rest behind)
  where
    rest : HasNoTwins (y ∷ ds)
    rest = single_part (y ∷ ds) (d ∷ y ∷ ds) (λ z inside. contains_tail d (y ∷ ds) z inside) single

    eq_is : (o : Ordering) → is_eq o ≡ true → o ≡ Equal
    eq_is Less is = absurd (true≢false (sym is))
    eq_is Equal is = refl
    eq_is Greater is = absurd (true≢false (sym is))

    go : (b : Bool) → is_eq (key_cmp order y d) ≡ b → (Contains (y ∷ ds) x → Contains (once order (y ∷ ds)) x)
        → Contains (once order (d ∷ y ∷ ds)) x
    go true is next =
        let same : y ≡ d =
        single y d (contains_tail d (y ∷ ds) y (contains_head y ds y refl)) (contains_head d (y ∷ ds) d refl)
        (key_cmp-Equal order y d (eq_is (key_cmp order y d) is)) in
        rw is (next (elim (contains-cons d (y ∷ ds) x there) [
          | inl first ↦ contains_head y ds x (same ∙ first)
          | inr behind ↦ behind
        ]))
    go false is next =
        rw is (elim (contains-cons d (y ∷ ds) x there) [
          | inl first ↦ contains_head d (once order (y ∷ ds)) x first
          | inr behind ↦ contains_tail d (once order (y ∷ ds)) x (next behind)
        ])

pub once_is : (order : Order) (datoms sorted : List Datom) → HasNoTwins datoms → IsPermutation datoms sorted
    → IsSortedBy (λ x y. is_lt (key_cmp order x y)) sorted → once order sorted ≡ in_order order datoms
once_is order datoms sorted single same up =
    same_list order (once order sorted) (in_order order datoms) (rising-once order sorted (ascending_from order sorted up))
    (rising_from order (in_order order datoms) (in_order-rises order datoms))
    (λ x there. in_order_has order datoms (record { same = λ a b a_in b_in equal. single a b a_in b_in (key_cmp-Equal order a b equal) }) x
    (from_sorted x (once_member order sorted x there)))
    (λ x there. once_has order sorted x (single_part sorted datoms from_sorted single)
    (Contains-permutation datoms sorted x same (in_order_member order datoms x there)))
  where
    from_sorted : (x : Datom) → Contains sorted x → Contains datoms x
    from_sorted x there = Contains-permutation sorted datoms x (IsPermutation-sym datoms sorted same) there

-- ---- a step of the loops

pub drop-at : (ds : List Datom) (i : ℕ) (e : Datom) → i < length ds → drop i ds ≡ get_or ds i e ∷ drop (i + 1) ds
drop-at [] i e within = absurd (omega arith)
drop-at (d ∷ ds) zero e within = refl
drop-at (d ∷ ds) (suc i) e within = let one : suc i + 1 ≡ suc (i + 1) = omega arith in rw one (drop-at ds i e (omega arith))

next-at : (ds : List Datom) (i : ℕ) → slice_get (drop i ds) 0 ≡ slice_get ds i
next-at [] zero = refl
next-at [] (suc i) = refl
next-at (d ∷ ds) zero = refl
next-at (d ∷ ds) (suc i) = next-at ds i

pub once-step : (order : Order) (ds : List Datom) (i : ℕ) (e : Datom) → i < length ds
    → once order (drop i ds) ≡ cond (is_twin order (get_or ds i e) (slice_get ds (i + 1))) (once order (drop (i + 1) ds))
    (get_or ds i e ∷ once order (drop (i + 1) ds))
once-step order ds i e within =
    ap (once order) (drop-at ds i e within)
    ∙ ap (λ o. cond (is_twin order (get_or ds i e) o) (once order (drop (i + 1) ds)) (get_or ds i e ∷ once order (drop (i + 1) ds)))
    (next-at ds (i + 1))

any_is_next : (order : Order) (d : Datom) (ds : List Datom) → IsRising order (d ∷ ds)
    → list_any (is_of d.e d.a d.v) ds ≡ option_map_or (is_of d.e d.a d.v) (slice_get ds 0) false
any_is_next order d [] rising = refl
any_is_next order d (y ∷ ds) rising = go (is_of d.e d.a d.v y) refl (cases_Bool (list_any (is_of d.e d.a d.v) ds))
  where
    go : (b : Bool) → is_of d.e d.a d.v y ≡ b → (list_any (is_of d.e d.a d.v) ds ≡ true) ⊎ (list_any (is_of d.e d.a d.v) ds ≡ false)
        → (is_of d.e d.a d.v y || list_any (is_of d.e d.a d.v) ds) ≡ is_of d.e d.a d.v y
    go true is some = rw is refl
    go false is (inr none) = rw (is, none) refl
    go false is (inl some) =
        let found = some_member (is_of d.e d.a d.v) ds some in
        absurd (true≢false (sym (together order d y found.0 rising.0.0 (before_member order y ds found.0 rising.1.0 found.1) found.2) ∙ is))

rising-drop : (order : Order) (ds : List Datom) (i : ℕ) → IsRising order ds → IsRising order (drop i ds)
rising-drop order ds zero rising = rising
rising-drop order [] (suc i) rising = tt
rising-drop order (x ∷ ds) (suc i) rising = rising-drop order ds i rising.1

stands-next : (order : Order) (ds : List Datom) (i : ℕ) (e : Datom) → IsRising order ds → i < length ds
    → is_last_assertion (get_or ds i e) (drop (i + 1) ds) ≡ stands_at (get_or ds i e) (slice_get ds (i + 1))
stands-next order ds i e rising within =
    ap (λ b. (get_or ds i e).added && not b)
    (any_is_next order (get_or ds i e) (drop (i + 1) ds) (subst (IsRising order) (drop-at ds i e within) (rising-drop order ds i rising))
    ∙ ap (λ o. option_map_or (is_of (get_or ds i e).e (get_or ds i e).a (get_or ds i e).v) o false) (next-at ds (i + 1)))

pub standing-step : (order : Order) (ds : List Datom) (i : ℕ) (e : Datom) → IsRising order ds → i < length ds
    → standing (drop i ds)
    ≡ cond (stands_at (get_or ds i e) (slice_get ds (i + 1))) (get_or ds i e ∷ standing (drop (i + 1) ds)) (standing (drop (i + 1) ds))
standing-step order ds i e rising within =
    ap standing (drop-at ds i e within)
    ∙ ap (λ b. cond b (get_or ds i e ∷ standing (drop (i + 1) ds)) (standing (drop (i + 1) ds))) (stands-next order ds i e rising within)

pub withdrawn-step : (order : Order) (ds : List Datom) (i : ℕ) (e : Datom) → IsRising order ds → i < length ds
    → withdrawn (drop i ds)
    ≡ cond (stands_at (get_or ds i e) (slice_get ds (i + 1))) (withdrawn (drop (i + 1) ds)) (get_or ds i e ∷ withdrawn (drop (i + 1) ds))
withdrawn-step order ds i e rising within =
    ap withdrawn (drop-at ds i e within)
    ∙ ap (λ b. cond b (withdrawn (drop (i + 1) ds)) (get_or ds i e ∷ withdrawn (drop (i + 1) ds))) (stands-next order ds i e rising within)

-- pushed where it passes, or left out
pub pushed_if : (all rest before : List Datom) (d : Datom) (b : Bool) (new : List Datom) → new ≡ cond b (all ++ d ∷ []) all
    → all ++ cond b (d ∷ rest) rest ≡ before → new ++ rest ≡ before
pushed_if all rest before d true new is whole = rw is (append_one all d rest ∙ whole)
  where
    append_one : (xs : List Datom) (y : Datom) (zs : List Datom) → (xs ++ y ∷ []) ++ zs ≡ xs ++ y ∷ zs
    append_one [] y zs = refl
    append_one (x ∷ xs) y zs = ap (λ l. x ∷ l) (append_one xs y zs)
pushed_if all rest before d false new is whole = rw is whole

pub left_if : (all rest before : List Datom) (d : Datom) (b : Bool) (new : List Datom) → new ≡ cond (not b) (all ++ d ∷ []) all
    → all ++ cond b rest (d ∷ rest) ≡ before → new ++ rest ≡ before
left_if all rest before d true new is whole = pushed_if all rest before d false new is whole
left_if all rest before d false new is whole = pushed_if all rest before d true new is whole
