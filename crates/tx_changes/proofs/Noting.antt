-- The least place of the askings of a triple is the first form that asks it.
use Rattle.std.proofs.Common.{◌≡◌, ℕ, zero, suc, ◌+◌, ◌≤◌, Bool, true, false, cond, ◌&&◌, List, [], ◌∷◌, map, refl, ap, sym, ◌∙◌}
use Rattle.std.proofs.Common.{subst, arith, inl, inr, ◌⊎◌}
use Rattle.std.specs.Prelude.{nat_eq, nat_le, min, Contains, Option, None, Some}
use Rattle.std.specs.List.{list_any}
use Rattle.std.proofs.lemmas.Bool.{true≢false, and_parts, and_from, eqb-true, eq-eqb, leb-true, leb-false}
use Rattle.std.proofs.lemmas.List.Elements.{All-contains}
use Rattle.fb_values.specs.declared.facts.Datom.{Datom}
use Rattle.fb_values.specs.declared.facts.Value.{Value}
use Rattle.fb_model.specs.Facts.{is_of, value_eq, least}
use Rattle.fb_model.proofs.Triples.{value_eq-true, value_eq-refl}
use Rattle.tx_model.specs.Step.{first_yes}
use Rattle.tx_model.specs.ChangeRules.{at}
use Rattle.tx_model.proofs.Lists.{first_of, later_of, which, not_in_none}
use Rattle.tx_asks.specs.declared.triples.Asking.{Asking}
use Rattle.tx_asks.specs.Triples.{is_asking_of, IsAsked, AreAskings, first_asking}
use Rattle.tx_sweep.proofs.Members.{some_of}
use Rattle.tx_changes.specs.Noted.{asks, placed}

-- ---- one triple

pub record IsOne (e a : ℕ) (v : Value) (asking : Asking) : Type 0 where
  pub e_is : asking.e ≡ e
  pub a_is : asking.a ≡ a
  pub v_is : asking.v ≡ v

pub asks-true : (e a : ℕ) (v : Value) (asking : Asking) → asks e a v asking ≡ true → IsOne e a v asking
asks-true e a v asking is =
    let parts = and_parts (nat_eq asking.e e && nat_eq asking.a a) (value_eq asking.v v) is in
    let numbers = and_parts (nat_eq asking.e e) (nat_eq asking.a a) parts.0 in
    record { e_is = eqb-true asking.e e numbers.0; a_is = eqb-true asking.a a numbers.1; v_is = value_eq-true asking.v v parts.1 }

pub true-asks : (e a : ℕ) (v : Value) (asking : Asking) → IsOne e a v asking → asks e a v asking ≡ true
true-asks e a v asking is =
    and_from _ _ (and_from _ _ (eq-eqb asking.e e is.e_is) (eq-eqb asking.a a is.a_is)) (ap (λ w. value_eq w v) is.v_is ∙ value_eq-refl v)

-- ---- the least place

-- an asking of the triple that has this place
abbrev pub Placed : ℕ → ℕ → Value → List Asking → ℕ → Type 0
Placed e a v xs p = (x : Asking) × Contains xs x × (asks e a v x ≡ true) × (x.place ≡ p)

-- some place, and at most this one
abbrev AtMost : Option ℕ → ℕ → Type 0
AtMost o p = (q : ℕ) × (o ≡ Some q) × (q ≤ p)

least_which : (p : ℕ) (found : Option ℕ) (q : ℕ) → least p found ≡ Some q → (p ≡ q) ⊎ (found ≡ Some q)
least_which p None q is = inl (cc)
least_which p (Some r) q is = go (nat_le p r) refl
  where
    same : min p r ≡ q
    same = cc

    go : (b : Bool) → nat_le p r ≡ b → (p ≡ q) ⊎ (Some r ≡ Some q)
    go true le = let lower : p ≤ r = leb-true p r le in inl (omega (arith, lower, same))
    go false gt = let upper = leb-false p r gt in let r_is : r ≡ q = omega (arith, upper, same) in inr (ap Some r_is)

least_most : (p : ℕ) (found : Option ℕ) → AtMost (least p found) p
least_most p None = (p, refl, omega arith)
least_most p (Some r) = (min p r, refl, omega arith)

least_keeps : (p : ℕ) (found : Option ℕ) (r : ℕ) → AtMost found r → AtMost (least p found) r
least_keeps p None r is = absurd (cc (is.1))
least_keeps p (Some s) r is = let same : s ≡ is.0 = cc (is.1) in (min p s, refl, omega (arith, same, is.2))

pub placed_from : (e a : ℕ) (v : Value) (found : Option ℕ) (xs : List Asking) (p : ℕ) → placed e a v found xs ≡ Some p
    → (found ≡ Some p) ⊎ Placed e a v xs p
placed_from e a v found [] p is = inl is
placed_from e a v found (x ∷ xs) p is = go (asks e a v x) refl (placed_from e a v (cond (asks e a v x) (least x.place found) found) xs p is)
  where
    later : Placed e a v xs p → Placed e a v (x ∷ xs) p
    later at_it = (at_it.0, later_of x at_it.0 xs at_it.1, at_it.2, at_it.3)

    go : (b : Bool) → asks e a v x ≡ b → (cond (asks e a v x) (least x.place found) found ≡ Some p) ⊎ Placed e a v xs p
        → (found ≡ Some p) ⊎ Placed e a v (x ∷ xs) p
    go b at_x (inr more) = inr (later more)
    go true at_x (inl now) = elim (least_which x.place found p (sym (ap (λ c. cond c (least x.place found) found) at_x) ∙ now)) [
      | inl here ↦ inr (x, first_of x xs, at_x, here)
      | inr before ↦ inl before
    ]
    go false at_x (inl now) = inl (sym (ap (λ c. cond c (least x.place found) found) at_x) ∙ now)

placed_keeps : (e a : ℕ) (v : Value) (found : Option ℕ) (xs : List Asking) (r : ℕ) → AtMost found r → AtMost (placed e a v found xs) r
placed_keeps e a v found [] r is = is
placed_keeps e a v found (x ∷ xs) r is = placed_keeps e a v (cond (asks e a v x) (least x.place found) found) xs r (go (asks e a v x))
  where
    go : (b : Bool) → AtMost (cond b (least x.place found) found) r
    go true = least_keeps x.place found r is
    go false = is

placed_most : (e a : ℕ) (v : Value) (found : Option ℕ) (xs : List Asking) (x : Asking) → Contains xs x → asks e a v x ≡ true
    → AtMost (placed e a v found xs) x.place
placed_most e a v found [] x among is = absurd (not_in_none x among)
placed_most e a v found (y ∷ xs) x among is =
    elim (which y x xs among) [
      | inl same ↦ placed_keeps e a v (cond (asks e a v y) (least y.place found) found) xs x.place
          (subst (λ z. AtMost (cond (asks e a v y) (least y.place found) found) z.place) same
          (subst (λ b. AtMost (cond b (least y.place found) found) y.place) (sym (subst (λ z. asks e a v z ≡ true) (sym same) is))
          (least_most y.place found)))
      | inr later ↦ placed_most e a v (cond (asks e a v y) (least y.place found) found) xs x later is
    ]

-- ---- the first form

first_at : (test : List Datom → Bool) (n : ℕ) (lists : List (List Datom)) (p : ℕ) → first_yes n (map test lists) ≡ Some p
    → (i : ℕ) × (p ≡ n + i) × (test (at lists i) ≡ true)
first_at test n [] p is = absurd (cc)
first_at test n (list ∷ lists) p is = go (test list) refl is (first_at test (n + 1) lists p)
  where
    go : (b : Bool) → test list ≡ b → cond b (Some n) (first_yes (n + 1) (map test lists)) ≡ Some p
        → (first_yes (n + 1) (map test lists) ≡ Some p → (i : ℕ) × (p ≡ n + 1 + i) × (test (at lists i) ≡ true))
        → (i : ℕ) × (p ≡ n + i) × (test (at (list ∷ lists) i) ≡ true)
    go true holding now next = let same : n ≡ p = cc in (0, omega (arith, same), holding)
    go false no_one now next = let later = next now in (suc later.0, omega (arith, later.1), later.2)

first_most : (test : List Datom → Bool) → test [] ≡ false → (n : ℕ) (lists : List (List Datom)) (i : ℕ) → test (at lists i) ≡ true
    → AtMost (first_yes n (map test lists)) (n + i)
first_most test none n [] i holding = absurd (true≢false (sym holding ∙ past i))
  where
    past : (i : ℕ) → test (at {A = Datom} [] i) ≡ false
    past zero = none
    past (suc i) = none
first_most test none n (list ∷ lists) zero holding = go (test list) holding
  where
    go : (b : Bool) → b ≡ true → AtMost (cond b (Some n) (first_yes (n + 1) (map test lists))) (n + 0)
    go true is = (n, refl, omega arith)
    go false is = absurd (true≢false (sym is))
first_most test none n (list ∷ lists) (suc i) holding = go (test list) (first_most test none (n + 1) lists i holding)
  where
    go : (b : Bool) → AtMost (first_yes (n + 1) (map test lists)) (n + 1 + i)
        → AtMost (cond b (Some n) (first_yes (n + 1) (map test lists))) (n + suc i)
    go true next = (n, refl, omega arith)
    go false next = (next.0, next.1, omega (arith, next.2))

-- the datom is of the triple that the asking is of
same_triple : (e a : ℕ) (v : Value) (d : Datom) (x : Asking) → is_of e a v d ≡ true → is_asking_of d x ≡ true → asks e a v x ≡ true
same_triple e a v d x of asked =
    let parts = and_parts (nat_eq d.e e && nat_eq d.a a) (value_eq d.v v) of in
    let numbers = and_parts (nat_eq d.e e) (nat_eq d.a a) parts.0 in
    let its = and_parts (nat_eq d.e x.e && nat_eq d.a x.a) (value_eq d.v x.v) asked in
    let its_numbers = and_parts (nat_eq d.e x.e) (nat_eq d.a x.a) its.0 in
    true-asks e a v x (record {
      e_is = sym (eqb-true d.e x.e its_numbers.0) ∙ eqb-true d.e e numbers.0;
      a_is = sym (eqb-true d.a x.a its_numbers.1) ∙ eqb-true d.a a numbers.1;
      v_is = sym (value_eq-true d.v x.v its.1) ∙ value_eq-true d.v v parts.1;
    })

-- the least place of an asking is the first form that asks
pub placed_is_first : (lists : List (List Datom)) (xs : List Asking) → AreAskings lists xs → (e a : ℕ) (v : Value)
    → placed e a v None xs ≡ first_asking lists e a v
placed_is_first lists xs are e a v = go (placed e a v None xs) refl (first_asking lists e a v) refl
  where
    test : List Datom → Bool
    test = list_any (is_of e a v)

    -- an asking asks at its place
    at_place : (x : Asking) → Contains xs x → asks e a v x ≡ true → AtMost (first_asking lists e a v) x.place
    at_place x among is =
        let one = asks-true e a v x is in
        let asked = All-contains (IsAsked lists) xs x are.asked among in
        let holding : list_any (is_of e a v) (at lists x.place) ≡ true =
        subst (λ u. list_any (is_of u a v) (at lists x.place) ≡ true) one.e_is
        (subst (λ u. list_any (is_of x.e u v) (at lists x.place) ≡ true) one.a_is
        (subst (λ u. list_any (is_of x.e x.a u) (at lists x.place) ≡ true) one.v_is asked)) in
        let most = first_most (list_any (is_of e a v)) refl 0 lists x.place holding in
        (most.0, most.1, omega (arith, most.2))

    -- the first form's asking is there
    of_first : (p : ℕ) → first_asking lists e a v ≡ Some p → AtMost (placed e a v None xs) p
    of_first p is =
        let first = first_at (list_any (is_of e a v)) 0 lists p is in
        let some = some_of (is_of e a v) (at lists first.0) first.2 in
        let there = some_of (λ asking. is_asking_of some.0 asking && nat_le asking.place first.0) xs (are.whole first.0 some.0 some.1) in
        let parts = and_parts (is_asking_of some.0 there.0) (nat_le there.0.place first.0) there.2 in
        let most = placed_most e a v None xs there.0 there.1 (same_triple e a v some.0 there.0 some.2 parts.0) in
        let low : there.0.place ≤ first.0 = leb-true there.0.place first.0 parts.1 in
        (most.0, most.1, omega (arith, most.2, low, first.1))

    no_found : (o : Option ℕ) (p : ℕ) → None ≡ Some p → ⊥
    no_found o p is = absurd (cc)

    go : (o : Option ℕ) → placed e a v None xs ≡ o → (f : Option ℕ) → first_asking lists e a v ≡ f → o ≡ f
    go None o_is None f_is = refl
    go None o_is (Some p) f_is = let there = of_first p f_is in absurd (cc (there.1, o_is))
    go (Some p) o_is f f_is =
        elim (placed_from e a v None xs p o_is) [
          | inl none ↦ absurd (cc)
          | inr at_it ↦ fit p o_is f f_is (subst (λ q. AtMost (first_asking lists e a v) q) at_it.3 (at_place at_it.0 at_it.1 at_it.2))
        ]
      where
        fit : (p : ℕ) → placed e a v None xs ≡ Some p → (f : Option ℕ) → first_asking lists e a v ≡ f → AtMost (first_asking lists e a v) p
            → Some p ≡ f
        fit p o_is None f_is most = absurd (cc (most.1, f_is))
        fit p o_is (Some q) f_is most =
            let q_is : q ≡ most.0 = cc (most.1, f_is) in
            let there = of_first q f_is in
            let p_is : p ≡ there.0 = cc (there.1, o_is) in
            let same : p ≡ q = omega (arith, q_is, p_is, most.2, there.2) in
            ap Some same
