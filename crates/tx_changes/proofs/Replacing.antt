-- What the additions replace, value by value, is what they imply.
use Rattle.std.proofs.Common.{◌≡◌, ℕ, zero, suc, Bool, true, false, cond, not, ◌&&◌, List, [], ◌∷◌, map, refl, ap, sym, ◌∙◌, subst, inl}
use Rattle.std.proofs.Common.{inr}
use Rattle.std.specs.Prelude.{nat_eq, nat_le, flat_map, filter, Contains}
use Rattle.std.specs.List.{All, list_any}
use Rattle.std.proofs.lemmas.Bool.{and_parts, and_from, eqb-true, eq-eqb, leb-true, not-true}
use Rattle.std.proofs.lemmas.List.Elements.{All-contains}
use Rattle.fb_values.specs.declared.facts.Datom.{Datom}
use Rattle.fb_values.specs.declared.facts.Entry.{Entry}
use Rattle.fb_values.specs.declared.facts.Value.{Value}
use Rattle.fb_values.specs.declared.indexes.Order.TheVariants.{Eavt}
use Rattle.fb_model.specs.Facts.{is_of, value_eq, facts, holds}
use Rattle.fb_model.specs.Schema.{is_one, is_about}
use Rattle.fb_model.proofs.Members.{kept, keep}
use Rattle.fb_model.proofs.Triples.{is_of-true, value_eq-refl}
use Rattle.fb_facts.specs.FactLists.{facts_in, values_of}
use Rattle.tx_model.specs.Tempids.{db_of}
use Rattle.tx_model.specs.Changes.{withdrawn, is_replaced, implied}
use Rattle.tx_model.specs.ChangeRules.{at}
use Rattle.tx_model.proofs.Lists.{first_of, which, not_in_none, comes_from, goes_into, image_of, has_image}
use Rattle.tx_asks.specs.declared.triples.Asking.{Asking}
use Rattle.tx_asks.specs.Triples.{is_asking_of, IsAsked, AreAskings}
use Rattle.tx_sweep.specs.Sweep.{value_at, IsHeld, is_asked_upto}
use Rattle.tx_sweep.proofs.Members.{any_of, some_of}
use Rattle.tx_sweep.proofs.Sweeping.{AreTold, all_members, told-by}
use Rattle.tx_changes.specs.Asked.{other_of, others_of, replaced_of}

-- ---- lists by their places

at_map : (f : List Datom → List Datom) → f [] ≡ [] → (lists : List (List Datom)) (place : ℕ) → at (map f lists) place ≡ f (at lists place)
at_map f none [] zero = sym none
at_map f none [] (suc place) = sym none
at_map f none (ds ∷ lists) zero = refl
at_map f none (ds ∷ lists) (suc place) = at_map f none lists place

implied-none : (h : List Entry) → implied (db_of h) [] ≡ []
implied-none h = ap (map (withdrawn (db_of h))) (no_fact (facts h))
  where
    no_fact : (ds : List Datom) → filter (λ d. is_one (facts h) d.a && list_any (is_replaced d) []) ds ≡ []
    no_fact [] = refl
    no_fact (d ∷ ds) = go (is_one (facts h) d.a) (no_fact ds)
      where
        go : (b : Bool) → filter (λ d. is_one (facts h) d.a && list_any (is_replaced d) []) ds ≡ []
            → cond (b && false) (d ∷ filter (λ d. is_one (facts h) d.a && list_any (is_replaced d) []) ds)
            (filter (λ d. is_one (facts h) d.a && list_any (is_replaced d) []) ds) ≡ []
        go true rest = rest
        go false rest = rest

-- ---- one addition

-- another value that the entity has
record IsOther (h : List Entry) (schema : List Datom) (addition x : Asking) : Type 0 where
  fact : Datom
  among : Contains (facts h) fact
  e_is : fact.e ≡ addition.e
  a_is : fact.a ≡ addition.a
  one : is_one schema addition.a ≡ true
  other : value_eq addition.v fact.v ≡ false
  is : value_at addition.place addition.e addition.a fact.v ≡ x

other_is : (addition x : Asking) (v : Value) → Contains (other_of addition v) x
    → (value_eq addition.v v ≡ false) × (value_at addition.place addition.e addition.a v ≡ x)
other_is addition x v member = go (value_eq addition.v v) refl member
  where
    go : (b : Bool) → value_eq addition.v v ≡ b → Contains (cond b [] (value_at addition.place addition.e addition.a v ∷ [])) x
        → (b ≡ false) × (value_at addition.place addition.e addition.a v ≡ x)
    go true same among = absurd (not_in_none x among)
    go false same among = elim (which (value_at addition.place addition.e addition.a v) x [] among) [
      | inl is ↦ (refl, is)
      | inr later ↦ absurd (not_in_none x later)
    ]

replaced_is : AreTold → (h : List Entry) (schema : List Datom) (addition x : Asking) → Contains (replaced_of h schema addition) x
    → IsOther h schema addition x
replaced_is told h schema addition x member = go (is_one schema addition.a) refl member
  where
    go : (b : Bool) → is_one schema addition.a ≡ b → Contains (cond b (others_of addition (values_of h addition.e addition.a)) []) x
        → IsOther h schema addition x
    go false one among = absurd (not_in_none x among)
    go true one among =
        let from = comes_from (other_of addition) (values_of h addition.e addition.a) x among in
        let its = other_is addition x from.source from.made in
        let source = image_of (λ (d : Datom). d.v) (facts_in Eavt (is_about addition.e addition.a) h) from.source from.among in
        let d = source.original in
        let is = ((told h Eavt (is_about addition.e addition.a)).members d).0 source.among in
        let parts = and_parts (nat_eq d.e addition.e) (nat_eq d.a addition.a) is.1 in
        record {
          fact = d;
          among = is.0;
          e_is = eqb-true d.e addition.e parts.0;
          a_is = eqb-true d.a addition.a parts.1;
          one = one;
          other = ap (value_eq addition.v) source.image_is ∙ its.0;
          is = ap (value_at addition.place addition.e addition.a) source.image_is ∙ its.1;
        }

is_replaced_of : AreTold → (h : List Entry) (schema : List Datom) (addition : Asking) (d : Datom) → Contains (facts h) d → d.e ≡ addition.e
    → d.a ≡ addition.a → is_one schema addition.a ≡ true
    → value_eq addition.v d.v ≡ false → Contains (replaced_of h schema addition) (value_at addition.place addition.e addition.a d.v)
is_replaced_of told h schema addition d among e_is a_is one other =
    let listed = ((told h Eavt (is_about addition.e addition.a)).members d).1 (
      among,
      and_from _ _ (eq-eqb d.e addition.e e_is) (eq-eqb d.a addition.a a_is),
    ) in
    let value = has_image (λ (x : Datom). x.v) (facts_in Eavt (is_about addition.e addition.a) h) d listed in
    let x = value_at addition.place addition.e addition.a d.v in
    let here : Contains (other_of addition d.v) x = subst (λ b. Contains (cond b [] (x ∷ [])) x) (sym other) (first_of x []) in
    subst (λ b. Contains (cond b (others_of addition (values_of h addition.e addition.a)) []) x) (sym one)
    (goes_into (other_of addition) (values_of h addition.e addition.a) d.v x value here)

-- ---- all additions

replaces : (d other : Datom) → other.e ≡ d.e → other.a ≡ d.a → value_eq other.v d.v ≡ false → is_replaced d other ≡ true
replaces d other e_is a_is differs =
    and_from (nat_eq other.e d.e && nat_eq other.a d.a) (not (value_eq other.v d.v))
    (and_from (nat_eq other.e d.e) (nat_eq other.a d.a) (eq-eqb other.e d.e e_is) (eq-eqb other.a d.a a_is)) (ap not differs)

pub replaced_are : AreTold → (h : List Entry) (schema : List Datom)
    → ((a : ℕ) → is_one schema a ≡ is_one (facts h) a) → (lists : List (List Datom)) (added : List Asking) → AreAskings lists added
    → AreAskings (map (implied (db_of h)) lists) (flat_map (replaced_of h schema) added)
replaced_are told h schema ones lists added are =
    record {
      asked = all_members (IsAsked (map (implied (db_of h)) lists)) (flat_map (replaced_of h schema) added) asked;
      whole =
          λ place d member. whole place d (subst (λ ds. Contains ds d) (at_map (implied (db_of h)) (implied-none h) lists place) member);
    }
  where
    goes : List Datom → Datom → Bool
    goes ds d = is_one (facts h) d.a && list_any (is_replaced d) ds

    asked : (x : Asking) → Contains (flat_map (replaced_of h schema) added) x → IsAsked (map (implied (db_of h)) lists) x
    asked x member =
        let from = comes_from (replaced_of h schema) added x member in
        let addition = from.source in
        let other = replaced_is told h schema addition x from.made in
        let d = other.fact in
        let first =
        some_of (is_of addition.e addition.a addition.v) (at lists addition.place)
        (All-contains (IsAsked lists) added addition are.asked from.among) in
        let its = is_of-true addition.e addition.a addition.v first.0 first.2 in
        let replaces_it : is_replaced d first.0 ≡ true =
        replaces d first.0 (its.e_is ∙ sym other.e_is) (its.a_is ∙ sym other.a_is) (ap (λ v. value_eq v d.v) its.v_is ∙ other.other) in
        let one : is_one (facts h) d.a ≡ true = ap (is_one (facts h)) other.a_is ∙ sym (ones addition.a) ∙ other.one in
        let passes : (is_one (facts h) d.a && list_any (is_replaced d) (at lists addition.place)) ≡ true =
        and_from _ _ one (any_of (is_replaced d) (at lists addition.place) first.0 first.1 replaces_it) in
        let in_implied =
        has_image (withdrawn (db_of h))
        (filter (λ d. is_one (facts h) d.a && list_any (is_replaced d) (at lists addition.place)) (facts h)) d
        (keep (λ d. is_one (facts h) d.a && list_any (is_replaced d) (at lists addition.place)) (facts h) d other.among passes) in
        let in_list : Contains (at (map (implied (db_of h)) lists) addition.place) (withdrawn (db_of h) d) =
        subst (λ ds. Contains ds (withdrawn (db_of h) d))
        (sym (at_map (implied (db_of h)) (implied-none h) lists addition.place)) in_implied in
        let own : is_of addition.e addition.a d.v (withdrawn (db_of h) d) ≡ true =
        and_from _ _ (and_from _ _ (eq-eqb d.e addition.e other.e_is) (eq-eqb d.a addition.a other.a_is)) (value_eq-refl d.v) in
        let shown : IsAsked (map (implied (db_of h)) lists) (value_at addition.place addition.e addition.a d.v) =
        any_of (is_of addition.e addition.a d.v) (at (map (implied (db_of h)) lists) addition.place) (withdrawn (db_of h) d) in_list own in
        subst (IsAsked (map (implied (db_of h)) lists)) other.is shown

    whole : (place : ℕ) (d : Datom) → Contains (implied (db_of h) (at lists place)) d
        → is_asked_upto place (flat_map (replaced_of h schema) added) d ≡ true
    whole place d member =
        let image =
        image_of (withdrawn (db_of h))
        (filter (λ d. is_one (facts h) d.a && list_any (is_replaced d) (at lists place)) (facts h)) d member in
        let f = image.original in
        let is = kept (λ d. is_one (facts h) d.a && list_any (is_replaced d) (at lists place)) (facts h) f image.among in
        let passes = and_parts (is_one (facts h) f.a) (list_any (is_replaced f) (at lists place)) is.passes in
        let first = some_of (is_replaced f) (at lists place) passes.1 in
        let d2 = first.0 in
        let outer = and_parts (nat_eq d2.e f.e && nat_eq d2.a f.a) (not (value_eq d2.v f.v)) first.2 in
        let numbers = and_parts (nat_eq d2.e f.e) (nat_eq d2.a f.a) outer.0 in
        let there = some_of (λ asking. is_asking_of d2 asking && nat_le asking.place place) added (are.whole place d2 first.1) in
        let x = there.0 in
        let early = and_parts (is_asking_of d2 x) (nat_le x.place place) there.2 in
        let its = is_of-true x.e x.a x.v d2 early.0 in
        let e_is : f.e ≡ x.e = sym (eqb-true d2.e f.e numbers.0) ∙ its.e_is in
        let a_is : f.a ≡ x.a = sym (eqb-true d2.a f.a numbers.1) ∙ its.a_is in
        let other : value_eq x.v f.v ≡ false = ap (λ v. value_eq v f.v) (sym its.v_is) ∙ not-true (value_eq d2.v f.v) outer.1 in
        let one : is_one schema x.a ≡ true = ones x.a ∙ ap (is_one (facts h)) (sym a_is) ∙ passes.0 in
        let made =
        goes_into (replaced_of h schema) added x (value_at x.place x.e x.a f.v) there.1
        (is_replaced_of told h schema x f is.member e_is a_is one other) in
        let shown : is_asked_upto place (flat_map (replaced_of h schema) added) (withdrawn (db_of h) f) ≡ true =
        told-by place (flat_map (replaced_of h schema) added) (withdrawn (db_of h) f) (value_at x.place x.e x.a f.v) made
        (leb-true x.place place early.1) (and_from _ _ (and_from _ _ (eq-eqb f.e x.e e_is) (eq-eqb f.a x.a a_is)) (value_eq-refl f.v)) in
        subst (λ y. is_asked_upto place (flat_map (replaced_of h schema) added) y ≡ true) image.image_is shown

-- ---- what is replaced holds

pub replaced_held : AreTold → (h : List Entry) (schema : List Datom) (added : List Asking)
    → ((h : List Entry) (e a : ℕ) (v : Value) → holds h e a v ≡ list_any (is_of e a v) (facts h))
    → All (IsHeld h) (flat_map (replaced_of h schema) added)
replaced_held told h schema added law = all_members (IsHeld h) (flat_map (replaced_of h schema) added) held
  where
    held : (x : Asking) → Contains (flat_map (replaced_of h schema) added) x → IsHeld h x
    held x member =
        let from = comes_from (replaced_of h schema) added x member in
        let addition = from.source in
        let other = replaced_is told h schema addition x from.made in
        let d = other.fact in
        let own : is_of addition.e addition.a d.v d ≡ true =
        and_from (nat_eq d.e addition.e && nat_eq d.a addition.a) (value_eq d.v d.v)
        (and_from (nat_eq d.e addition.e) (nat_eq d.a addition.a) (eq-eqb d.e addition.e other.e_is) (eq-eqb d.a addition.a other.a_is))
        (value_eq-refl d.v) in
        let one : IsHeld h (value_at addition.place addition.e addition.a d.v) =
        law h addition.e addition.a d.v ∙ any_of (is_of addition.e addition.a d.v) (facts h) d other.among own in
        subst (IsHeld h) other.is one
