-- The lists of the three maps: in order, and with exactly what holds.
use Rattle.std.proofs.Common.{◌≡◌, ℕ, zero, suc, arith, Bool, true, false, cond, List, [], ◌∷◌, map, None, refl, ap, sym, ◌∙◌, subst, inl}
use Rattle.std.proofs.Common.{inr, ◌⊎◌}
use Rattle.std.specs.Prelude.{◌↔◌, filter, Contains, IsTrue}
use Rattle.std.specs.Ordering.{nat_cmp, ordering_then}
use Rattle.std.specs.Cmp.{IsTotalOrder, nat_cmp_total, on_total, then_total}
use Rattle.std.specs.declared.cmp.Ordering.{Ordering}
use Rattle.std.specs.declared.cmp.Ordering.TheVariants.{Less, Equal, Greater}
use Rattle.std.specs.BTreeMap.{BTreeMap, IsOrdered, get}
use Rattle.std.proofs.lemmas.Map.Views.{btree_map_get_iff}
use Rattle.std.proofs.lemmas.Map.Lookups.{CmpEqualImpliesEq}
use Rattle.fb_values.specs.declared.facts.Datom.{Datom}
use Rattle.fb_values.specs.declared.facts.Entry.{Entry}
use Rattle.fb_values.specs.declared.facts.Value.{Value}
use Rattle.fb_values.specs.declared.indexes.Order.{Order}
use Rattle.fb_values.specs.declared.indexes.Order.TheVariants.{Eavt, Aevt, Vaet}
use Rattle.std.specs.List.{AllByRecursion as ByRecursion}
use Rattle.std.specs.List.Sorted.{IsStrictlySortedBy}
use Rattle.std.specs.Map.{keys_of}
use Rattle.fb_values.specs.Orders.{value_cmp, key_cmp}
use Rattle.fb_values.specs.OrderLaws.{value_cmp_total, value_cmp-IsAntisymmetric}
use Rattle.std.specs.FinMap.{nat_cmp-IsAntisymmetric}
use Rattle.fb_values.specs.Rising.{IsBelowAll, IsRising}
use Rattle.fb_values.proofs.Rising.{rises_from}
use Rattle.fb_model.specs.Facts.{standing, facts}
use Rattle.fb_model.proofs.InOrder.{one_rising_list}
use Rattle.fb_model.proofs.Members.{standing_added}
use Rattle.fb_facts.specs.FactLists.{facts_in}
use Rattle.fb_facts.proofs.Lists.{facts_in-rising}
use Rattle.held_facts.specs.declared.fact_maps.FactMaps.{FactMaps}
use Rattle.held_facts.specs.FactMaps.{place_cmp, content_cmp, t_after, HasFacts, fact_of_entity, fact_of_attribute, fact_of_value}
use Rattle.held_facts.specs.FactMaps.{facts_by_entity, facts_by_attribute, facts_by_value}
use Rattle.held_facts.proofs.Holding.{fact, stands, told_stands}

-- ---- a list that rises from a list that rises

stands_filtered : (order : Order) (p : Datom → Bool) (x : Datom) (ds : List Datom) → IsBelowAll order x ds
    → IsBelowAll order x (filter p ds)
stands_filtered order p x [] before = tt
stands_filtered order p x (y ∷ ds) before = go (p y) (stands_filtered order p x ds before.1)
  where
    go : (b : Bool) → IsBelowAll order x (filter p ds) → IsBelowAll order x (cond b (y ∷ filter p ds) (filter p ds))
    go false rest = rest
    go true rest = (before.0, rest)

pub rising_filtered : (order : Order) (p : Datom → Bool) (ds : List Datom) → IsRising order ds → IsRising order (filter p ds)
rising_filtered order p [] rising = tt
rising_filtered order p (x ∷ ds) rising = go (p x) (rising_filtered order p ds rising.1)
  where
    go : (b : Bool) → IsRising order (filter p ds) → IsRising order (cond b (x ∷ filter p ds) (filter p ds))
    go false rest = rest
    go true rest = (stands_filtered order p x ds rising.0, rest)

-- a list that rises and has the facts that pass is the one that the history tells
pub is_told : (h : List Entry) (order : Order) (passes : Datom → Bool) (ds : List Datom) → IsRising order ds
    → ((d : Datom) → Contains ds d ↔ (Contains (facts h) d × IsTrue (passes d))) → ds ≡ facts_in order passes h
is_told h order passes ds rising members =
    let told = facts_in-rising h order passes in
    one_rising_list order ds (facts_in order passes h) (rises_from order ds rising) told.rising
    (λ d member. (told.members d).1 ((members d).0 member))
    (λ d member. (members d).1 ((told.members d).0 member))

-- ---- the orders of the maps

then_Equal : (r s : Ordering) → ordering_then r s ≡ Equal → (r ≡ Equal) × (s ≡ Equal)
then_Equal Less s is = absurd (cc)
then_Equal Equal s is = (refl, is)
then_Equal Greater s is = absurd (cc)

nat_exact : (m n : ℕ) → nat_cmp m n ≡ Equal → m ≡ n
nat_exact m n is = nat_cmp-IsAntisymmetric m n is

same_place : (e f a b : ℕ) (v w : Value) → e ≡ f → a ≡ b → v ≡ w → ◌≡◌ {A = ℕ × ℕ × Value} (e, a, v) (f, b, w)
same_place e f a b v w is_e is_a is_v = cc

same_content : (a b e f : ℕ) (v w : Value) → v ≡ w → a ≡ b → e ≡ f → ◌≡◌ {A = Value × ℕ × ℕ} (v, a, e) (w, b, f)
same_content a b e f v w is_v is_a is_e = cc

pub place_exact : CmpEqualImpliesEq place_cmp
place_exact x y is =
    let outer = then_Equal (ordering_then (nat_cmp x.0 y.0) (nat_cmp x.1 y.1)) (value_cmp x.2 y.2) is in
    let inner = then_Equal (nat_cmp x.0 y.0) (nat_cmp x.1 y.1) outer.0 in
    let one = nat_exact x.0 y.0 inner.0 in
    let two = nat_exact x.1 y.1 inner.1 in
    let three = value_cmp-IsAntisymmetric x.2 y.2 outer.1 in
    same_place x.0 y.0 x.1 y.1 x.2 y.2 one two three

pub content_exact : CmpEqualImpliesEq content_cmp
content_exact x y is =
    let outer = then_Equal (ordering_then (value_cmp x.0 y.0) (nat_cmp x.1 y.1)) (nat_cmp x.2 y.2) is in
    let inner = then_Equal (value_cmp x.0 y.0) (nat_cmp x.1 y.1) outer.0 in
    let one = value_cmp-IsAntisymmetric x.0 y.0 inner.0 in
    let two = nat_exact x.1 y.1 inner.1 in
    let three = nat_exact x.2 y.2 outer.1 in
    same_content x.1 y.1 x.2 y.2 x.0 y.0 one two three

pub place_total : IsTotalOrder place_cmp
place_total =
    then_total (then_total (on_total (λ t. t.0) nat_cmp_total) (on_total (λ t. t.1) nat_cmp_total)) (on_total (λ t. t.2) value_cmp_total)

content_total : IsTotalOrder content_cmp
content_total =
    then_total (then_total (on_total (λ t. t.0) value_cmp_total) (on_total (λ t. t.1) nat_cmp_total)) (on_total (λ t. t.2) nat_cmp_total)

-- ---- members of any list

pub contains-cons : {X : Type 0} (x : X) (xs : List X) (y : X) → Contains (x ∷ xs) y → (x ≡ y) ⊎ Contains xs y
contains-cons x xs y (zero, within, is) = inl is
contains-cons x xs y (suc k, within, is) = inr (k, omega arith, is)

pub contains_head : {X : Type 0} (x : X) (xs : List X) (y : X) → x ≡ y → Contains (x ∷ xs) y
contains_head x xs y is = (0, omega arith, is)

pub contains_tail : {X : Type 0} (x : X) (xs : List X) (y : X) → Contains xs y → Contains (x ∷ xs) y
contains_tail x xs y (k, within, is) = (suc k, omega arith, is)

pub contains_none : {X : Type 0} (y : X) → Contains [] y → ⊥
contains_none y (k, within, is) = omega arith

-- ---- what the maps have

module _ {X : Type 0} (f : X → Datom) where
  shown : (es : List X) (d : Datom) → Contains (map f es) d → (p : X) × Contains es p × (f p ≡ d)
  shown [] d member = absurd (contains_none d member)
  shown (x ∷ es) d member =
      elim (contains-cons (f x) (map f es) d member) [
        | inl same ↦ (x, contains_head x es x refl, same)
        | inr later ↦ let found = shown es d later in (found.0, contains_tail x es found.0 found.1, found.2)
      ]

  shows : (es : List X) (p : X) → Contains es p → Contains (map f es) (f p)
  shows [] p member = absurd (contains_none p member)
  shows (x ∷ es) p member =
      elim (contains-cons x es p member) [
        | inl same ↦ contains_head (f x) (map f es) (f p) (ap f same)
        | inr later ↦ contains_tail (f x) (map f es) (f p) (shows es p later)
      ]

added_fact : (d : Datom) → d.added ≡ true → fact d.e d.a d.v d.t true ≡ d
added_fact d added = ap (λ b. fact d.e d.a d.v d.t b) (sym added)

-- a map whose entries show facts, and whose keys are made from their triples
module _ {K : Type 0} (cmp : K → K → Ordering) (total : IsTotalOrder cmp) (exact : CmpEqualImpliesEq cmp)
    (shows_as : K × ℕ → Datom) (key : ℕ → ℕ → Value → K)
    (keyed : (p : K × ℕ) → key (shows_as p).e (shows_as p).a (shows_as p).v ≡ p.0)
    (is_fact : (p : K × ℕ) → shows_as p ≡ fact (shows_as p).e (shows_as p).a (shows_as p).v p.1 true)
    (shown_fact : (e a : ℕ) (v : Value) (t : ℕ) → shows_as (key e a v, t) ≡ fact e a v t true) where
  has_standing : (ds : List Datom) (m : BTreeMap K ℕ) → IsOrdered cmp m
      → ((e a : ℕ) (v : Value) → get cmp m (key e a v) ≡ t_after None ds e a v) → (d : Datom)
      → Contains (map shows_as m.entries) d ↔ Contains (standing ds) d
  has_standing ds m ordered has d = (
    λ member.
        let p = shown shows_as m.entries d member in
        let x = shows_as p.0 in
        let got = (btree_map_get_iff total exact m ordered p.0.0 p.0.1).1 p.1 in
        let left = sym (has x.e x.a x.v) ∙ ap (get cmp m) (keyed p.0) ∙ got in
        subst (λ z. Contains (standing ds) z) (sym (is_fact p.0) ∙ p.2) (told_stands ds x.e x.a x.v p.0.1 left),
    λ member.
        let got = has d.e d.a d.v ∙ stands ds None d member in
        let there = (btree_map_get_iff total exact m ordered (key d.e d.a d.v) d.t).0 got in
        subst (λ z. Contains (map shows_as m.entries) z) (shown_fact d.e d.a d.v d.t ∙ added_fact d (standing_added ds d member))
        (shows shows_as m.entries (key d.e d.a d.v, d.t) there),
  )

pub by_entity_members : (ds : List Datom) (kept : FactMaps) → HasFacts ds kept → (d : Datom)
    → Contains (facts_by_entity kept) d ↔ Contains (standing ds) d
by_entity_members ds kept has =
    has_standing place_cmp place_total place_exact fact_of_entity (λ e a v. (e, a, v)) (λ p. refl) (λ p. refl)
    (λ e a v t. refl) ds kept.by_entity has.entities_ordered has.by_entity

pub by_attribute_members : (ds : List Datom) (kept : FactMaps) → HasFacts ds kept → (d : Datom)
    → Contains (facts_by_attribute kept) d ↔ Contains (standing ds) d
by_attribute_members ds kept has =
    has_standing place_cmp place_total place_exact fact_of_attribute (λ e a v. (a, e, v)) (λ p. refl) (λ p. refl)
    (λ e a v t. refl) ds kept.by_attribute has.attributes_ordered has.by_attribute

pub by_value_members : (ds : List Datom) (kept : FactMaps) → HasFacts ds kept → (d : Datom)
    → Contains (facts_by_value kept) d ↔ Contains (standing ds) d
by_value_members ds kept has =
    has_standing content_cmp content_total content_exact fact_of_value (λ e a v. (v, a, e)) (λ p. refl) (λ p. refl)
    (λ e a v t. refl) ds kept.by_value has.values_ordered has.by_value

-- ---- in order

first_three : (r s u w : Ordering) → ordering_then (ordering_then r s) u ≡ Less
    → ordering_then r (ordering_then s (ordering_then u w)) ≡ Less
first_three Less s u w is = refl
first_three Equal Less u w is = refl
first_three Equal Equal Less w is = refl
first_three Equal Equal Equal w is = absurd (cc)
first_three Equal Equal Greater w is = absurd (cc)
first_three Equal Greater u w is = absurd (cc)
first_three Greater s u w is = absurd (cc)

entity_below : (p q : (ℕ × ℕ × Value) × ℕ) → place_cmp p.0 q.0 ≡ Less → key_cmp Eavt (fact_of_entity p) (fact_of_entity q) ≡ Less
entity_below p q is =
    first_three (nat_cmp p.0.0 q.0.0) (nat_cmp p.0.1 q.0.1) (value_cmp p.0.2 q.0.2) (ordering_then (nat_cmp p.1 q.1) Equal) is

attribute_below : (p q : (ℕ × ℕ × Value) × ℕ) → place_cmp p.0 q.0 ≡ Less → key_cmp Aevt (fact_of_attribute p) (fact_of_attribute q) ≡ Less
attribute_below p q is =
    first_three (nat_cmp p.0.0 q.0.0) (nat_cmp p.0.1 q.0.1) (value_cmp p.0.2 q.0.2) (ordering_then (nat_cmp p.1 q.1) Equal) is

value_below : (p q : (Value × ℕ × ℕ) × ℕ) → content_cmp p.0 q.0 ≡ Less → key_cmp Vaet (fact_of_value p) (fact_of_value q) ≡ Less
value_below p q is =
    first_three (value_cmp p.0.0 q.0.0) (nat_cmp p.0.1 q.0.1) (nat_cmp p.0.2 q.0.2) (ordering_then (nat_cmp p.1 q.1) Equal) is

module _ {K : Type 0} (cmp : K → K → Ordering) (order : Order) (f : K × ℕ → Datom)
    (below : (p q : K × ℕ) → cmp p.0 q.0 ≡ Less → key_cmp order (f p) (f q) ≡ Less) where
  before_all : (p : K × ℕ) (es : List (K × ℕ)) → ByRecursion (λ y. cmp p.0 y ≡ Less) (keys_of es) → IsBelowAll order (f p) (map f es)
  before_all p [] is = tt
  before_all p (q ∷ es) is = (below p q is.0, before_all p es is.1)

  sorted_rises : (es : List (K × ℕ)) → IsStrictlySortedBy cmp (keys_of es) → IsRising order (map f es)
  unfolding IsStrictlySortedBy
  sorted_rises [] is = tt
  sorted_rises (p ∷ es) is = (before_all p es is.0, sorted_rises es is.1)

pub by_entity_rises : (kept : FactMaps) → IsOrdered place_cmp kept.by_entity → IsRising Eavt (facts_by_entity kept)
by_entity_rises kept ordered = sorted_rises place_cmp Eavt fact_of_entity entity_below kept.by_entity.entries ordered

pub by_attribute_rises : (kept : FactMaps) → IsOrdered place_cmp kept.by_attribute → IsRising Aevt (facts_by_attribute kept)
by_attribute_rises kept ordered = sorted_rises place_cmp Aevt fact_of_attribute attribute_below kept.by_attribute.entries ordered

pub by_value_rises : (kept : FactMaps) → IsOrdered content_cmp kept.by_value → IsRising Vaet (facts_by_value kept)
by_value_rises kept ordered = sorted_rises content_cmp Vaet fact_of_value value_below kept.by_value.entries ordered
