-- What describes an entity after the changes: the values before that stay, and then the additions.
use Rattle.std.proofs.Common.{◌≡◌, ℕ, suc, ◌≤◌, Bool, true, false, cond, not, ◌&&◌, ◌||◌, List, [], ◌∷◌, ◌++◌, length, map, refl, ap, sym}
use Rattle.std.proofs.Common.{◌∙◌, subst, arith, eqb, leb, Option}
use Rattle.std.specs.Prelude.{filter, is_some}
use Rattle.std.specs.List.{list_any, find}
use Rattle.std.specs.Option.{option_map_or, option_or}
use Rattle.std.proofs.lemmas.Bool.{and_parts, or_parts, eqb-true, leb-true}
use Rattle.fb_values.specs.declared.facts.Datom.{Datom}
use Rattle.fb_values.specs.declared.facts.Entry.{Entry}
use Rattle.fb_values.specs.declared.facts.Value.{Value}
use Rattle.fb_values.specs.declared.indexes.Order.TheVariants.{Eavt}
use Rattle.fb_numbers.specs.Numbers.{ident, value_type, cardinality, unique, is_component, index}
use Rattle.fb_model.specs.History.{said}
use Rattle.fb_model.specs.Rising.{in_order}
use Rattle.fb_model.specs.Facts.{facts, standing, values_of, value_of, is_of}
use Rattle.fb_model.specs.Lawful.{IsLawful}
use Rattle.fb_model.specs.Laws.{keeps_one_value, says_attribute}
use Rattle.fb_model.specs.Schema.{Attribute, attribute_of, is_whole, is_about, is_one}
use Rattle.fb_model.proofs.Members.{are_of_other_triples, filter_twice}
use Rattle.fb_model.proofs.Triples.{standing-append}
use Rattle.fb_model.proofs.Invariants.{lawful-one_value, both_pass, or_true}
use Rattle.fb_model.proofs.SchemaHistories.{builtin_stays}
use Rattle.fb_facts.specs.FactLists as fact_lists
use Rattle.tx_after.specs.After.{after}
use Rattle.tx_after.specs.Said.{said_of, says_attribute as said_says_attribute}
use Rattle.tx_after.specs.Triples.{is_unmentioned, is_added}

-- ---- the changes that stand

pub standing-changes : (cs : List Datom) → are_of_other_triples cs ≡ true → standing cs ≡ filter is_added cs
standing-changes [] apart = refl
standing-changes (c ∷ cs) apart =
    let parts = and_parts _ _ apart in
    ap (λ b. cond (c.added && b) (c ∷ standing cs) (standing cs)) parts.0
    ∙ ap (λ b. cond b (c ∷ standing cs) (standing cs)) (and_true c.added)
    ∙ ap (λ l. cond c.added (c ∷ l) l) (standing-changes cs parts.1)
  where
    and_true : (b : Bool) → (b && true) ≡ b
    and_true true = refl
    and_true false = refl

-- ---- tests one after another

swap_filters : (p q : Datom → Bool) (ds : List Datom) → filter p (filter q ds) ≡ filter q (filter p ds)
swap_filters p q ds = filter_twice p q ds ∙ agree ds ∙ sym (filter_twice q p ds)
  where
    and_swap : (x y : Bool) → (x && y) ≡ (y && x)
    and_swap false false = refl
    and_swap false true = refl
    and_swap true false = refl
    and_swap true true = refl

    agree : (ds : List Datom) → filter (λ d. p d && q d) ds ≡ filter (λ d. q d && p d) ds
    agree [] = refl
    agree (d ∷ ds) =
        ap (λ b. cond b (d ∷ filter (λ d. p d && q d) ds) (filter (λ d. p d && q d) ds)) (and_swap (p d) (q d))
        ∙ ap (λ l. cond (q d && p d) (d ∷ l) l) (agree ds)

about_of : (e a : ℕ) (ds : List Datom) → filter (is_about e a) (filter (fact_lists.is_of_entity e) ds) ≡ filter (is_about e a) ds
about_of e a [] = refl
about_of e a (d ∷ ds) = go (eqb d.e e) refl (about_of e a ds)
  where
    go : (b : Bool) → eqb d.e e ≡ b → filter (is_about e a) (filter (fact_lists.is_of_entity e) ds) ≡ filter (is_about e a) ds
        → filter (is_about e a) (cond b (d ∷ filter (fact_lists.is_of_entity e) ds) (filter (fact_lists.is_of_entity e) ds))
        ≡ cond (b && eqb d.a a) (d ∷ filter (is_about e a) ds) (filter (is_about e a) ds)
    go false is rest = rest
    go true is rest =
        ap (λ b. cond (b && eqb d.a a) (d ∷ filter (is_about e a) (filter (fact_lists.is_of_entity e) ds))
        (filter (is_about e a) (filter (fact_lists.is_of_entity e) ds))) is
        ∙ ap (λ l. cond (eqb d.a a) (d ∷ l) l) rest

-- ---- one fact at most

pub filter-length : (p : Datom → Bool) (ds : List Datom) → length (filter p ds) ≤ length ds
filter-length p [] = omega arith
filter-length p (d ∷ ds) = elim (p d) as (λ b. length (cond b (d ∷ filter p ds) (filter p ds)) ≤ suc (length ds)) [
  | true ↦ omega (arith, filter-length p ds)
  | false ↦ omega (arith, filter-length p ds)
]

pub length-values : (ds : List Datom) → length (map (λ (d : Datom). d.v) ds) ≡ length ds
length-values [] = refl
length-values (d ∷ ds) = ap suc (length-values ds)

none_about : (e a : ℕ) (ds : List Datom) → list_any (is_about e a) ds ≡ false → filter (is_about e a) ds ≡ []
none_about e a [] none = refl
none_about e a (d ∷ ds) none =
    let parts = or_parts _ _ none in
    ap (λ b. cond b (d ∷ filter (is_about e a) ds) (filter (is_about e a) ds)) parts.0 ∙ none_about e a ds parts.1

-- facts that keep one value have one of each entity
pub one_about : (ds : List Datom) (e a : ℕ) → keeps_one_value ds ≡ true → is_one ds a ≡ true → length (filter (is_about e a) ds) ≤ 1
one_about ds e a keeps one = go (list_any (is_about e a) ds) refl
  where
    go : (b : Bool) → list_any (is_about e a) ds ≡ b → length (filter (is_about e a) ds) ≤ 1
    go false none = subst (λ l. length l ≤ 1) (sym (none_about e a ds none)) (omega arith)
    go true some =
        let found = both_pass (λ d. not (is_one ds d.a) || leb (length (values_of ds d.e d.a)) 1) (is_about e a) ds keeps some in
        let about = and_parts _ _ found.passes_q in
        let e_is = eqb-true found.element.e e about.0 in
        let a_is = eqb-true found.element.a a about.1 in
        let short : leb (length (values_of ds found.element.e found.element.a)) 1 ≡ true =
        or_true _ _ (ap (is_one ds) a_is ∙ one) found.passes_p in
        let here : length (values_of ds e a) ≤ 1 =
        leb-true _ _ (subst (λ x. leb (length (values_of ds e x)) 1 ≡ true) a_is
        (subst (λ x. leb (length (values_of ds x found.element.a)) 1 ≡ true) e_is short)) in
        subst (λ n. n ≤ 1) (length-values (filter (is_about e a) ds)) here

short_in_order : (ds : List Datom) → length ds ≤ 1 → in_order Eavt ds ≡ ds
short_in_order [] short = refl
short_in_order (d ∷ []) short = refl
short_in_order (d ∷ x ∷ ds) short = absurd (omega arith)

-- ---- the same first value

-- no change tells of the value
abbrev stays : List Datom → ℕ → ℕ → Value → Bool
stays changes e a v = not (list_any (is_of e a v) changes)

-- the values under an attribute
abbrev values_about : ℕ → ℕ → List Datom → List Value
values_about e a ds = map (λ (d : Datom). d.v) (filter (is_about e a) ds)

abbrev additions : List Datom → ℕ → List Datom
additions changes e = filter is_added (filter (fact_lists.is_of_entity e) changes)

module _ (e a : ℕ) where
  value-append : (xs ys : List Datom) → value_of (xs ++ ys) e a ≡ option_or (value_of xs e a) (value_of ys e a)
  value-append [] ys = refl
  value-append (d ∷ xs) ys = go (is_about e a d) refl (value-append xs ys)
    where
      go : (b : Bool) → is_about e a d ≡ b → value_of (xs ++ ys) e a ≡ option_or (value_of xs e a) (value_of ys e a)
          → value_of (d ∷ xs ++ ys) e a ≡ option_or (value_of (d ∷ xs) e a) (value_of ys e a)
      go true is rest = rw is refl
      go false is rest = rw is rest

  -- the first value of those that stay is the first of which no change tells
  value-untold : (changes ds : List Datom)
      → value_of (filter (is_unmentioned changes) ds) e a ≡ find (stays changes e a) (values_about e a ds)
  value-untold changes [] = refl
  value-untold changes (d ∷ ds) = go (is_about e a d) refl (is_unmentioned changes d) refl (value-untold changes ds)
    where
      same : is_about e a d ≡ true → is_unmentioned changes d ≡ stays changes e a d.v
      same is =
          let about = and_parts (eqb d.e e) (eqb d.a a) is in
          ap (λ n. stays changes n d.a d.v) (eqb-true d.e e about.0)
          ∙ ap (λ n. stays changes e n d.v) (eqb-true d.a a about.1)

      go : (b : Bool) → is_about e a d ≡ b → (c : Bool) → is_unmentioned changes d ≡ c
          → value_of (filter (is_unmentioned changes) ds) e a ≡ find (stays changes e a) (values_about e a ds)
          → value_of (filter (is_unmentioned changes) (d ∷ ds)) e a ≡ find (stays changes e a) (values_about e a (d ∷ ds))
      go true is true unmentioned rest = rw (unmentioned, is, sym (same is) ∙ unmentioned) refl
      go true is false unmentioned rest = rw (unmentioned, is, sym (same is) ∙ unmentioned) rest
      go false is true unmentioned rest = rw (unmentioned, is) rest
      go false is false unmentioned rest = rw (unmentioned, is) rest

module _ (h : List Entry) (changes : List Datom) (e : ℕ) (lawful : IsLawful h)
    (apart : are_of_other_triples changes ≡ true) where
  comes : (a : ℕ) → filter (is_about e a) (additions changes e) ≡ filter (is_about e a) (standing changes)
  comes a =
      swap_filters (is_about e a) is_added (filter (fact_lists.is_of_entity e) changes)
      ∙ ap (filter is_added) (about_of e a changes)
      ∙ swap_filters is_added (is_about e a) changes
      ∙ ap (filter (is_about e a)) (sym (standing-changes changes apart))

  value-added : (a : ℕ) → value_of (additions changes e) e a ≡ value_of (standing changes) e a
  value-added a = rw (comes a) refl

  one_before : (a : ℕ) → is_one (facts h) a ≡ true → length (filter (is_about e a) (facts h)) ≤ 1
  one_before a one = one_about (facts h) e a (lawful-one_value h lawful) one

  -- the first of the values before that stays, or else the first that is added
  pub value_after : (a : ℕ) → is_one (facts h) a ≡ true → (old new : Option Value)
      → old ≡ find (stays changes e a) (fact_lists.values_of h e a) → new ≡ value_of (additions changes e) e a
      → option_or old new ≡ value_of (after h changes) e a
  value_after a one old new old_is new_is =
      ap (λ o. option_or o new)
      (old_is
      ∙ ap (λ ds. find (stays changes e a) (map (λ (d : Datom). d.v) ds))
      (short_in_order (filter (is_about e a) (facts h)) (one_before a one))
      ∙ sym (value-untold e a changes (facts h)))
      ∙ ap (option_or (value_of (filter (is_unmentioned changes) (facts h)) e a)) (new_is ∙ value-added a)
      ∙ sym (value-append e a (filter (is_unmentioned changes) (facts h)) (standing changes))
      ∙ ap (λ ds. value_of ds e a) (sym (standing-append (said h) changes))

-- the attributes that describe have one value of each entity
module _ (h : List Entry) (lawful : IsLawful h) where
  one_of : (a : ℕ) (o : Option Attribute) → attribute_of (facts h) a ≡ o
      → option_map_or (λ (attribute : Attribute). not attribute.many) o false ≡ true → is_one (facts h) a ≡ true
  one_of a o is one = ap (λ x. option_map_or (λ (attribute : Attribute). not attribute.many) x false) is ∙ one

  pub one_ident : is_one (facts h) ident ≡ true
  one_ident = one_of ident _ (builtin_stays ident refl h lawful) refl

  pub one_type : is_one (facts h) value_type ≡ true
  one_type = one_of value_type _ (builtin_stays value_type refl h lawful) refl

  pub one_cardinality : is_one (facts h) cardinality ≡ true
  one_cardinality = one_of cardinality _ (builtin_stays cardinality refl h lawful) refl

  pub one_uniqueness : is_one (facts h) unique ≡ true
  one_uniqueness = one_of unique _ (builtin_stays unique refl h lawful) refl

  pub one_component : is_one (facts h) is_component ≡ true
  one_component = one_of is_component _ (builtin_stays is_component refl h lawful) refl

  pub one_index : is_one (facts h) index ≡ true
  one_index = one_of index _ (builtin_stays index refl h lawful) refl

-- ---- whether something is said of an attribute

value-some : (e a : ℕ) (ds : List Datom) → is_some (value_of ds e a) ≡ list_any (is_about e a) ds
value-some e a [] = refl
value-some e a (d ∷ ds) = go (is_about e a d) refl (value-some e a ds)
  where
    go : (b : Bool) → is_about e a d ≡ b → is_some (value_of ds e a) ≡ list_any (is_about e a) ds
        → is_some (value_of (d ∷ ds) e a) ≡ list_any (is_about e a) (d ∷ ds)
    go true is rest = rw is refl
    go false is rest = rw is rest

any_or : (p q : Datom → Bool) (ds : List Datom) → list_any (λ d. p d || q d) ds ≡ (list_any p ds || list_any q ds)
any_or p q [] = refl
any_or p q (d ∷ ds) = ap (λ b. (p d || q d) || b) (any_or p q ds) ∙ mixed (p d) (q d) (list_any p ds) (list_any q ds)
  where
    mixed : (a b c d : Bool) → ((a || b) || (c || d)) ≡ ((a || c) || (b || d))
    mixed true b c d = refl
    mixed false true true d = refl
    mixed false true false d = refl
    mixed false false c d = refl

any_agree : (p q : Datom → Bool) → ((d : Datom) → p d ≡ q d) → (ds : List Datom) → list_any p ds ≡ list_any q ds
any_agree p q agree [] = refl
any_agree p q agree (d ∷ ds) = ap (λ b. b || list_any p ds) (agree d) ∙ ap (λ b. q d || b) (any_agree p q agree ds)

-- the attributes of attributes, one after another
abbrev is_typed : ℕ → Datom → Bool
is_typed e d = is_about e value_type d || is_about e cardinality d

abbrev is_unique_too : ℕ → Datom → Bool
is_unique_too e d = is_typed e d || is_about e unique d

abbrev is_part_too : ℕ → Datom → Bool
is_part_too e d = is_unique_too e d || is_about e is_component d

abbrev is_any : ℕ → Datom → Bool
is_any e d = is_part_too e d || is_about e index d

one_of_five : (a : ℕ) → (leb value_type a && leb a index)
    ≡ (eqb a value_type || eqb a cardinality || eqb a unique || eqb a is_component || eqb a index)
one_of_five a = grind arith

about_five : (e : ℕ) (d : Datom) → (eqb d.e e && says_attribute d) ≡ is_any e d
about_five e d = go (eqb d.e e)
  where
    go : (b : Bool) → (b && says_attribute d)
        ≡ (b && eqb d.a value_type || b && eqb d.a cardinality || b && eqb d.a unique || b && eqb d.a is_component || b && eqb d.a index)
    go true = one_of_five d.a
    go false = refl

any_five : (e : ℕ) (ds : List Datom) → list_any (λ d. eqb d.e e && says_attribute d) ds
    ≡ (list_any (is_about e value_type) ds || list_any (is_about e cardinality) ds || list_any (is_about e unique) ds
    || list_any (is_about e is_component) ds || list_any (is_about e index) ds)
any_five e ds =
    any_agree (λ d. eqb d.e e && says_attribute d) (is_any e) (about_five e) ds
    ∙ any_or (is_part_too e) (is_about e index) ds
    ∙ ap (λ b. b || list_any (is_about e index) ds)
    (any_or (is_unique_too e) (is_about e is_component) ds
    ∙ ap (λ b. b || list_any (is_about e is_component) ds)
    (any_or (is_typed e) (is_about e unique) ds
    ∙ ap (λ b. b || list_any (is_about e unique) ds) (any_or (is_about e value_type) (is_about e cardinality) ds)))

pub says-said : (e : ℕ) (ds : List Datom)
    → said_says_attribute (said_of ds e) ≡ list_any (λ d. eqb d.e e && says_attribute d) ds
says-said e ds =
    rw (
      value-some e value_type ds,
      value-some e cardinality ds,
      value-some e unique ds,
      value-some e is_component ds,
      value-some e index ds,
    ) (sym (any_five e ds))

-- ---- what is said of an entity is said by its own facts

pub values-own : (ds : List Datom) (e a : ℕ) → values_of (filter (fact_lists.is_of_entity e) ds) e a ≡ values_of ds e a
values-own ds e a = ap (map (λ (d : Datom). d.v)) (about_of e a ds)

value-own : (ds : List Datom) (e a : ℕ) → value_of (filter (fact_lists.is_of_entity e) ds) e a ≡ value_of ds e a
value-own ds e a = rw (about_of e a ds) refl

pub attribute-own : (ds : List Datom) (e : ℕ) → attribute_of (filter (fact_lists.is_of_entity e) ds) e ≡ attribute_of ds e
attribute-own ds e =
    rw (
      value-own ds e ident,
      value-own ds e value_type,
      value-own ds e cardinality,
      value-own ds e unique,
      value-own ds e is_component,
      value-own ds e index,
    ) refl

pub whole-own : (ds : List Datom) (e : ℕ) → is_whole (filter (fact_lists.is_of_entity e) ds) e ≡ is_whole ds e
whole-own ds e = rw (attribute-own ds e, value-own ds e cardinality) refl
