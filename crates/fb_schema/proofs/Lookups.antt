-- What is asked of the facts that describe is asked of them alone.
use Rattle.std.proofs.Common.{◌≡◌, ℕ, Bool, true, false, cond, ◌&&◌, List, [], ◌∷◌, refl, ap, sym, ◌∙◌, subst, Option, Some, None}
use Rattle.std.specs.Prelude.{filter, nat_eq, nat_le, option_and_then, option_map, is_some}
use Rattle.std.specs.List.{filter_map, cons_option}
use Rattle.std.specs.Option.{option_map_or}
use Rattle.std.proofs.lemmas.Bool.{true≢false, and_parts, eqb-true}
use Rattle.fb_values.specs.declared.facts.Datom.{Datom}
use Rattle.fb_values.specs.declared.facts.Value.TheVariants.{Keyword}
use Rattle.fb_values.specs.declared.indexes.Order.{Order}
use Rattle.fb_values.specs.declared.indexes.Order.TheVariants.{Eavt, Aevt, Avet, Vaet}
use Rattle.fb_numbers.specs.Numbers.{ident, value_type, cardinality, unique, is_component, index}
use Rattle.fb_model.specs.Facts.{value_eq, value_of, least, holder}
use Rattle.fb_model.specs.Schema.{Attribute, Schema, keyword_in, keyword_of, is_attribute, attribute_of, attribute_named, named, covers}
use Rattle.fb_model.specs.Schema.{is_held, schema_in}
use Rattle.fb_model.specs.Rising.{in_order}
use Rattle.fb_schema.specs.Described.{describes}

-- a test that the first one implies may be made before it
filter-within : (p q : Datom → Bool) → ((d : Datom) → p d ≡ true → q d ≡ true) → (ds : List Datom) → filter p (filter q ds) ≡ filter p ds
filter-within p q implies [] = refl
filter-within p q implies (d ∷ ds) = go (filter-within p q implies ds) (q d) refl (p d) refl
  where
    go : filter p (filter q ds) ≡ filter p ds → (b : Bool) → q d ≡ b → (c : Bool) → p d ≡ c
        → filter p (cond b (d ∷ filter q ds) (filter q ds)) ≡ cond c (d ∷ filter p ds) (filter p ds)
    go rest true is c also = rw also (ap (λ l. cond c (d ∷ l) l) rest)
    go rest false is true also = absurd (true≢false (sym (implies d also) ∙ is))
    go rest false is false also = rest

-- the attribute is one that describes
abbrev IsDescribing : ℕ → Type 0
IsDescribing a = (nat_le ident a && nat_le a index) ≡ true

about_describes : (e a : ℕ) → IsDescribing a → (d : Datom) → (nat_eq d.e e && nat_eq d.a a) ≡ true → describes d ≡ true
about_describes e a describing d about =
    subst IsDescribing (sym (eqb-true d.a a (and_parts (nat_eq d.e e) (nat_eq d.a a) about).1)) describing

value_of-described : (ds : List Datom) (e a : ℕ) → IsDescribing a → value_of (filter describes ds) e a ≡ value_of ds e a
value_of-described ds e a describing =
    rw (filter-within (λ d. nat_eq d.e e && nat_eq d.a a) describes (about_describes e a describing) ds) refl

six : {A B : Type 0} (f : A → A → A → A → A → A → B) (a b c d e g a' b' c' d' e' g' : A)
    → a ≡ a' → b ≡ b' → c ≡ c' → d ≡ d' → e ≡ e' → g ≡ g' → f a b c d e g ≡ f a' b' c' d' e' g'
six f a b c d e g a' b' c' d' e' g' p q r s t u = cc

pub attribute_of-described : (ds : List Datom) (e : ℕ) → attribute_of (filter describes ds) e ≡ attribute_of ds e
attribute_of-described ds e =
    let one = value_of-described ds e ident refl in
    let two = value_of-described ds e value_type refl in
    let three = value_of-described ds e cardinality refl in
    let four = value_of-described ds e unique refl in
    let five = value_of-described ds e is_component refl in
    let last = value_of-described ds e index refl in
    simp (one, two, three, four, five, last)

-- what is asked of an entity is asked of its own facts
value_of-own : (ds : List Datom) (e a : ℕ) → value_of (filter (λ d. nat_eq d.e e) ds) e a ≡ value_of ds e a
value_of-own ds e a =
    rw (filter-within (λ d. nat_eq d.e e && nat_eq d.a a) (λ d. nat_eq d.e e)
    (λ d about. (and_parts (nat_eq d.e e) (nat_eq d.a a) about).0) ds) refl

pub attribute_of-own : (ds : List Datom) (e : ℕ) → attribute_of (filter (λ d. nat_eq d.e e) ds) e ≡ attribute_of ds e
attribute_of-own ds e =
    let one = value_of-own ds e ident in
    let two = value_of-own ds e value_type in
    let three = value_of-own ds e cardinality in
    let four = value_of-own ds e unique in
    let five = value_of-own ds e is_component in
    let last = value_of-own ds e index in
    simp (one, two, three, four, five, last)

pub named-described : (ds : List Datom) (name : List ℕ) → named (filter describes ds) name ≡ named ds name
named-described [] name = refl
named-described (d ∷ ds) name = go (named-described ds name) (describes d) refl (nat_eq d.a ident && value_eq d.v (Keyword name)) refl
  where
    describing : (nat_eq d.a ident && value_eq d.v (Keyword name)) ≡ true → describes d ≡ true
    describing is = subst IsDescribing (sym (eqb-true d.a ident (and_parts (nat_eq d.a ident) (value_eq d.v (Keyword name)) is).0)) refl

    go : holder (filter describes ds) ident (Keyword name) ≡ holder ds ident (Keyword name) → (b : Bool)
        → describes d ≡ b → (c : Bool) → (nat_eq d.a ident && value_eq d.v (Keyword name)) ≡ c
        → holder (cond b (d ∷ filter describes ds) (filter describes ds)) ident (Keyword name)
        ≡ cond c (least d.e (holder ds ident (Keyword name))) (holder ds ident (Keyword name))
    go rest true is c also = rw also (ap (λ r. cond c (least d.e r) r) rest)
    go rest false is true also = absurd (true≢false (sym (describing also) ∙ is))
    go rest false is false also = rest

pub attribute_named-described : (ds : List Datom) (name : List ℕ) → attribute_named (filter describes ds) name ≡ attribute_named ds name
attribute_named-described ds name = rw (named-described ds name) (of (named ds name))
  where
    of : (found : Option ℕ) → option_and_then (attribute_of (filter describes ds)) found ≡ option_and_then (attribute_of ds) found
    of None = refl
    of (Some e) = attribute_of-described ds e

pub covers-described : (ds : List Datom) (order : Order) (a : ℕ) → covers (filter describes ds) order a ≡ covers ds order a
covers-described ds Eavt a = refl
covers-described ds Aevt a = refl
covers-described ds Avet a = ap (λ found. option_map_or (is_held Avet) found false) (attribute_of-described ds a)
covers-described ds Vaet a = ap (λ found. option_map_or (is_held Vaet) found false) (attribute_of-described ds a)

-- ---- the whole schema

abbrev the_schema : List Attribute → List (ℕ × List ℕ) → Schema
the_schema attributes names = record { attributes = attributes; names = names }

filter_map-same : {B : Type 0} (f g : Datom → Option B) → ((d : Datom) → f d ≡ g d) → (ds : List Datom) → filter_map f ds ≡ filter_map g ds
filter_map-same f g same [] = refl
filter_map-same f g same (d ∷ ds) =
    ap (λ found. cons_option found (filter_map f ds)) (same d) ∙ ap (cons_option (g d)) (filter_map-same f g same ds)

keyword_of-described : (ds : List Datom) (e : ℕ) → keyword_of (filter describes ds) e ident ≡ keyword_of ds e ident
keyword_of-described ds e = ap (option_and_then keyword_in) (value_of-described ds e ident refl)

-- the name of an entity that is no attribute
abbrev other_name : List Datom → ℕ → Option (ℕ × List ℕ)
other_name facts e = cond (is_attribute facts e) None (option_map (λ (name : List ℕ). (e, name)) (keyword_of facts e ident))

other_name-described : (ds : List Datom) (e : ℕ) → other_name (filter describes ds) e ≡ other_name ds e
other_name-described ds e =
    ap (λ found. cond (is_some found) None (option_map (λ (name : List ℕ). (e, name)) (keyword_of (filter describes ds) e ident)))
    (attribute_of-described ds e)
    ∙ ap (λ name. cond (is_attribute ds e) None (option_map (λ (name : List ℕ). (e, name)) name)) (keyword_of-described ds e)

names_ident : (d : Datom) → nat_eq d.a ident ≡ true → describes d ≡ true
names_ident d is = subst IsDescribing (sym (eqb-true d.a ident is)) refl

pub schema_in-described : (ds : List Datom) → schema_in (filter describes ds) ≡ schema_in ds
schema_in-described ds =
    let named_ones = ap (in_order Eavt) (filter-within (λ d. nat_eq d.a ident) describes names_ident ds) in
    let list = in_order Eavt (filter (λ d. nat_eq d.a ident) ds) in
    let attributes =
    ap (filter_map (λ d. attribute_of (filter describes ds) d.e)) named_ones
    ∙ filter_map-same (λ d. attribute_of (filter describes ds) d.e) (λ d. attribute_of ds d.e) (λ d. attribute_of-described ds d.e) list in
    let names =
    ap (filter_map (λ d. other_name (filter describes ds) d.e)) named_ones
    ∙ filter_map-same (λ d. other_name (filter describes ds) d.e) (λ d. other_name ds d.e) (λ d. other_name-described ds d.e) list in
    both attributes names
  where
    both : {a b : List Attribute} {m n : List (ℕ × List ℕ)} → a ≡ b → m ≡ n → the_schema a m ≡ the_schema b n
    both p q = cc
