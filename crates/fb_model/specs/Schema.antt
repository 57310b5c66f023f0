-- The schema: which entities are attributes,
-- what the facts of each say, and which indexes hold its datoms.
-- Datomic, Schema and Indexes.
use Rattle.std.specs.Prelude.{◌≡◌, ℕ, Bool, true, false, not, ◌&&◌, ◌||◌, List, [], ◌∷◌, filter}
use Rattle.std.specs.Prelude.{filter_map, nat_eq, nat_le, if◌then◌else◌, is_some, Option, Some}
use Rattle.std.specs.Prelude.{None, unwrap_or, option_map, option_and_then}
use Rattle.std.specs.List.{list_any}
use Rattle.std.specs.Option.{option_map_or}
use Rattle.fb_values.specs.declared.facts.Datom.{Datom}
use Rattle.fb_values.specs.declared.facts.Entry.{Entry}
use Rattle.fb_values.specs.declared.facts.Value.{Value}
use Rattle.fb_values.specs.declared.facts.Value.TheVariants.{Keyword, Bool as Boolean, Ref}
use Rattle.fb_values.specs.declared.indexes.Order.{Order}
use Rattle.fb_values.specs.declared.indexes.Order.TheVariants.{Eavt, Aevt, Avet, Vaet}
use Rattle.fb_numbers.specs.Numbers.{ident, value_type, cardinality, unique, is_component, index}
use Rattle.fb_numbers.specs.Numbers.{type_keyword, type_ref, type_uri, cardinality_one}
use Rattle.fb_numbers.specs.Numbers.{cardinality_many, unique_identity, unique_value, user_entity}
use Rattle.fb_model.specs.Words.{local_name, begins_with_one_of, underscore}
use Rattle.fb_model.specs.Rising.{in_order}
use Rattle.fb_model.specs.Facts.{value_of, holder, facts}

-- an installed attribute
pub record Attribute : Type 0 where
  -- its entity
  pub id : ℕ
  -- the keyword that names it
  pub name : List ℕ
  -- the entity of its type
  pub kind : ℕ
  -- an entity may have several values of it
  pub many : Bool
  -- `unique_identity` or `unique_value`, or 0 where two entities may have one value
  pub uniqueness : ℕ
  -- the attribute's values are parts of their entities
  pub component : Bool
  -- the attribute is in the index by value
  pub indexed : Bool

-- ---- from facts

abbrev pub keyword_in : Value → Option (List ℕ)
keyword_in (Keyword text) = Some text
keyword_in v = None

abbrev pub entity_in : Value → Option ℕ
entity_in (Ref e) = Some e
entity_in v = None

abbrev pub truth_in : Value → Bool
truth_in (Boolean b) = b
truth_in v = false

-- what the facts say of the entity, where that is a keyword, an entity or a truth
abbrev pub keyword_of : List Datom → ℕ → ℕ → Option (List ℕ)
keyword_of facts e a = option_and_then keyword_in (value_of facts e a)

abbrev pub entity_of : List Datom → ℕ → ℕ → Option ℕ
entity_of facts e a = option_and_then entity_in (value_of facts e a)

abbrev pub truth_of : List Datom → ℕ → ℕ → Bool
truth_of facts e a = option_map_or truth_in (value_of facts e a) false

-- from an entity's ident, type and cardinality,
-- without which it is no attribute, and what else its facts say
abbrev pub attribute_from : ℕ → Option (List ℕ) → Option ℕ → Option ℕ → Option ℕ → Bool → Bool
    → Option Attribute
attribute_from e (Some name) (Some kind) (Some count) uniqueness component indexed =
    Some (record {
      id = e;
      name = name;
      kind = kind;
      many = nat_eq count cardinality_many;
      uniqueness = unwrap_or uniqueness 0;
      component = component;
      indexed = indexed;
    })
attribute_from e name kind count uniqueness component indexed = None

-- the entity as an attribute
abbrev pub attribute_of : List Datom → ℕ → Option Attribute
attribute_of facts e =
    attribute_from e (keyword_of facts e ident) (entity_of facts e value_type)
    (entity_of facts e cardinality)
    (entity_of facts e unique) (truth_of facts e is_component) (truth_of facts e index)

abbrev pub is_attribute : List Datom → ℕ → Bool
is_attribute facts e = is_some (attribute_of facts e)

-- the entity that a keyword names
abbrev pub named : List Datom → List ℕ → Option ℕ
named facts name = holder facts ident (Keyword name)

-- the attribute that a keyword names
abbrev pub attribute_named : List Datom → List ℕ → Option Attribute
attribute_named facts name = option_and_then (attribute_of facts) (named facts name)

-- ---- what an attribute says

abbrev pub is_many : List Datom → ℕ → Bool
is_many facts a = option_map_or (λ attribute. attribute.many) (attribute_of facts a) false

abbrev pub is_one : List Datom → ℕ → Bool
is_one facts a = option_map_or (λ attribute. not attribute.many) (attribute_of facts a) false

abbrev pub is_unique : List Datom → ℕ → Bool
is_unique facts a =
    option_map_or (λ attribute. not (nat_eq attribute.uniqueness 0)) (attribute_of facts a) false

abbrev pub is_identity : List Datom → ℕ → Bool
is_identity facts a =
    option_map_or (λ attribute. nat_eq attribute.uniqueness unique_identity) (attribute_of facts a)
    false

abbrev pub is_ref : List Datom → ℕ → Bool
is_ref facts a =
    option_map_or (λ attribute. nat_eq attribute.kind type_ref) (attribute_of facts a) false

abbrev pub is_part : List Datom → ℕ → Bool
is_part facts a = option_map_or (λ attribute. attribute.component) (attribute_of facts a) false

-- ---- coverage

-- AVET holds the attributes that are unique or indexed, and VAET those whose values are entities
abbrev pub is_held : Order → Attribute → Bool
is_held Eavt attribute = true
is_held Aevt attribute = true
is_held Avet attribute = not (nat_eq attribute.uniqueness 0) || attribute.indexed
is_held Vaet attribute = nat_eq attribute.kind type_ref

-- the index holds the datoms of the attribute: EAVT and AEVT hold all datoms
abbrev pub covers : List Datom → Order → ℕ → Bool
covers facts Eavt a = true
covers facts Aevt a = true
covers facts order a = option_map_or (is_held order) (attribute_of facts a) false

-- ---- what describes an attribute

-- the datom says something of the entity under the attribute
abbrev pub is_about : ℕ → ℕ → Datom → Bool
is_about e a d = nat_eq d.e e && nat_eq d.a a

-- the datoms say nothing of the entity as an attribute
pub record SaysNothingOf (e : ℕ) (ds : List Datom) : Type 0 where
  pub ident_none : list_any (is_about e ident) ds ≡ false
  pub type_none : list_any (is_about e value_type) ds ≡ false
  pub cardinality_none : list_any (is_about e cardinality) ds ≡ false
  pub unique_none : list_any (is_about e unique) ds ≡ false
  pub component_none : list_any (is_about e is_component) ds ≡ false
  pub index_none : list_any (is_about e index) ds ≡ false

-- ---- the whole schema

-- the attributes, and besides the names of all other entities, each list by the entities' numbers
pub record Schema : Type 0 where
  pub attributes : List Attribute
  pub names : List (ℕ × List ℕ)

abbrev name_of_no_attribute : List Datom → ℕ → Option (ℕ × List ℕ)
name_of_no_attribute facts e =
    if is_attribute facts e then None
    else option_map (λ (name : List ℕ). (e, name)) (keyword_of facts e ident)

abbrev pub schema_in : List Datom → Schema
schema_in facts =
    let named_ones = in_order Eavt (filter (λ d. nat_eq d.a ident) facts) in
    record {
      attributes = filter_map (λ d. attribute_of facts d.e) named_ones;
      names = filter_map (λ d. name_of_no_attribute facts d.e) named_ones;
    }

abbrev pub schema_of : List Entry → Schema
schema_of h = schema_in (facts h)

-- ---- whole attributes

-- what an attribute has to have before it may be installed: it is a user entity with a name
-- of its own, a type and a cardinality; a unique one is no ref, and a component is a ref
abbrev pub is_whole_attribute : Attribute → Bool
is_whole_attribute attribute =
    nat_le (user_entity 1) attribute.id
    && not (begins_with_one_of (underscore ∷ []) (local_name attribute.name))
    && nat_le type_keyword attribute.kind && nat_le attribute.kind type_uri
    && (nat_eq attribute.uniqueness 0
    || ((nat_eq attribute.uniqueness unique_identity || nat_eq attribute.uniqueness unique_value)
    && not (nat_eq attribute.kind type_ref)))
    && (not attribute.component || nat_eq attribute.kind type_ref)

-- the entity has one of the two cardinalities
abbrev has_a_cardinality : List Datom → ℕ → Bool
has_a_cardinality facts e =
    option_map_or (λ count. nat_eq count cardinality_one || nat_eq count cardinality_many)
    (entity_of facts e cardinality) false

abbrev pub is_whole : List Datom → ℕ → Bool
is_whole facts e =
    option_map_or is_whole_attribute (attribute_of facts e) false && has_a_cardinality facts e
