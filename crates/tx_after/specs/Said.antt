-- What describes an entity: its first value under each attribute that does.
-- Datomic, Schema (the attributes of attributes).
use Rattle.std.specs.Prelude.{ℕ, Bool, false, ◌&&◌, ◌||◌, List, nat_eq, is_some, Option}
use Rattle.std.specs.Prelude.{option_and_then}
use Rattle.std.specs.Option.{option_map_or}
use Rattle.fb_values.specs.declared.facts.Datom.{Datom}
use Rattle.fb_numbers.specs.Numbers.{ident, value_type, cardinality, unique, is_component, index}
use Rattle.fb_numbers.specs.Numbers.{cardinality_one, cardinality_many}
use Rattle.fb_model.specs.Facts.{value_of}
use Rattle.fb_model.specs.Schema.{Attribute, attribute_from, keyword_in, entity_in, truth_in}
use Rattle.fb_model.specs.Schema.{is_whole_attribute}
use Rattle.tx_after.specs.declared.said.Said.{Said}

abbrev pub said_of : List Datom → ℕ → Said
said_of facts e =
    record {
      ident = value_of facts e ident;
      value_type = value_of facts e value_type;
      cardinality = value_of facts e cardinality;
      unique = value_of facts e unique;
      is_component = value_of facts e is_component;
      index = value_of facts e index;
    }

-- the entity of which this is said as an attribute
abbrev pub attribute_of : Said → ℕ → Option Attribute
attribute_of said e =
    attribute_from e (option_and_then keyword_in said.ident)
    (option_and_then entity_in said.value_type) (option_and_then entity_in said.cardinality)
    (option_and_then entity_in said.unique) (option_map_or truth_in said.is_component false)
    (option_map_or truth_in said.index false)

abbrev pub has_a_cardinality : Said → Bool
has_a_cardinality said =
    option_map_or (λ count. nat_eq count cardinality_one || nat_eq count cardinality_many)
    (option_and_then entity_in said.cardinality) false

-- it is whole as an attribute
abbrev pub is_whole : Said → ℕ → Bool
is_whole said e =
    option_map_or is_whole_attribute (attribute_of said e) false && has_a_cardinality said

-- something is said that is said of attributes alone
abbrev pub says_attribute : Said → Bool
says_attribute said =
    is_some said.value_type || is_some said.cardinality || is_some said.unique
    || is_some said.is_component || is_some said.index
