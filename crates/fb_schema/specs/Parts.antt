-- An attribute as the program has it, and the facts of an entity that may be one.
-- Datomic, Schema.
use Rattle.std.specs.Prelude.{ℕ, List, Option}
use Rattle.fb_values.specs.declared.facts.Datom.{Datom}
use Rattle.fb_numbers.specs.Numbers.{ident, value_type, cardinality, unique, is_component, index}
use Rattle.fb_model.specs.Schema as model
use Rattle.fb_schema.specs.declared.attribute.Attribute.{Attribute}
use Rattle.fb_schema.specs.declared.description.Description.{Description}

-- the attribute of the definitions
abbrev pub model_attribute : Attribute → model.Attribute
model_attribute attribute =
    record {
      id = attribute.id;
      name = attribute.ident;
      kind = attribute.kind;
      many = attribute.many;
      uniqueness = attribute.unique;
      component = attribute.component;
      indexed = attribute.indexed;
    }

-- what facts say of the entity
abbrev pub description_of : List Datom → ℕ → Description
description_of facts e =
    record {
      name = model.keyword_of facts e ident;
      kind = model.entity_of facts e value_type;
      count = model.entity_of facts e cardinality;
      unique = model.entity_of facts e unique;
      component = model.truth_of facts e is_component;
      indexed = model.truth_of facts e index;
    }

-- the attribute that it describes
abbrev pub attribute_from : ℕ → Description → Option model.Attribute
attribute_from e said =
    model.attribute_from e said.name said.kind said.count said.unique said.component said.indexed
