-- The first entry of every history: the built-in attributes, and the entities that they name.
-- Datomic, Schema, as far as this project has it; which entities there are is its own choice.
use Rattle.std.specs.Prelude.{ℕ, pos, true, List, [], ◌∷◌, ◌++◌, codes}
use Rattle.fb_values.specs.declared.facts.Datom.{Datom}
use Rattle.fb_values.specs.declared.facts.Entry.{Entry}
use Rattle.fb_values.specs.declared.facts.Value.{Value}
use Rattle.fb_values.specs.declared.facts.Value.TheVariants.{Keyword, Ref, Bool, Instant}
use Rattle.fb_numbers.specs.Numbers.{transaction_of, ident, value_type, cardinality, unique}
use Rattle.fb_numbers.specs.Numbers.{is_component, index, doc, tx_instant, type_keyword}
use Rattle.fb_numbers.specs.Numbers.{type_string, type_boolean, type_long, type_ref, type_instant}
use Rattle.fb_numbers.specs.Numbers.{type_uuid, type_symbol, type_uri, cardinality_one}
use Rattle.fb_numbers.specs.Numbers.{cardinality_many, unique_identity, unique_value}

-- the first entry records that the entity has the value
abbrev pub first_datom : ℕ → ℕ → Value → Datom
first_datom e a v = record { e = e; a = a; v = v; t = 0; added = true }

-- the entity has the name
abbrev pub named : ℕ → List ℕ → List Datom
named e name = first_datom e ident (Keyword name) ∷ []

-- the entity is an attribute of this name and type, and an entity has one value of it
abbrev pub attribute : ℕ → List ℕ → ℕ → List Datom
attribute e name kind =
    named e name ++ first_datom e value_type (Ref kind)
    ∷ first_datom e cardinality (Ref cardinality_one) ∷ []

abbrev pub first_attributes : List Datom
first_attributes =
    attribute ident (codes "db/ident") type_keyword
    ++ first_datom ident unique (Ref unique_identity) ∷ []
    ++ attribute value_type (codes "db/valueType") type_ref
    ++ attribute cardinality (codes "db/cardinality") type_ref
    ++ attribute unique (codes "db/unique") type_ref
    ++ attribute is_component (codes "db/isComponent") type_boolean
    ++ attribute index (codes "db/index") type_boolean
    ++ attribute doc (codes "db/doc") type_string
    ++ attribute tx_instant (codes "db/txInstant") type_instant
    ++ first_datom tx_instant index (Bool true) ∷ []

abbrev pub first_names : List Datom
first_names =
    named type_keyword (codes "db.type/keyword")
    ++ named type_string (codes "db.type/string")
    ++ named type_boolean (codes "db.type/boolean")
    ++ named type_long (codes "db.type/long")
    ++ named type_ref (codes "db.type/ref")
    ++ named type_instant (codes "db.type/instant")
    ++ named type_uuid (codes "db.type/uuid")
    ++ named type_symbol (codes "db.type/symbol")
    ++ named type_uri (codes "db.type/uri")
    ++ named cardinality_one (codes "db.cardinality/one")
    ++ named cardinality_many (codes "db.cardinality/many")
    ++ named unique_identity (codes "db.unique/identity")
    ++ named unique_value (codes "db.unique/value")

-- recorded at the beginning of 1970 by transaction 0
abbrev pub first_entry : Entry
first_entry =
    record {
      t = 0;
      instant = pos 0;
      datoms = first_attributes ++ first_names ++ first_datom (transaction_of 0) tx_instant
          (Instant (pos 0)) ∷ [];
    }
