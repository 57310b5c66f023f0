-- Which facts of a history its schema is: those that name entities and describe attributes.
-- Datomic, Schema.
use Rattle.std.specs.Prelude.{◌≡◌, Bool, ◌&&◌, List, filter, nat_le}
use Rattle.fb_values.specs.declared.facts.Datom.{Datom}
use Rattle.fb_values.specs.declared.facts.Entry.{Entry}
use Rattle.fb_numbers.specs.Numbers.{ident, index}
use Rattle.fb_model.specs.Facts.{facts}

-- the datom gives an entity its ident, or says what it is as an attribute:
-- it is of one of the attributes from ident to index
abbrev pub describes : Datom → Bool
describes d = nat_le ident d.a && nat_le d.a index

-- the facts of the history that describe
abbrev pub described : List Entry → List Datom
described h = filter describes (facts h)

-- the schema is that of the history
abbrev pub SchemaStands : List Datom → List Entry → Type 0
SchemaStands schema h = schema ≡ described h
