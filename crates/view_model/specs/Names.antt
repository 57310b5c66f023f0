-- Names of entities in a read: a number, an ident, or a lookup ref.
-- Datomic, Schema (entity identifiers: :db/ident and lookup refs).
use Rattle.std.specs.Prelude.{ℕ, List, Option, Some}
use Rattle.fb_values.specs.declared.facts.Datom.{Datom}
use Rattle.fb_values.specs.declared.facts.Value.{Value}
use Rattle.fb_model.specs.Facts.{holder}
use Rattle.fb_model.specs.Schema.{named}

pub data Id : Type 0 where
  number : ℕ → Id
  -- a keyword without its colon
  ident : List ℕ → Id
  -- a unique attribute and a value
  lookup : ℕ → Value → Id

-- the entity, by the facts of a view without history: a number is itself; of two entities with one
-- name it is the lesser
abbrev pub entity_named : List Datom → Id → Option ℕ
entity_named facts (number n) = Some n
entity_named facts (ident name) = named facts name
entity_named facts (lookup a v) = holder facts a v
