-- What an index holds after a change of the schema that it did not hold before.
-- Datomic, Schema (altering :db/index and :db/unique) and Indexes.
use Rattle.std.specs.Prelude.{ℕ, Bool, not, ◌&&◌, List, [], ◌∷◌, nat_eq, if◌then◌else◌}
use Rattle.fb_values.specs.declared.facts.Datom.{Datom}
use Rattle.fb_values.specs.declared.indexes.Order.{Order}
use Rattle.fb_model.specs.Schema.{covers}
use Rattle.fb_schema.specs.Described.{describes}

-- the index of the order holds the attribute under the second facts, and did not under the first
abbrev pub is_gained : Order → List Datom → List Datom → ℕ → Bool
is_gained order before after a = covers after order a && not (covers before order a)

-- the datom says something of the entity as an attribute, or names it
abbrev pub is_mention_of : ℕ → Datom → Bool
is_mention_of e d = nat_eq d.e e && describes d

-- the datom does so of an entity that passes a test
abbrev pub describes_one : (ℕ → Bool) → Datom → Bool
describes_one passes d = describes d && passes d.e

-- the entities that the datoms describe and that pass the test
abbrev pub described_where : (ℕ → Bool) → List Datom → List ℕ
described_where passes [] = []
described_where passes (d ∷ ds) =
    if describes_one passes d then d.e ∷ described_where passes ds else described_where passes ds
