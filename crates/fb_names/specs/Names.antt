-- Names of entities as the program has them.
-- Datomic, Schema (entity identifiers).
use Rattle.std.specs.Prelude.{ℕ, ℤ, pos, nat_le, if◌then◌else◌, Option, Some, None}
use Rattle.view_model.specs.Names.{Id, lookup}
use Rattle.read_model.specs.Names.{greatest_number}
use Rattle.fb_names.specs.declared.names.Lookup.{Lookup}

-- the entity that a number names
abbrev pub number_in : ℤ → Option ℕ
number_in (pos n) = if nat_le n greatest_number then Some n else None
number_in z = None

abbrev pub id_of : Lookup → Id
id_of l = lookup l.attribute l.value
