-- The name of an entity that a form is in a read.
-- Datomic, Schema (entity identifiers: entity ids, idents and lookup refs), and EDN, edn-format.
use Rattle.std.specs.Prelude.{◌≡◌, ℕ, pos, List, ◌==◌, nat_le, if◌then◌else◌, Option, Some, None}
use Rattle.std.specs.Prelude.{option_map, option_and_then}
use Rattle.edn_model.specs.Form as edn
use Rattle.edn_model.specs.Form.{Form}
use Rattle.fb_values.specs.declared.facts.Datom.{Datom}
use Rattle.fb_values.specs.declared.facts.Entry.{Entry}
use Rattle.fb_model.specs.Facts.{facts}
use Rattle.fb_model.specs.Schema.{Attribute, attribute_named}
use Rattle.tx_model.specs.Asks.{lookup_in}
use Rattle.tx_model.specs.Values.{value_in}
use Rattle.view_model.specs.Window.{Window}
use Rattle.view_model.specs.Names.{Id, number, ident, lookup}
use Rattle.read_model.specs.Finding.{IsNamed}

-- the greatest number that names an entity in a read
abbrev pub greatest_number : ℕ
greatest_number = 9223372036854775807

-- a unique attribute and a value of its type
abbrev pub lookup_by : Form → Attribute → Option Id
lookup_by f attribute =
    if attribute.uniqueness == 0 then None
    else option_map (lookup attribute.id) (value_in attribute.kind f)

abbrev pub lookup_of : List Datom → Option (List ℕ × Form) → Option Id
lookup_of facts None = None
lookup_of facts (Some pair) = option_and_then (lookup_by pair.1) (attribute_named facts pair.0)

-- the name that a form is, by the facts of the whole history, which no filter hides: an integer, a
-- keyword, or a vector of a unique attribute's keyword and a value
abbrev pub id_in : List Datom → Form → Option Id
id_in facts (edn.integer (pos n)) = if nat_le n greatest_number then Some (number n) else None
id_in facts (edn.keyword k) = Some (ident k)
id_in facts (edn.vector fs) = lookup_of facts (lookup_in fs)
id_in facts f = None

-- the entity that the form names in the view; none where it is not a name, or finds no entity
abbrev pub IsFound : List Entry → Window → (Datom → Type 0) → Option Id → Option ℕ → Type 0
IsFound h w Selects None answer = answer ≡ None
IsFound h w Selects (Some id) answer = IsNamed h w Selects id answer

abbrev pub IsEntityOf : List Entry → Window → (Datom → Type 0) → Form → Option ℕ → Type 0
IsEntityOf h w Selects f answer = IsFound h w Selects (id_in (facts h) f) answer
