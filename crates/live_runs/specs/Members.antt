-- What numbers with prefixes stand for: datoms of a table.
-- This project's own choice.
use Rattle.std.specs.Prelude.{◌≡◌, ◌<◌, false, ℕ, List, length, map, slice_index_or}
use Rattle.fb_values.specs.declared.facts.Datom.{Datom}
use Rattle.fb_values.specs.declared.facts.Value.TheVariants.{Bool as Flag}
use Rattle.fb_values.specs.declared.indexes.Order.{Order}
use Rattle.fb_prefix.specs.Prefixes.{prefix_in}
use Rattle.live_runs.specs.declared.members.Member.{Member}
use Rattle.live_runs.specs.declared.members.Change.{Change}

-- the datom of a number that no table has
abbrev pub nothing : Datom
nothing = record { e = 0; a = 0; v = Flag false; t = 0; added = false }

abbrev pub datom_of : List Datom → ℕ → Datom
datom_of table number = slice_index_or table number nothing

-- the number is one of the table, and the prefix is its datom's
pub record IsMember (order : Order) (table : List Datom) (m : Member) : Type 0 where
  pub within : m.number < length table
  pub prefix_is : m.prefix ≡ prefix_in order (datom_of table m.number)

-- the datom of what has a member, and the datoms of several
abbrev pub datom_by : {X : Type 0} → (X → Member) → List Datom → X → Datom
datom_by member_of table x = datom_of table (member_of x).number

abbrev pub held_by : {X : Type 0} → (X → Member) → List Datom → List X → List Datom
held_by member_of table xs = map (datom_by member_of table) xs

abbrev pub named : List Datom → List Member → List Datom
named table members = held_by (λ m. m) table members

-- what a change adds or removes
abbrev pub changing : Change → Member
changing c = record { prefix = c.prefix; number = c.number }
