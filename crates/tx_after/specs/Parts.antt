-- Changes by their attributes.
-- This project's own choice.
use Rattle.std.specs.Prelude.{◌≡◌, ℕ, List, [], filter, Vec}
use Rattle.std.specs.Option.{option_map_or}
use Rattle.std.specs.Ordering.{nat_cmp}
use Rattle.std.specs.declared.alloc.Global.{Global}
use Rattle.std.specs.BTreeMap.{BTreeMap, get}
use Rattle.fb_values.specs.declared.facts.Datom.{Datom}
use Rattle.fb_facts.specs.FactLists.{is_under}

-- those that a map has of an attribute
abbrev pub part_at : BTreeMap ℕ (Vec Datom Global) → ℕ → List Datom
part_at parts a = option_map_or (λ (part : Vec Datom Global). part.items) (get nat_cmp parts a) []

-- the map has of each attribute exactly the changes under it
abbrev pub AreByAttribute : BTreeMap ℕ (Vec Datom Global) → List Datom → Type 0
AreByAttribute parts changes = (a : ℕ) → part_at parts a ≡ filter (is_under a) changes
