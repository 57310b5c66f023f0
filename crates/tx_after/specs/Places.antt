-- Where the datoms of an entity and those of a triple lie in a list that rises.
-- This project's own choice.
use Rattle.std.specs.Prelude.{ℕ, ◌+◌, Bool, true, ◌&&◌, List, [], ◌∷◌, ◌==◌, nat_lt, nat_le}
use Rattle.std.specs.Prelude.{if◌then◌else◌}
use Rattle.std.specs.List.{list_all}
use Rattle.std.specs.Ordering.{is_lt}
use Rattle.fb_values.specs.declared.facts.Datom.{Datom}
use Rattle.fb_values.specs.declared.facts.Value.{Value}
use Rattle.fb_values.specs.declared.indexes.Order.TheVariants.{Eavt}
use Rattle.tx_after.specs.Triples.{triple_cmp}

-- how many datoms lead the list that are of entities below this one
abbrev pub place_of : ℕ → List Datom → ℕ
place_of e [] = 0
place_of e (d ∷ ds) = if nat_lt d.e e then 1 + place_of e ds else 0

-- the entities do not fall
abbrev pub entities_rise : List Datom → Bool
entities_rise [] = true
entities_rise (d ∷ ds) = list_all (λ other. nat_le d.e other.e) ds && entities_rise ds

-- how many datoms lead the list that are of this entity
abbrev pub front_of : ℕ → List Datom → ℕ
front_of e [] = 0
front_of e (d ∷ ds) = if d.e == e then 1 + front_of e ds else 0

-- the datom is below the triple
abbrev pub is_lower : ℕ → ℕ → Value → Datom → Bool
is_lower e a v d = is_lt (triple_cmp Eavt d (record { e = e; a = a; v = v; t = 0; added = true }))

-- how many datoms lead the list that are of lower triples
abbrev pub triple_place : ℕ → ℕ → Value → List Datom → ℕ
triple_place e a v [] = 0
triple_place e a v (d ∷ ds) = if is_lower e a v d then 1 + triple_place e a v ds else 0
