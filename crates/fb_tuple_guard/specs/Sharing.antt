-- What a program stores of unique tuples, and by what it looks for those who share one.
-- This project's own choice.
use Rattle.std.specs.Prelude.{ℕ, Bool, ◌&&◌, List, [], ◌∷◌, map, nat_eq, IsTrue, Contains}
use Rattle.std.specs.Prelude.{Option, Some, None, option_map, option_and_then}
use Rattle.fb_values.specs.declared.facts.Datom.{Datom}
use Rattle.fb_values.specs.declared.facts.Entry.{Entry}
use Rattle.fb_values.specs.declared.facts.Value.{Value}
use Rattle.fb_model.specs.Facts.{value_eq, facts}
use Rattle.fb_model.specs.Schema.{attribute_named}
use Rattle.tx_after.specs.After.{after}
use Rattle.tuple_model.specs.Composite.{attributes_named}
use Rattle.tuple_model.specs.Given.{if_composite}
use Rattle.fb_tuple_guard.specs.declared.unique.Names.{Names}
use Rattle.fb_tuple_guard.specs.declared.tuples.Tuples.{Tuples}

-- ---- composites by the names of their attributes

abbrev pub lists_in : List Names → List (List (List ℕ))
lists_in lists = map (λ names. names.items.items) lists

-- the attribute of the name, if there is one
abbrev pub id_named : List Datom → List ℕ → Option ℕ
id_named facts name = option_map (λ attribute. attribute.id) (attribute_named facts name)

abbrev pub composite_named : List Datom → List (List ℕ) → Option (List ℕ)
composite_named facts names = option_and_then (if_composite facts) (attributes_named facts names)

-- ---- tuples after the changes

abbrev pub facts_after : Tuples → List Datom
facts_after tuples = after tuples.before.now.entries tuples.changes.now

abbrev pub first_of : List Value → Option Value
first_of [] = None
first_of (v ∷ vs) = Some v

-- ---- who has a value

abbrev pub has_value : ℕ → Value → Datom → Bool
has_value a v d = nat_eq d.a a && value_eq d.v v

-- each fact of the history with the value of the attribute is in the list
abbrev pub HasAllWith : List Entry → ℕ → Value → List Datom → Type 0
HasAllWith h a v ds = (d : Datom) → Contains (facts h) d → IsTrue (has_value a v d) → Contains ds d
