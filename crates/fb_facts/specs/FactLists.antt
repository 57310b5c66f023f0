-- The lists of a history's facts, each in the order of an index.
-- Datomic, Indexes (EAVT for the facts of an entity,
-- AEVT for those of an attribute, VAET for what refers to an entity).
use Rattle.std.specs.Prelude.{ℕ, Bool, List, map, filter, nat_eq}
use Rattle.fb_values.specs.declared.facts.Datom.{Datom}
use Rattle.fb_values.specs.declared.facts.Entry.{Entry}
use Rattle.fb_values.specs.declared.facts.Value.{Value}
use Rattle.fb_values.specs.declared.facts.Value.TheVariants.{Ref}
use Rattle.fb_values.specs.declared.indexes.Order.{Order}
use Rattle.fb_values.specs.declared.indexes.Order.TheVariants.{Eavt, Aevt, Vaet}
use Rattle.fb_model.specs.Rising.{in_order}
use Rattle.fb_model.specs.Facts.{value_eq, facts}
use Rattle.fb_model.specs.Schema.{is_about}

-- the facts of a history that pass a test, in the order
abbrev pub facts_in : Order → (Datom → Bool) → List Entry → List Datom
facts_in order passes h = in_order order (filter passes (facts h))

-- the values of an entity under an attribute, each above the one before it
abbrev pub values_of : List Entry → ℕ → ℕ → List Value
values_of h e a = map (λ d. d.v) (facts_in Eavt (is_about e a) h)

abbrev pub is_of_entity : ℕ → Datom → Bool
is_of_entity e d = nat_eq d.e e

-- the facts of an entity
abbrev pub facts_of : List Entry → ℕ → List Datom
facts_of h e = facts_in Eavt (is_of_entity e) h

abbrev pub is_ref_to : ℕ → Datom → Bool
is_ref_to e d = value_eq d.v (Ref e)

-- the facts whose value is an entity
abbrev pub refs_to : List Entry → ℕ → List Datom
refs_to h e = facts_in Vaet (is_ref_to e) h

abbrev pub is_under : ℕ → Datom → Bool
is_under a d = nat_eq d.a a

-- the facts of an attribute
abbrev pub facts_under : List Entry → ℕ → List Datom
facts_under h a = facts_in Aevt (is_under a) h
