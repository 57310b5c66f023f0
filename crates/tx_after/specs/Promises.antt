-- What an attribute of cardinality one and a unique attribute promise of facts.
-- Datomic, Schema (:db/cardinality, :db/unique).
use Rattle.std.specs.Prelude.{◌≡◌, ℕ, Bool, true, not, ◌&&◌, ◌||◌, List, [], ◌∷◌, nat_eq, nat_le}
use Rattle.std.specs.Prelude.{length}
use Rattle.std.specs.List.{list_all, list_any}
use Rattle.std.specs.BTreeSet.{BTreeSet, contains}
use Rattle.fb_values.specs.Orders.{value_cmp}
use Rattle.fb_values.specs.declared.facts.Datom.{Datom}
use Rattle.fb_values.specs.declared.facts.Value.{Value}
use Rattle.fb_model.specs.Facts.{value_eq, values_of}
use Rattle.fb_model.specs.Laws.{has_no_other_holder}

-- each entity has one value of the attribute at most
abbrev pub gives_one_value : List Datom → ℕ → Bool
gives_one_value facts a =
    list_all (λ d. not (nat_eq d.a a) || nat_le (length (values_of facts d.e d.a)) 1) facts

-- each value of the attribute has one entity at most
abbrev pub gives_one_holder : List Datom → ℕ → Bool
gives_one_holder facts a = list_all (λ d. not (nat_eq d.a a) || has_no_other_holder facts d) facts

-- no two of the facts of an attribute are of one entity
abbrev pub are_of_other_entities : List Datom → Bool
are_of_other_entities [] = true
are_of_other_entities (d ∷ ds) =
    not (list_any (λ other. nat_eq other.e d.e) ds) && are_of_other_entities ds

-- no two have one value
abbrev pub are_of_other_values : List Datom → Bool
are_of_other_values [] = true
are_of_other_values (d ∷ ds) =
    not (list_any (λ other. value_eq other.v d.v) ds) && are_of_other_values ds

-- the set has the values of the datoms
abbrev pub HasValues : BTreeSet Value → List Datom → Type 0
HasValues met ds = (v : Value) → contains value_cmp met v ≡ list_any (λ d. value_eq d.v v) ds
