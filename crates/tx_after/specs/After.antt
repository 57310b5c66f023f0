-- What holds after a history with changes that are not recorded yet, and the lists of its facts.
-- Datomic, Transaction Data (a database with a transaction applied)
-- and Indexes (EAVT for an entity, AEVT for an attribute).
use Rattle.std.specs.Prelude.{ℕ, List, ◌++◌, map, filter, nat_eq, IsTrue}
use Rattle.std.specs.List.{list_all}
use Rattle.fb_values.specs.declared.facts.Datom.{Datom}
use Rattle.fb_values.specs.declared.facts.Entry.{Entry}
use Rattle.fb_values.specs.declared.facts.Value.{Value}
use Rattle.fb_values.specs.declared.indexes.Order.TheVariants.{Eavt, Aevt}
use Rattle.fb_values.specs.Rising.{rises}
use Rattle.fb_model.specs.Rising.{in_order}
use Rattle.fb_model.specs.History.{said}
use Rattle.fb_model.specs.Facts.{standing}
use Rattle.fb_model.specs.Schema.{is_about}
use Rattle.fb_facts.specs.FactLists.{is_of_entity, is_under}

-- changes as the entry of a transaction has them: they rise, and all are of one t
pub record AreChanges (changes : List Datom) : Type 0 where
  pub t : ℕ
  pub of_t : IsTrue (list_all (λ d. nat_eq d.t t) changes)
  pub rising : IsTrue (rises Eavt changes)

-- the facts of the history with the changes
abbrev pub after : List Entry → List Datom → List Datom
after h changes = standing (said h ++ changes)

-- those of an entity
abbrev pub facts_of : List Entry → List Datom → ℕ → List Datom
facts_of h changes e = in_order Eavt (filter (is_of_entity e) (after h changes))

-- those of an attribute
abbrev pub facts_under : List Entry → List Datom → ℕ → List Datom
facts_under h changes a = in_order Aevt (filter (is_under a) (after h changes))

-- the values of an entity under an attribute, each above the one before it
abbrev pub values_of : List Entry → List Datom → ℕ → ℕ → List Value
values_of h changes e a = map (λ d. d.v) (in_order Eavt (filter (is_about e a) (after h changes)))
