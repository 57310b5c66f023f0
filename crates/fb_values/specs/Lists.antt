-- A list of datoms for each of the four orders.
-- Restates Indexes of Datomic's documentation.
use Rattle.std.specs.Prelude.{List}
use Rattle.fb_values.specs.declared.facts.Datom.{Datom}
use Rattle.fb_values.specs.declared.indexes.Order.{Order}
use Rattle.fb_values.specs.declared.indexes.Order.TheVariants.{Eavt, Aevt, Avet, Vaet}

pub record Lists : Type 0 where
  pub eavt : List Datom
  pub aevt : List Datom
  pub avet : List Datom
  pub vaet : List Datom

abbrev pub list_in : Lists → Order → List Datom
list_in lists Eavt = lists.eavt
list_in lists Aevt = lists.aevt
list_in lists Avet = lists.avet
list_in lists Vaet = lists.vaet
