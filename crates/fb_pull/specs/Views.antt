-- The facts that a pull reads of a database value.
-- Datomic, Pull and Database Filters.
use Rattle.std.specs.Prelude.{◌≡◌}
use Rattle.fb_values.specs.declared.facts.Datom.{Datom}
use Rattle.fb_values.specs.declared.indexes.Order.TheVariants.{Eavt}
use Rattle.fb_model.specs.Facts.{facts as facts_of}
use Rattle.fb_model.specs.Rising.{IsRisingListOf}
use Rattle.view_model.specs.View.{InView}
use Rattle.fb_db.specs.declared.db.Db.{Db}
use Rattle.fb_db.specs.Seen.{window_of}
use Rattle.pull_model.specs.Found as model

-- these are the facts of the history, and the list of what the database value sees,
-- where `Selects` says which datoms its filter selects
pub record Sees {S : Type 0} (db : Db S) (Selects : Datom → Type 0)
    (facts : model.Db) : Type 0 where
  pub schema_is : facts.schema ≡ facts_of db.snapshot.entries
  pub seen_is : IsRisingListOf Eavt facts.seen
      (InView db.snapshot.entries (window_of db) Selects)
