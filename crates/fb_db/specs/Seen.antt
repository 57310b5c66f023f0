-- The window of a database value.
-- Datomic, Database Filters (as-of, since, history).
use Rattle.view_model.specs.Window.{Window}
use Rattle.fb_db.specs.declared.db.Db.{Db}

abbrev pub window_of : {S : Type 0} → Db S → Window
window_of db = record { from = db.from; to = db.to; history = db.history }
