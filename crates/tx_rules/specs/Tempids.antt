-- Transactions whose tempids are the entities that are assigned to them.
-- Datomic, Transaction Data (temporary ids, :db/cas).
use Rattle.std.specs.Prelude.{◌≡◌, Bool, true, not, IsTrue}
use Rattle.std.specs.List.{list_all}
use Rattle.tx_model.specs.Asks.{Ask, compares, is_tempid}
use Rattle.tx_model.specs.Tempids.{assigned}
use Rattle.tx_model.specs.Transaction.{Transaction, joined}

-- a cas names an entity of the database, or the transaction
abbrev pub compares_no_tempid : Ask → Bool
compares_no_tempid (compares name attribute old new) = not (is_tempid name)
compares_no_tempid ask = true

pub record HasAssignedTempids (tx : Transaction) : Type 0 where
  pub assigned_ones : tx.names ≡ assigned tx.db (joined tx.asks)
  pub compared_ones : IsTrue (list_all compares_no_tempid (joined tx.asks))
