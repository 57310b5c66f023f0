-- The four lists over a table of datoms.
-- This project's own choice.
use denote.Ref.{Bor}
use Rattle.std.specs.Prelude.{◌≡◌, ◌-◌, ◌<◌, ℕ, List, [], length, Contains, Option, Some, None}
use Rattle.std.specs.List.{slice_get}
use Rattle.fb_values.specs.declared.facts.Datom.{Datom}
use Rattle.fb_values.specs.declared.indexes.Order.{Order}
use Rattle.fb_values.specs.declared.indexes.Order.TheVariants.{Eavt, Aevt, Avet, Vaet}
use Rattle.fb_values.specs.Lists.{Lists, list_in}
use Rattle.live_runs.specs.Members.{datom_of}
use Rattle.live_runs.specs.Runs.{AreRuns, Layers, runs_datoms}
use Rattle.live_index.specs.declared.orders.Orders.{Orders}
use Rattle.live_index.specs.Halves.{AreHalves, both_lists}

-- the order's list, as numbers of datoms
abbrev pub runs_in : Orders → Order → Layers
runs_in orders Eavt = orders.eavt
runs_in orders Aevt = orders.aevt
runs_in orders Avet = orders.avet
runs_in orders Vaet = orders.vaet

-- the datoms of the four orders
abbrev pub lists_of : List Datom → Orders → Lists
lists_of table orders = record {
  eavt = runs_datoms Eavt table orders.eavt;
  aevt = runs_datoms Aevt table orders.aevt;
  avet = runs_datoms Avet table orders.avet;
  vaet = runs_datoms Vaet table orders.vaet;
}

-- each list is over the table
abbrev pub AreOrders : List Datom → Orders → Type 0
AreOrders table orders = (order : Order) → AreRuns order table (runs_in orders order)

abbrev pub no_lists : Lists
no_lists = record { eavt = []; aevt = []; avet = []; vaet = [] }

-- the datoms of orders that may be lacking
abbrev pub lists_if : List Datom → Option Orders → Lists
lists_if table None = no_lists
lists_if table (Some orders) = lists_of table orders

abbrev pub AreIf : List Datom → Option Orders → Type 0
AreIf table None = Unit {0}
AreIf table (Some orders) = AreOrders table orders

-- orders that are only looked at
abbrev pub looked_at : Option (Bor Orders) → Option Orders
looked_at None = None
looked_at (Some orders) = Some orders.now

-- each datom of the table is in one of the lists
abbrev pub AreUsed : List Datom → Lists → Type 0
AreUsed table lists = (d : Datom) → Contains table d → (order : Order) × Contains (list_in lists order) d

-- the datom of a number, if there is one
abbrev pub numbered : List Datom → Option ℕ → Option Datom
numbered table None = None
numbered table (Some number) = Some (datom_of table number)

abbrev pub IsNumberIf : List Datom → Option ℕ → Type 0
IsNumberIf table None = Unit {0}
IsNumberIf table (Some number) = number < length table

-- the number of the list's last datom, if it has one
pub record IsLastOf (table ds : List Datom) (last : Option ℕ) : Type 0 where
  pub within : IsNumberIf table last
  pub is : numbered table last ≡ slice_get ds (length ds - 1)

-- the two halves over one table, and the last datom in EAVT
pub record AreIndex (table : List Datom) (holding : Orders) (past : Option Orders)
    (last : Option ℕ) : Type 0 where
  pub holding_are : AreOrders table holding
  pub past_are : AreIf table past
  pub halves : (order : Order)
      → AreHalves order (list_in (lists_of table holding) order) (list_in (lists_if table past) order)
  pub used : AreUsed table (both_lists (lists_of table holding) (lists_if table past))
  pub last_is :
      IsLastOf table (list_in (both_lists (lists_of table holding) (lists_if table past)) Eavt) last
