-- The table of a live index that is made anew.
-- This project's own choice.
use Rattle.std.specs.Prelude.{◌≡◌, ◌++◌, List, [], filter}
use Rattle.fb_values.specs.declared.facts.Datom.{Datom}
use Rattle.fb_values.specs.declared.indexes.Order.{Order}
use Rattle.fb_values.specs.declared.indexes.Order.TheVariants.{Eavt, Aevt, Avet, Vaet}
use Rattle.fb_values.specs.Lists.{Lists, list_in}
use Rattle.fb_covers.specs.Coverage.{Coverage, StaysIn}
use Rattle.live_index.specs.declared.gathering.Gathered.{Gathered}
use Rattle.live_index.specs.declared.gathering.Span.{Span}
use Rattle.live_index.specs.Growth.{is_held}
use Rattle.live_index.specs.Ranks.{IsSpan, span_of}

-- AVET alone is refilled
abbrev pub refill_in : Order → List Datom → List Datom
refill_in Eavt refill = []
refill_in Aevt refill = []
refill_in Avet refill = refill
refill_in Vaet refill = []

-- what an order has of its own by the coverage
abbrev pub own_in : Coverage → Lists → List Datom → Order → List Datom
own_in coverage lists refill order =
    filter (is_held coverage order) (list_in lists order)
    ++ filter (is_held coverage order) (refill_in order refill)

abbrev pub own_span : Gathered → Order → Span
own_span g Eavt = g.eavt
own_span g Aevt = g.aevt
own_span g Avet = g.avet
own_span g Vaet = g.vaet

-- the orders' own datoms, one order after the other, and then those that come
abbrev pub all_of : Coverage → Lists → List Datom → List Datom → List Datom
all_of coverage lists refill datoms =
    (((([] ++ own_in coverage lists refill Eavt) ++ own_in coverage lists refill Aevt)
    ++ own_in coverage lists refill Avet)
    ++ own_in coverage lists refill Vaet)
    ++ datoms

pub record AreGathered (coverage : Coverage) (lists : Lists) (refill datoms : List Datom)
    (g : Gathered) : Type 0 where
  pub table_is : g.table ≡ all_of coverage lists refill datoms
  pub own : (order : Order) → IsSpan g.table (own_span g order)
  pub coming : IsSpan g.table g.coming
  pub own_is : (order : Order)
      → span_of g.table (own_span g order) ≡ own_in coverage lists refill order
  pub coming_is : span_of g.table g.coming ≡ datoms

-- no datom comes, and each attribute stays in the indexes that hold it
pub record IsSame (before after : Coverage) (datoms refill : List Datom) : Type 0 where
  pub none : datoms ≡ []
  pub none_refill : refill ≡ []
  pub stay : (order : Order) → StaysIn order before after
