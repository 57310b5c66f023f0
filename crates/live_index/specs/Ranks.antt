-- Datoms of a table on their way to their places in an order.
-- This project's own choice.
use Rattle.std.specs.Prelude.{◌≡◌, ◌-◌, ◌≤◌, List, drop, length, map, take}
use Rattle.std.specs.List.{All}
use Rattle.fb_values.specs.declared.facts.Datom.{Datom}
use Rattle.fb_values.specs.declared.indexes.Order.{Order}
use Rattle.fb_values.specs.Rising.{IsRising}
use Rattle.live_runs.specs.Members.{IsMember, datom_of}
use Rattle.live_index.specs.declared.gathering.Span.{Span}
use Rattle.live_index.specs.declared.ranked.Ranked.{Ranked}

-- the numbers are of the table
pub record IsSpan (table : List Datom) (span : Span) : Type 0 where
  pub rises : span.from ≤ span.to
  pub within : span.to ≤ length table

abbrev pub span_of : List Datom → Span → List Datom
span_of table span = take (span.to - span.from) (drop span.from table)

-- the table's datom, with its member in the order
pub record IsRanked (order : Order) (table : List Datom) (r : Ranked) : Type 0 where
  pub order_is : r.order ≡ order
  pub member : IsMember order table r.member
  pub datom_is : datom_of table r.member.number ≡ r.datom.now

abbrev pub AreRanked : Order → List Datom → List Ranked → Type 0
AreRanked order table rs = All (IsRanked order table) rs

abbrev pub datoms_of : List Ranked → List Datom
datoms_of rs = map (λ r. r.datom.now) rs

-- and they rise
pub record AreInOrder (order : Order) (table : List Datom) (rs : List Ranked) : Type 0 where
  pub ranked : AreRanked order table rs
  pub rising : IsRising order (datoms_of rs)
