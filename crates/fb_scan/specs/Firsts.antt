-- The first datom of a scan.
-- Restates Indexes of Datomic's documentation (datoms).
use Rattle.std.specs.Prelude.{◌≡◌, ◌⊎◌, List, IsTrue, Option, Some, None}
use Rattle.fb_values.specs.Orders.{key_cmp}
use Rattle.fb_values.specs.declared.facts.Datom.{Datom}
use Rattle.fb_values.specs.declared.facts.Entry.{Entry}
use Rattle.fb_values.specs.declared.indexes.Order.{Order}
use Rattle.std.specs.declared.cmp.Ordering.TheVariants.{Less}
use Rattle.fb_model.specs.Facts.{facts}
use Rattle.view_model.specs.Window.{Window}
use Rattle.view_model.specs.View.{InView}
use Rattle.view_model.specs.Scan.{Range, is_scanned}

-- the scan has the datom
abbrev pub IsRow : List Entry → Window → (Datom → Type 0) → Order → Range → Datom → Type 0
IsRow h w Selects order range d = InView h w Selects d × IsTrue (is_scanned (facts h) order range d)

-- the first row of the scan; none where it has no row
abbrev pub IsFirst : List Entry → Window → (Datom → Type 0) → Order → Range → Option Datom → Type 0
IsFirst h w Selects order range None = (d : Datom) → IsRow h w Selects order range d → ⊥
IsFirst h w Selects order range (Some d) =
    IsRow h w Selects order range d
    × ((other : Datom) → IsRow h w Selects order range other
    → (d ≡ other) ⊎ (key_cmp order d other ≡ Less))
