-- Where scans begin and end, by probes.
-- Restates Indexes of Datomic's documentation (datoms, seek-datoms, index-range).
use Rattle.std.specs.Prelude.{◌≡◌, ℕ, Bool, false, not, ◌&&◌, List, IsTrue, Option, None, Some}
use Rattle.std.specs.Ordering.{is_lt}
use Rattle.fb_values.specs.Orders.{probe_cmp}
use Rattle.fb_values.specs.declared.facts.Datom.{Datom}
use Rattle.fb_values.specs.declared.facts.Entry.{Entry}
use Rattle.fb_values.specs.declared.facts.Value.{Value}
use Rattle.fb_values.specs.declared.indexes.Order.{Order}
use Rattle.fb_values.specs.declared.indexes.Order.TheVariants.{Avet}
use Rattle.fb_values.specs.declared.indexes.Probe.{Probe}
use Rattle.fb_search.specs.Places.{is_below}
use Rattle.fb_model.specs.Facts.{facts}
use Rattle.fb_model.specs.Rising.{IsRisingListOf}
use Rattle.fb_model.specs.Schema.{covers}
use Rattle.view_model.specs.Window.{Window}
use Rattle.view_model.specs.View.{InView}
use Rattle.fb_scan.specs.declared.ends.End.{End}
use Rattle.fb_scan.specs.declared.ends.End.TheVariants.{Never, Behind, Before}

-- the datom lies beyond the end
abbrev pub is_past : End → Datom → Bool
is_past Never d = false
is_past (Behind probe) d = is_lt (probe_cmp probe.now d)
is_past (Before probe) d = not (is_below probe.now d)

-- the end is given in the order
abbrev pub IsIn : Order → End → Type 0
IsIn order Never = Unit {0}
IsIn order (Behind probe) = probe.now.order ≡ order
IsIn order (Before probe) = probe.now.order ≡ order

-- the index holds the datom, and it lies from the probe on and not beyond the end
abbrev pub is_met : List Datom → Probe → End → Datom → Bool
is_met facts from end d =
    covers facts from.order d.a && (not (is_below from d) && not (is_past end d))

-- the one rising list of the datoms of a view that a walk meets
abbrev pub IsWalk : List Entry → Window → (Datom → Type 0) → Probe → End → List Datom → Type 0
IsWalk h w Selects from end ds =
    IsRisingListOf from.order ds (λ d. InView h w Selects d × IsTrue (is_met (facts h) from end d))

-- an attribute in AVET, maybe with a value
abbrev pub valued : ℕ → Option Value → Probe
valued a v = record { order = Avet; e = None; a = Some a; v = v; t = None }
