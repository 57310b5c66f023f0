-- Scans: the datoms of a view that an index holds, from a range of it, in its order; and the
-- transactions of the log.
-- Datomic, Indexes (datoms, seek-datoms, index-range) and Log API (tx-range).
use Rattle.std.specs.Prelude.{ℕ, Bool, true, not, ◌&&◌, List, filter, nat_eq, nat_le, nat_lt}
use Rattle.std.specs.Prelude.{Option, IsTrue}
use Rattle.std.specs.Option.{option_map_or}
use Rattle.std.specs.Ordering.{is_lt, is_eq, is_gt}
use Rattle.fb_values.specs.Orders.{value_cmp, probe_cmp}
use Rattle.fb_values.specs.declared.facts.Datom.{Datom}
use Rattle.fb_values.specs.declared.facts.Entry.{Entry}
use Rattle.fb_values.specs.declared.facts.Value.{Value}
use Rattle.fb_values.specs.declared.indexes.Order.{Order}
use Rattle.fb_values.specs.declared.indexes.Probe.{Probe}
use Rattle.fb_model.specs.Rising.{in_order, IsRisingListOf}
use Rattle.fb_model.specs.Facts.{facts}
use Rattle.fb_model.specs.Schema.{covers}
use Rattle.view_model.specs.Window.{Window}
use Rattle.view_model.specs.View.{InView, view}

pub data Range : Type 0 where
  -- the datoms that have the probe's leading components
  leading : Probe → Range
  -- the datoms that are not below the probe
  not_below : Probe → Range
  -- the datoms of an attribute, with a value from the first one on and before the second
  between : ℕ → Option Value → Option Value → Range

abbrev pub is_in : Range → Datom → Bool
is_in (leading probe) d = is_eq (probe_cmp probe d)
is_in (not_below probe) d = not (is_gt (probe_cmp probe d))
is_in (between a start end) d =
    nat_eq d.a a
    && option_map_or (λ v. not (is_lt (value_cmp d.v v))) start true
    && option_map_or (λ v. is_lt (value_cmp d.v v)) end true

-- the index holds the datom by the schema of the whole history, and the range has it
abbrev pub is_scanned : List Datom → Order → Range → Datom → Bool
is_scanned facts order range d = covers facts order d.a && is_in range d

-- the answer of a scan: the one strictly rising list of these datoms
abbrev pub IsScan : List Entry → Window → (Datom → Type 0) → Order → Range → List Datom → Type 0
IsScan h w Selects order range ds =
    IsRisingListOf order ds
    (λ d. InView h w Selects d × IsTrue (is_scanned (facts h) order range d))

-- the same, computed, where filters are tests
abbrev pub scan : List Entry → Window → List (Datom → Bool) → Order → Range → List Datom
scan h w filters order range =
    in_order order (filter (is_scanned (facts h) order range) (view h w filters))

-- ---- the log

-- the transactions from t `start` on and before t `end`; the first entry is none
abbrev pub transactions : List Entry → ℕ → ℕ → List Entry
transactions h start end =
    filter (λ entry. nat_le 1 entry.t && nat_le start entry.t && nat_lt entry.t end) h
