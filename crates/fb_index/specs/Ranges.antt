-- The datoms that a probe leads to.
-- Restates Indexes of Datomic's documentation (datoms, by their leading components).
use Rattle.std.specs.Prelude.{Bool, false, not, List, Option, None, Some, filter}
use Rattle.std.specs.Ordering.{is_eq, is_lt}
use Rattle.fb_values.specs.declared.facts.Datom.{Datom}
use Rattle.fb_values.specs.declared.indexes.Probe.{Probe}
use Rattle.fb_values.specs.Orders.{probe_cmp}
use Rattle.fb_search.specs.Places.{is_below}

-- the datom has the probe's leading components
abbrev pub is_led : Probe → Datom → Bool
is_led probe d = is_eq (probe_cmp probe d)

-- those of the list, in its order
abbrev pub led_to : Probe → List Datom → List Datom
led_to probe ds = filter (is_led probe) ds

-- those of the list that are not below the probe
abbrev pub from_probe : Probe → List Datom → List Datom
from_probe probe ds = filter (λ d. not (is_below probe d)) ds

-- the datom comes after all those that the probe leads to
abbrev pub is_above : Probe → Datom → Bool
is_above probe d = is_lt (probe_cmp probe d)

-- those of the list that are not above the probe
abbrev pub upto_probe : Probe → List Datom → List Datom
upto_probe probe ds = filter (λ d. not (is_above probe d)) ds

-- a probe is given, and the datom is above it
abbrev pub is_past : Option Probe → Datom → Bool
is_past None d = false
is_past (Some probe) d = is_above probe d

-- those of the list that are not above the probe, where one is given
abbrev pub within : Option Probe → List Datom → List Datom
within None ds = ds
within (Some probe) ds = upto_probe probe ds
