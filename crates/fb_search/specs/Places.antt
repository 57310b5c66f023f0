-- Where a probe falls in a list of datoms.
-- Restates Indexes of Datomic's documentation (a seek begins at the first datom
-- that is not below what was asked).
use Rattle.std.specs.Prelude.{ℕ, ◌+◌, Bool, List, [], ◌∷◌, if◌then◌else◌, Some}
use Rattle.std.specs.Ordering.{is_gt}
use Rattle.fb_values.specs.declared.facts.Datom.{Datom}
use Rattle.fb_values.specs.declared.indexes.Order.{Order}
use Rattle.fb_values.specs.declared.indexes.Probe.{Probe}
use Rattle.fb_values.specs.Orders.{probe_cmp}

-- the datom is below the probe
abbrev pub is_below : Probe → Datom → Bool
is_below probe d = is_gt (probe_cmp probe d)

-- the first place whose datom is not below the probe, or the list's length
abbrev pub place_of : Probe → List Datom → ℕ
place_of probe [] = 0
place_of probe (d ∷ ds) = if is_below probe d then 1 + place_of probe ds else 0

-- the place of one datom in an order
abbrev pub probe_of : Order → Datom → Probe
probe_of order d = record { order = order; e = Some d.e; a = Some d.a; v = Some d.v; t = Some d.t }
