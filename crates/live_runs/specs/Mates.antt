-- Datoms of one triple of an entity, an attribute and a value.
-- This project's own choice.
use Rattle.std.specs.Prelude.{◌≡◌, ◌<◌, Bool, true, false, ℕ, List, length, Contains, Option, Some, None}
use Rattle.fb_values.specs.declared.facts.Datom.{Datom}
use Rattle.fb_values.specs.declared.indexes.Order.{Order}
use Rattle.fb_values.specs.declared.indexes.Probe.{Probe}
use Rattle.fb_model.specs.Facts.{is_of}
use Rattle.live_runs.specs.Members.{datom_of}

-- the datom is of the same triple as the first one
abbrev pub is_mate : Datom → Datom → Bool
is_mate d x = is_of d.e d.a d.v x

-- the number of a datom of the triple, if the list has one
abbrev pub IsMateIn : List Datom → List Datom → Datom → Option ℕ → Type 0
IsMateIn table ds d None = (x : Datom) → Contains ds x → is_mate d x ≡ false
IsMateIn table ds d (Some number) =
    (number < length table)
    × (Contains ds (datom_of table number) × (is_mate d (datom_of table number) ≡ true))

-- what leads to the first datom of the triple
abbrev pub triple_of : Order → Datom → Probe
triple_of order d = record { order = order; e = Some d.e; a = Some d.a; v = Some d.v; t = None }
