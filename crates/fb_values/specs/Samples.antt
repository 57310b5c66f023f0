-- Short names for datoms and probes in worked examples.
-- This project's own choice.
use Rattle.std.specs.Prelude.{ℕ, true, Option, None}
use Rattle.fb_values.specs.declared.facts.Value.{Value}
use Rattle.fb_values.specs.declared.facts.Datom.{Datom}
use Rattle.fb_values.specs.declared.indexes.Order.{Order}
use Rattle.fb_values.specs.declared.indexes.Probe.{Probe}

-- an addition
abbrev pub datom : ℕ → ℕ → Value → ℕ → Datom
datom e a v t = record { e = e; a = a; v = v; t = t; added = true }

-- without a t
abbrev pub probe : Order → Option ℕ → Option ℕ → Option Value → Probe
probe order e a v = record { order = order; e = e; a = a; v = v; t = None }
