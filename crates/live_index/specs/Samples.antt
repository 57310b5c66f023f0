-- The datoms of the tests.
-- This project's own choice.
use Rattle.std.specs.Prelude.{◌≡◌, ◌%◌, Bool, not, nat_eq, ℕ, List, Contains}
use Rattle.fb_values.specs.declared.facts.Datom.{Datom}
use Rattle.fb_values.specs.declared.indexes.Order.{Order}
use Rattle.fb_values.specs.Rising.{IsRising}

-- a transaction of the tests adds, but for every fourth t
abbrev pub adds : ℕ → Bool
adds t = not (nat_eq (t % 4) 3)

-- so no two datoms differ in that alone
abbrev pub AreSamples : List Datom → Type 0
AreSamples ds = (d : Datom) → Contains ds d → d.added ≡ adds d.t

-- and they may rise
abbrev pub AreRisingSamples : Order → List Datom → Type 0
AreRisingSamples order ds = IsRising order ds × AreSamples ds
