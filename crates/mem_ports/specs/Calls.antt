-- The calls of an object in memory: how many were made, how many failed, and which are made to fail.
-- This project's own choice.
use Rattle.std.specs.Prelude.{◌==◌, ℕ, Bool, List}
use Rattle.std.specs.List.{list_any}
use Rattle.io_faults.specs.Faults.{raised}

pub record Calls : Type 0 where
  pub fails : List ℕ
  pub made : ℕ
  pub faults : ℕ

-- no call was made
abbrev pub no_calls : List ℕ → Calls
no_calls fails = record { fails = fails; made = 0; faults = 0 }

-- whether the next call is made to fail, as its number, from 1, is listed
abbrev pub fails_next : Calls → Bool
fails_next c = list_any (λ n. n == raised c.made) c.fails

-- a call was made
abbrev pub after_call : Calls → Calls
after_call c = record c { made = raised c.made }

-- a call was made, and failed
abbrev pub after_fault : Calls → Calls
after_fault c = record c { made = raised c.made; faults = raised c.faults }
