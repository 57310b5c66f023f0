-- What a line says: its forms, and whether a fault ends it.
-- EDN, edn-format: "General considerations". That a fault ends its line alone is this project's own
-- choice; docs/LIVE.md, "A line is a script".
use Rattle.std.specs.Prelude.{ℕ, List}
use Rattle.edn_model.specs.Form.{Form}
use Rattle.edn_model.specs.Grammar.{OnlyGap}
use Rattle.edn_model.specs.Faults.{Fault, FaultAt}
use Rattle.talk_model.specs.Script.{FormsBetween}

-- what follows the forms
pub data Ending : Type 0 where
  -- the end of the line
  whole : Ending
  -- a fault, and its byte in the line
  fault : Fault → ℕ → Ending

-- from this place on
abbrev pub EndsAt : List ℕ → ℕ → Ending → Type 0
EndsAt line at whole = OnlyGap line at
EndsAt line at (fault what byte) = FaultAt line at what byte

pub record Says (line : List ℕ) (fs : List Form) (ending : Ending) : Type 0 where
  pub end : ℕ
  pub forms : FormsBetween line 0 fs end
  pub ends : EndsAt line end ending

-- the line begins with these forms, whatever it goes on with
pub record SaysFirst (line : List ℕ) (fs : List Form) : Type 0 where
  pub end : ℕ
  pub forms : FormsBetween line 0 fs end
