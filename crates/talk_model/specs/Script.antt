-- A script: the forms that its bytes are, up to the end of the input, the first fault or the
-- greatest number of commands, and which of the three it is.
-- EDN, edn-format: "General considerations". Where a script ends early is this project's own
-- choice.
use Rattle.std.specs.Prelude.{ℕ, ◌≡◌, ◌≤◌, List, [], ◌∷◌, length}
use Rattle.edn_model.specs.Form.{Form}
use Rattle.edn_model.specs.Grammar.{FormAt, OnlyGap}
use Rattle.edn_model.specs.Faults.{Fault, FaultAt}

-- how many commands a script may have
abbrev pub most_commands : ℕ
most_commands = 1000000

-- what follows the forms
pub data Ending : Type 0 where
  -- the end of the input
  whole : Ending
  -- a fault, and its byte
  fault : Fault → ℕ → Ending
  -- one more form than there may be
  too_many : Ending

-- After so many forms, from this place on.
abbrev pub EndsAt : List ℕ → ℕ → ℕ → Ending → Type 0
EndsAt bytes count at whole = OnlyGap bytes at
EndsAt bytes count at (fault what byte) = FaultAt bytes at what byte
EndsAt bytes count at too_many =
    (count ≡ most_commands) × (f : Form) × (next : ℕ) × FormAt bytes at f next

-- from one place on the bytes are these forms, the last of which ends at another place
abbrev pub FormsBetween : List ℕ → ℕ → List Form → ℕ → Type 0
FormsBetween bytes at [] end = end ≡ at
FormsBetween bytes at (f ∷ fs) end =
    (next : ℕ) × FormAt bytes at f next × FormsBetween bytes next fs end

pub record Script (bytes : List ℕ) (fs : List Form) (ending : Ending) : Type 0 where
  pub end : ℕ
  pub forms : FormsBetween bytes 0 fs end
  pub few : length fs ≤ most_commands
  pub ends : EndsAt bytes (length fs) end ending

-- the script begins with these forms, whatever it goes on with
pub record Begins (bytes : List ℕ) (fs : List Form) : Type 0 where
  pub end : ℕ
  pub forms : FormsBetween bytes 0 fs end
  pub few : length fs ≤ most_commands
