-- What the answers of this crate are in the definitions.
-- This project's own choice.
use Rattle.std.specs.Prelude.{◌≡◌, ℕ, List, Result, Ok, Err}
use Rattle.fb_values.specs.declared.facts.Datom.{Datom}
use Rattle.fb_values.specs.declared.facts.Entry.{Entry}
use Rattle.view_model.specs.Window.{Window}
use Rattle.read_refusals.specs.declared.reasons.Refusal.{Refusal}
use Rattle.read_model.specs.Given.{Given, ReadsGiven}
use Rattle.fb_names.specs.declared.stops.NameStop.{NameStop}
use Rattle.fb_names.specs.declared.stops.NameStop.TheVariants.{Refused, Memory}

-- what is given at a place comes to this, or is refused
abbrev pub IsGiven : {X : Type 0} → List Entry → Window → (Datom → Type 0) → ℕ → Given X
    → Result X Refusal → Type 0
IsGiven h w Selects at given answer = ReadsGiven h w Selects at given (λ x done. done ≡ Ok x) answer

-- the answer is one of these, or memory ran out
abbrev pub AnswersAs : {X : Type 0} → (Result X Refusal → Type 0) → Result X NameStop → Type 0
AnswersAs IsAnswer (Ok x) = IsAnswer (Ok x)
AnswersAs IsAnswer (Err (Refused refusal)) = IsAnswer (Err refusal)
AnswersAs IsAnswer (Err Memory) = Unit {0}
