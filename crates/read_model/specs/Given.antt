-- What a form gives at a place of a command, where an entity may be given by its name:
-- what comes of it once names are looked up.
-- This project's own choice.
use Rattle.std.specs.Prelude.{◌≡◌, ℕ, List, Option, Some, None, Result, Err}
use Rattle.std.specs.Option.{option_map_or}
use Rattle.fb_values.specs.declared.facts.Datom.{Datom}
use Rattle.fb_values.specs.declared.facts.Entry.{Entry}
use Rattle.view_model.specs.Window.{Window}
use Rattle.view_model.specs.Names.{Id}
use Rattle.read_model.specs.Finding.{IsNamed}
use Rattle.read_refusals.specs.declared.reasons.Reason.{Reason}
use Rattle.read_refusals.specs.declared.reasons.Reason.TheVariants.{BadComponent}
use Rattle.read_refusals.specs.declared.reasons.Refusal.{Refusal}

pub data Given (X : Type 0) : Type 0 where
  -- this, as it is
  is : X → Given X
  -- what is made of the entity that the name finds
  by_name : Id → (ℕ → X) → Given X
  -- nothing, for this reason
  wrong : Reason → Given X

abbrev pub refusal : Reason → ℕ → Refusal
refusal reason at = record { reason = reason; at = at }

-- the name found an entity, and what is made of it comes to the answer; or it found none
abbrev pub Follows : {X Y : Type 0}
    → ℕ → (ℕ → X) → (X → Result Y Refusal → Type 0) → Option ℕ → Result Y Refusal → Type 0
Follows at make Next None answer = answer ≡ Err (refusal BadComponent at)
Follows at make Next (Some e) answer = Next (make e) answer

-- what is given at a place comes to the answer, where `Next` says what comes of it; if it is wrong,
-- that is the answer
abbrev pub ReadsGiven : {X Y : Type 0}
    → List Entry → Window → (Datom → Type 0) → ℕ → Given X → (X → Result Y Refusal → Type 0)
    → Result Y Refusal → Type 0
ReadsGiven h w Selects at (is x) Next answer = Next x answer
ReadsGiven h w Selects at (by_name id make) Next answer =
    (found : Option ℕ) × IsNamed h w Selects id found × Follows at make Next found answer
ReadsGiven h w Selects at (wrong reason) Next answer = answer ≡ Err (refusal reason at)

-- the same, computed, where `find` says which entity a name finds
abbrev pub reads : {X Y : Type 0}
    → (Id → Option ℕ) → ℕ → Given X → (X → Result Y Refusal) → Result Y Refusal
reads find at (is x) next = next x
reads find at (by_name id make) next =
    option_map_or (λ e. next (make e)) (find id) (Err (refusal BadComponent at))
reads find at (wrong reason) next = Err (refusal reason at)
