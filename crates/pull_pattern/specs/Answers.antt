-- What reading a form answers: the pattern or its part, that the form is none, or that memory ran
-- out.
-- This project's own choice.
use Rattle.std.specs.Prelude.{◌≡◌, ℕ, Option, Some, None, Result, Ok, Err}
use Rattle.pull_model.specs.Patterns as model
use Rattle.pull_pattern.specs.declared.patterns.Pattern.{Pattern}
use Rattle.pull_pattern.specs.View.{model_pattern}
use Rattle.pull_pattern.specs.declared.stops.PatternStop.{PatternStop}
use Rattle.pull_pattern.specs.declared.stops.PatternStop.TheVariants.{BadPattern}
use Rattle.pull_pattern.specs.declared.stops.PatternStop.TheVariants.{Memory as NoMemory}
use Rattle.pull_pattern.specs.declared.stops.Stop.{Stop}
use Rattle.pull_pattern.specs.declared.stops.Stop.TheVariants.{OtherForm, Memory}

-- the pattern, or the place of the first item of another form
abbrev pub ReadsPattern : Result model.Pattern ℕ → Result Pattern PatternStop → Type 0
ReadsPattern answer (Ok pattern) = answer ≡ Ok (model_pattern pattern)
ReadsPattern answer (Err (BadPattern item)) = answer ≡ Err item
ReadsPattern answer (Err NoMemory) = Unit {0}

-- a part was refused since the definition gives none, or memory ran out
abbrev pub Refuses : {M : Type 0} → Stop → Option M → Type 0
Refuses OtherForm answer = answer ≡ None
Refuses Memory answer = Unit {0}

-- a part as the definition has it, or why there is none
abbrev pub Gives : {T M : Type 0} → (T → M) → Option M → Result T Stop → Type 0
Gives seen answer (Ok part) = answer ≡ Some (seen part)
Gives seen answer (Err stop) = Refuses stop answer

-- why the whole pattern was not read, whose item at the place it was
abbrev pub placed : ℕ → Stop → PatternStop
placed item OtherForm = BadPattern item
placed item Memory = NoMemory
