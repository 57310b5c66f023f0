-- A reason is found again from its keyword.
use Rattle.std.proofs.Common.{◌≡◌, ℕ, List, [], ◌∷◌, cond, refl, sym, ap, ◌∙◌}
use Rattle.std.specs.Prelude.{bytes_eq}
use Rattle.read_refusals.specs.declared.reasons.Reason.{Reason}
use Rattle.read_refusals.specs.declared.reasons.Reason.TheVariants.{NotACommand, Filtered, BadPattern, BadTuple, NoFilter, BadPoint}
use Rattle.read_refusals.specs.declared.reasons.Reason.TheVariants.{BadComponent, NotInIndex, NotAnEntity, History, TooLarge}
use Rattle.read_refusals.specs.Reasons.{keyword_of}

abbrev all : List Reason
all = NotACommand ∷ Filtered ∷ BadPattern ∷ BadTuple ∷ NoFilter ∷ BadPoint ∷ BadComponent ∷ NotInIndex ∷ NotAnEntity ∷ History ∷ TooLarge ∷ []

-- the first of the reasons with the keyword, and any other where there is none
abbrev named_in : List Reason → List ℕ → Reason
named_in [] k = NotACommand
named_in (reason ∷ rest) k = cond (bytes_eq (keyword_of reason) k) reason (named_in rest k)

named_is : (reason : Reason) → named_in all (keyword_of reason) ≡ reason
named_is NotACommand = refl
named_is Filtered = refl
named_is BadPattern = refl
named_is BadTuple = refl
named_is NoFilter = refl
named_is BadPoint = refl
named_is BadComponent = refl
named_is NotInIndex = refl
named_is NotAnEntity = refl
named_is History = refl
named_is TooLarge = refl

pub same_keyword : (reason other : Reason) → keyword_of reason ≡ keyword_of other → reason ≡ other
same_keyword reason other e = sym (named_is reason) ∙ ap (named_in all) e ∙ named_is other
