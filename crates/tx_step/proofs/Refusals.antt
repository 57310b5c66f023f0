-- The least rule, over lists of rules that follow one another.
use Rattle.std.proofs.Common.{◌≡◌, refl, sym, ℕ, List, [], ◌∷◌, ◌++◌}
use Rattle.std.specs.Prelude.{Option, Some, None}
use Rattle.std.proofs.lemmas.Option.{none-some}
use Rattle.tx_refusals.specs.declared.reasons.Reason.{Reason}
use Rattle.tx_refusals.specs.declared.reasons.Refusal.{Refusal}
use Rattle.tx_model.specs.Step.{first_refusal}

-- none of the first rules is broken: the others tell
pub passed : (xs ys : List (Reason × Option ℕ)) → first_refusal xs ≡ None → first_refusal (xs ++ ys) ≡ first_refusal ys
passed [] ys none = refl
passed ((reason, None) ∷ xs) ys none = passed xs ys none
passed ((reason, Some place) ∷ xs) ys none = absurd (none-some (record { reason = reason; at = place }) (sym none))

-- one of them is broken: it is told
pub told : (xs ys : List (Reason × Option ℕ)) (refusal : Refusal) → first_refusal xs ≡ Some refusal
    → first_refusal (xs ++ ys) ≡ Some refusal
told [] ys refusal some = absurd (none-some refusal some)
told ((reason, None) ∷ xs) ys refusal some = told xs ys refusal some
told ((reason, Some place) ∷ xs) ys refusal some = some
