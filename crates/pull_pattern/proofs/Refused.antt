-- What a refusal of a part says of the whole.
use Rattle.std.proofs.Common.{◌≡◌, ℕ, sym, subst, Option, None, Result, Ok, Err}
use Rattle.std.specs.Prelude.{IfErr}
use Rattle.std.specs.Result.{IsErrAnd}
use Rattle.pull_model.specs.Patterns.{Pattern}
use Rattle.pull_pattern.specs.declared.stops.Stop.{Stop}
use Rattle.pull_pattern.specs.declared.stops.Stop.TheVariants.{OtherForm, Memory}
use Rattle.pull_pattern.specs.Answers.{Refuses, ReadsPattern, placed}

refuses : {M N : Type 0} (stop : Stop) (o : Option M) (answer : Option N)
    → (o ≡ None → answer ≡ None) → Refuses stop o → Refuses stop answer
refuses OtherForm o answer none refused = none refused
refuses Memory o answer none refused = tt

-- a stop that is handed on
pub refused_again : {T M N : Type 0} (r : Result T Stop) (stop : Stop) (o : Option M) (answer : Option N)
    → IsErrAnd r (λ e. e ≡ stop) → Refuses stop o → (o ≡ None → answer ≡ None) → IfErr r (λ e. Refuses e answer)
refused_again (Ok x) stop o answer is refused none = absurd is
refused_again (Err e) stop o answer is refused none = refuses e o answer none (subst (λ s. Refuses s o) (sym is) refused)

-- the item at the place is none
pub refused_at : {M : Type 0} (place : ℕ) (stop : Stop) (o : Option M) (answer : Result Pattern ℕ)
    → Refuses stop o → (o ≡ None → answer ≡ Err place)
    → ReadsPattern answer (Err (placed place stop))
refused_at place OtherForm o answer refused none = none refused
refused_at place Memory o answer refused none = tt
