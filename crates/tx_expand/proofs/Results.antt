-- What holds of a result.
use Rattle.std.specs.Prelude.{Result, Ok, Err, IfOk}

pub IfOk-map : {A E : Type 0} (P Q : A → Type 0) → ((a : A) → P a → Q a) → (r : Result A E) → IfOk r P → IfOk r Q
IfOk-map P Q f (Ok a) p = f a p
IfOk-map P Q f (Err e) p = tt

-- what holds whatever was found
pub IfOk-always : {A E : Type 0} (P : Type 0) → P → (r : Result A E) → IfOk r (λ _. P)
IfOk-always P p (Ok a) = p
IfOk-always P p (Err e) = tt
