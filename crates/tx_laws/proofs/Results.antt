-- What follows of a result from what is known of it.
use Rattle.std.proofs.Common.{◌≡◌, ◌∙◌, Bool, true, false, ◌&&◌, sym, ap, Result, Ok, Err, IfOk}

pub IfOk-map : {A E : Type 0} (P Q : A → Type 0) → ((a : A) → P a → Q a) → (r : Result A E) → IfOk r P → IfOk r Q
IfOk-map P Q f (Ok a) p = f a p
IfOk-map P Q f (Err e) p = p

pub IfOk-join : {A E : Type 0} (P Q R : A → Type 0) → ((a : A) → P a → Q a → R a) → (r : Result A E) → IfOk r P → IfOk r Q → IfOk r R
IfOk-join P Q R f (Ok a) p q = f a p q
IfOk-join P Q R f (Err e) p q = p

-- what one test and another give, where the second is asked, and where it is not
pub both-asked : (value a b A B : Bool) → value ≡ b → b ≡ B → a ≡ A → a ≡ true → value ≡ (A && B)
both-asked value a b A B is b_is a_is holds = is ∙ b_is ∙ ap (λ x. x && B) (sym holds ∙ a_is)

pub one-asked : (value a A B : Bool) → value ≡ a → a ≡ A → a ≡ false → value ≡ (A && B)
one-asked value a A B is a_is fails = is ∙ fails ∙ ap (λ x. x && B) (sym fails ∙ a_is)
