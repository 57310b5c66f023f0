-- What follows of a result or an option from what is known of it.
use Rattle.std.proofs.Common.{◌≡◌, refl, Result, Ok, Err, IfOk, Option, Some, None, Bor}
use Rattle.std.specs.Option.{option_or, option_copied}

pub IfOk-map : {A E : Type 0} (P Q : A → Type 0) → ((a : A) → P a → Q a) → (r : Result A E) → IfOk r P → IfOk r Q
IfOk-map P Q f (Ok a) p = f a p
IfOk-map P Q f (Err e) p = p

pub IfOk-join : {A E : Type 0} (P Q R : A → Type 0) → ((a : A) → P a → Q a → R a) → (r : Result A E) → IfOk r P → IfOk r Q → IfOk r R
IfOk-join P Q R f (Ok a) p q = f a p q
IfOk-join P Q R f (Err e) p q = p

pub copied-or : {T : Type 0} (o p : Option (Bor T)) → option_copied (option_or o p) ≡ option_or (option_copied o) (option_copied p)
copied-or (Some x) p = refl
copied-or None p = refl
