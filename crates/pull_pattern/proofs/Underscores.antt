-- A text that begins with an underscore.
use Rattle.std.proofs.Common.{◌≡◌, ℕ, true, List, [], ◌∷◌, drop, arith}
use Rattle.fb_model.specs.Words.{begins_with_one_of}

pub first_is : (text : List ℕ) → begins_with_one_of (95 ∷ []) text ≡ true → text ≡ 95 ∷ drop 1 text
first_is [] begins = grind arith
first_is (b ∷ rest) begins = grind arith
