-- What digits and their sign are as a number.
-- EDN, edn-format: "Integers".
use Rattle.std.specs.Prelude.{◌≡◌, ℕ, ℤ, false, Option, Some, None, List}
use Rattle.edn_model.specs.Tokens.{number, IsDecimal, IsNumeral, is_long}
use Rattle.edn_token.specs.declared.number.Number.{Number}
use Rattle.edn_token.specs.declared.number.Number.TheVariants.{Long, Wide}

-- the integer that the sign makes of their number, where they are digits without a leading zero
abbrev pub DigitsAre : (ℕ → ℤ) → List ℕ → Option Number → Type 0
DigitsAre sign digits None = ¬ IsDecimal (number digits) digits
DigitsAre sign digits (Some (Long z)) =
    IsDecimal (number digits) digits × (z ≡ sign (number digits))
DigitsAre sign digits (Some Wide) =
    IsDecimal (number digits) digits × (is_long (sign (number digits)) ≡ false)

-- the integer that a token is
abbrev pub NumeralIs : List ℕ → Option Number → Type 0
NumeralIs token None = (z : ℤ) → ¬ IsNumeral z token
NumeralIs token (Some (Long z)) = IsNumeral z token
NumeralIs token (Some Wide) = (z : ℤ) × IsNumeral z token × (is_long z ≡ false)
