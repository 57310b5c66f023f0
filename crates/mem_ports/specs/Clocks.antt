-- A clock that steps.
-- This project's own choice.
use Rattle.std.specs.Prelude.{◌≡◌, ◌+ℤ◌, ◌*ℤ◌, ℕ, ℤ, pos}
use Rattle.std.specs.Int.{w64, saturate_signed}

-- where it begins, and how far it steps
pub record Steps : Type 0 where
  pub first : ℤ
  pub step : ℤ

-- what the call with this number, from 0, reads:
-- no more than the greatest i64, and no less than the least
abbrev pub reading_at : Steps → ℕ → ℤ
reading_at steps n = saturate_signed w64 (steps.first +ℤ pos n *ℤ steps.step)

-- some call reads this
abbrev pub IsReading : Steps → ℤ → Type 0
IsReading steps reading = (n : ℕ) × (reading ≡ reading_at steps n)
