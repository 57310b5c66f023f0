-- How an object's count of faults moves in a call: a call raises it exactly where it answers its fault.
-- This project's own choice.
use Rattle.std.specs.Prelude.{◌≡◌, ◌⊎◌, ◌<◌, ◌-◌, ◌+◌, ◌^◌, ℕ, min, MatchResult, Result}

-- the count grew, or is at its greatest value
abbrev pub Rose : ℕ → ℕ → Type 0
Rose old new = (old < new) ⊎ ((old ≡ 2 ^ 64 - 1) × (new ≡ 2 ^ 64 - 1))

-- one more, but at its greatest value a count stays
abbrev pub raised : ℕ → ℕ
raised n = min (n + 1) (2 ^ 64 - 1)

-- a fault raised the count, and any other answer left it
abbrev pub Counts : {T E : Type 0} → Result T E → ℕ → ℕ → Type 0
Counts r old new = MatchResult r (λ _. new ≡ old) (λ _. Rose old new)
