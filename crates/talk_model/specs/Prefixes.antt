-- How what a session's lines rest on follows what the session had seen.
-- This project's own choice.
use Rattle.std.specs.Prelude.{◌≡◌, ℕ, ◌<◌, ◌≤◌, ◌⊎◌, List, [], ◌∷◌}
use Rattle.std.specs.List.{AllByRecursion}
use Rattle.std.specs.List.Sorted.{IsNonDecreasing}

-- The lines and the commits of a session in the order in which they came. Each line rests on a
-- place at least what had been seen, and that of a commit on the t committed, above it. Its place
-- is seen from then on. After the last line the session may have committed once more, without a
-- line.
abbrev pub SeesAll : ℕ → ℕ → List ℕ → List ℕ → Type 0
SeesAll basis seen [] commits =
    (commits ≡ []) ⊎ ((t : ℕ) × (commits ≡ t ∷ []) × (seen < t) × (t ≤ basis))
SeesAll basis seen (p ∷ ps) commits =
    (seen ≤ p)
    × (p ≤ basis)
    × (
    SeesAll basis p ps commits
    ⊎ ((seen < p) × (rest : List ℕ) × (commits ≡ p ∷ rest) × SeesAll basis p ps rest))

-- the places of a session's lines, between the t at which the history was opened and the last one
pub record Prefixes (opening basis : ℕ) (places commits : List ℕ) : Type 0 where
  pub never_fall : IsNonDecreasing places
  pub within : AllByRecursion (λ p. (opening ≤ p) × (p ≤ basis)) places
  -- each is at least every t that the session had committed before that line
  pub committed_before : SeesAll basis opening places commits
