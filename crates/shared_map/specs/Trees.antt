-- The heights of a balanced tree.
-- This project's own choice.
use Rattle.std.specs.Prelude.{◌≡◌, ℕ, ◌+◌, ◌≤◌, max}

-- neither height is more than this above the other
abbrev pub DifferByAtMost : ℕ → ℕ → ℕ → Type 0
DifferByAtMost by l r = (l ≤ r + by) × (r ≤ l + by)

-- the height h of what two sides of heights l and r are balanced to
abbrev pub IsHeightAfterBalance : ℕ → ℕ → ℕ → Type 0
IsHeightAfterBalance l r h =
    (max l r ≤ h) × (h ≤ max l r + 1) × (DifferByAtMost 1 l r → h ≡ max l r + 1)
