-- A run of bytes that pass a test, up to the first that does not.
-- This project's own choice.
use Rattle.std.specs.Prelude.{◌≡◌, ℕ, Bool, false, IsTrue, List, [], ◌∷◌, ◌++◌}
use Rattle.std.specs.List.{list_all}

-- each byte passes the test
abbrev pub Each : (ℕ → Bool) → List ℕ → Type 0
Each test bytes = IsTrue (list_all test bytes)

-- no byte that passes comes next
abbrev pub Stops : (ℕ → Bool) → List ℕ → Type 0
Stops test [] = Unit {0}
Stops test (b ∷ bytes) = test b ≡ false

-- the bytes are the longest run that passes, and what follows it
pub record IsRun (test : ℕ → Bool) (bytes run rest : List ℕ) : Type 0 where
  pub is : bytes ≡ run ++ rest
  pub each : Each test run
  pub stops : Stops test rest
