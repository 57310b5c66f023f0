-- A list in chunks.
-- This project's own choice.
use Rattle.std.specs.Prelude.{◌≡◌, ℕ, ◌≤◌, ◌++◌, List, length, All}
use Rattle.std.specs.List.{flat_map}

-- the chunks' items, one chunk after another
abbrev pub joined : {X : Type 0} → List (List X) → List X
joined chunks = flat_map (λ chunk. chunk) chunks

-- full chunks of one size, a last one that may hold fewer, and how many items they have together
pub record IsLayer {X : Type 0} (size : ℕ) (chunks : List (List X)) (last : List X) (len : ℕ)
    : Type 0 where
  pub full : All (λ chunk. length chunk ≡ size) chunks
  pub last_fits : length last ≤ size
  pub counted : len ≡ length (joined chunks ++ last)
