-- What a stream in memory holds that gives or takes its bytes in pieces.
-- This project's own choice.
use Rattle.std.specs.Prelude.{◌≡◌, ℕ, Bool, List, [], ◌∷◌, min, max, refl}
use Rattle.mem_ports.specs.InMemory.{Supply, Store}

-- the bytes still to be read, how large the next pieces may be, and whether it was let go of
pub record PieceSupply : Type 0 where
  pub supply : Supply
  pub sizes : List ℕ
  pub hung_up : Bool

-- the bytes that were taken
pub record PieceStore : Type 0 where
  pub store : Store
  pub sizes : List ℕ
  pub hung_up : Bool

-- How many of some bytes are in the next piece: at least one of them. Behind the last size, all are.
abbrev pub next_size : List ℕ → ℕ → ℕ
next_size [] len = len
next_size (size ∷ sizes) len = min len (max size 1)

abbrev pub later_sizes : List ℕ → List ℕ
later_sizes [] = []
later_sizes (size ∷ sizes) = sizes

-- ---- worked examples, each closed by computation

pub next_size-fits : next_size (3 ∷ 5 ∷ []) 2 ≡ 2
next_size-fits = refl

pub next_size-short : next_size (3 ∷ 5 ∷ []) 7 ≡ 3
next_size-short = refl

pub next_size-nothing : next_size (0 ∷ []) 7 ≡ 1
next_size-nothing = refl

pub next_size-free : next_size [] 7 ≡ 7
next_size-free = refl
