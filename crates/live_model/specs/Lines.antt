-- The lines of the bytes that a client sends: each of them is a script.
-- This project's own choice; docs/LIVE.md, "A line is a script".
use Rattle.std.specs.Prelude.{◌≡◌, ◌⊎◌, ◌==◌, ℕ, Bool, if◌then◌else◌, nat_lt, List, [], ◌∷◌, ◌++◌}
use Rattle.std.specs.Prelude.{length}
use Rattle.edn_model.specs.Bytes.{Each, is_line_byte, line_feed}

-- ---- lines

-- the first line has one byte more in front
abbrev pub in_first : ℕ → List (List ℕ) → List (List ℕ)
in_first b [] = (b ∷ []) ∷ []
in_first b (line ∷ lines) = (b ∷ line) ∷ lines

-- A byte in front of lines: a line feed ends an empty line, and any other byte is in the first.
abbrev pub in_front : ℕ → List (List ℕ) → List (List ℕ)
in_front b lines = if b == line_feed then [] ∷ lines else in_first b lines

-- What stands before each line feed, and behind the last one where anything does.
abbrev pub lines_of : List ℕ → List (List ℕ)
lines_of [] = []
lines_of (b ∷ bytes) = in_front b (lines_of bytes)

-- ---- whole lines, and the next one's front

abbrev pub HasNoLineFeed : List ℕ → Type 0
HasNoLineFeed bytes = Each is_line_byte bytes

-- the line as it is sent
abbrev pub ended : List ℕ → List ℕ
ended line = line ++ line_feed ∷ []

-- There is nothing, or the last byte is a line feed: so each line has come to its end.
abbrev pub AreWhole : List ℕ → Type 0
AreWhole bytes = (bytes ≡ []) ⊎ ((front : List ℕ) × (bytes ≡ ended front))

-- the bytes are whole lines, and the front of one that may go on
pub record IsCut (bytes whole rest : List ℕ) : Type 0 where
  pub is : bytes ≡ whole ++ rest
  pub lines : AreWhole whole
  pub begun : HasNoLineFeed rest

-- ---- the limit

-- how many bytes a line may have, its line feed not counted
abbrev pub longest_line : ℕ
longest_line = 67108864

abbrev pub is_too_long : List ℕ → Bool
is_too_long line = nat_lt longest_line (length line)
