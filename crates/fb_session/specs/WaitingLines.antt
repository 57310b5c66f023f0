-- Lines that wait to go out together, and what becomes of them where their sink fails.
-- This project's own choice.
use Rattle.std.specs.Prelude.{◌≡◌, ◌⊎◌, ℕ, ◌+◌, ◌-◌, List, [], ◌∷◌, ◌++◌, Option, length, take}
use Rattle.std.specs.List.{concat}
use Rattle.std.specs.Io.KnownBytes.{append_known}
use Rattle.fb_session.specs.declared.waiting.Waiting.{Waiting}
use Rattle.fb_session.specs.Written.{TakesPart}

-- where each of these lines ends, the first of which begins at this place
abbrev pub ends_from : ℕ → List (List ℕ) → List ℕ
ends_from at [] = []
ends_from at (line ∷ lines) = (at + length line) ∷ ends_from (at + length line) lines

-- where so many bytes wait, no line is put behind them, and a line of so many does not wait
abbrev pub most_waiting : ℕ
most_waiting = 65536

-- these lines wait
pub record Waits (waiting : Waiting) (lines : List (List ℕ)) : Type 0 where
  pub bytes : waiting.bytes.items ≡ concat lines
  pub ends : waiting.ends.items ≡ ends_from 0 lines

-- The sink took the first of these lines whole, and less than the whole of the one behind them:
-- so many were left.
pub record BreaksAt (lines : List (List ℕ)) (left : ℕ) (had has : Option (List ℕ)) : Type 0 where
  pub out : List (List ℕ)
  pub broken : List ℕ
  pub behind : List (List ℕ)
  pub parts : lines ≡ out ++ broken ∷ behind
  pub count : left ≡ length behind + 1
  pub taken : TakesPart broken (append_known had (concat out)) has

-- and only the places of the lines before it were kept
pub record CutsOff (lines : List (List ℕ)) (places kept : List ℕ) (had has : Option (List ℕ))
    : Type 0 where
  pub left : ℕ
  pub breaks : BreaksAt lines left had has
  pub keeps : kept ≡ take (length places - left) places

-- ---- one line more

-- it waits behind these
pub record LineWaits (lines : List (List ℕ)) (line : List ℕ) (waiting : Waiting)
    (had has : Option (List ℕ)) : Type 0 where
  pub waits : Waits waiting (lines ++ line ∷ [])
  pub still : has ≡ had

-- it went out behind these, and none waits any more
pub record LineIsOut (lines : List (List ℕ)) (line : List ℕ) (waiting : Waiting)
    (had has : Option (List ℕ)) : Type 0 where
  pub none : Waits waiting []
  pub written : has ≡ append_known (append_known had (concat lines)) line

-- the sink took these, and less than the whole of this one
pub record LineBreaks (lines : List (List ℕ)) (line : List ℕ) (places kept : List ℕ)
    (had has : Option (List ℕ)) : Type 0 where
  pub keeps : kept ≡ places
  pub taken : TakesPart line (append_known had (concat lines)) has

abbrev pub IsKept : List (List ℕ) → List ℕ → Waiting → Option (List ℕ) → Option (List ℕ) → Type 0
IsKept lines line waiting had has =
    LineWaits lines line waiting had has ⊎ LineIsOut lines line waiting had has

abbrev pub IsBroken : List (List ℕ) → List ℕ → List ℕ → List ℕ → Option (List ℕ)
    → Option (List ℕ) → Type 0
IsBroken lines line places kept had has =
    CutsOff lines places kept had has ⊎ LineBreaks lines line places kept had has
