-- What a live session has heard and not answered yet, and what stands in front of it.
-- This project's own choice; docs/LIVE.md, "A line is a script".
use Rattle.std.specs.Prelude.{◌≡◌, ◌≢◌, ◌⊎◌, ◌==◌, ◌<◌, ◌≤◌, ℕ, Bool, true, false, Option, List, []}
use Rattle.std.specs.Prelude.{◌∷◌, ◌++◌, length, take, slice_index}
use Rattle.std.specs.Io.KnownBytes.{prepend_known, IsAtEnd}
use Rattle.edn_model.specs.Bytes.{line_feed}
use Rattle.live_model.specs.Lines.{HasNoLineFeed, longest_line}
use Rattle.live_lines.specs.declared.heard.Next.{Next}
use Rattle.live_lines.specs.declared.heard.Next.TheVariants.{Line, TooLong, More, Over}

-- the bytes behind the lines that were passed, and whether the source has no more
pub record Hearing : Type 0 where
  pub pending : List ℕ
  pub over : Bool

abbrev pub nothing_yet : Hearing
nothing_yet = record { pending = []; over = false }

-- ---- what stands in front

-- a line is whole once its line feed was heard, and the last one at the end of the source
abbrev pub Ends : Bool → List ℕ → List ℕ → Type 0
Ends over line rest =
    ((more : List ℕ) × (rest ≡ line_feed ∷ more)) ⊎ ((over ≡ true) × (rest ≡ []) × (line ≢ []))

-- a whole line of so many bytes
pub record IsInFront (h : Hearing) (len : ℕ) : Type 0 where
  pub line : List ℕ
  pub rest : List ℕ
  pub is : h.pending ≡ line ++ rest
  pub has : length line ≡ len
  pub plain : HasNoLineFeed line
  pub short : len ≤ longest_line
  pub ends : Ends h.over line rest

-- a line that goes on past what a line may have
pub record RunsOn (h : Hearing) : Type 0 where
  pub line : List ℕ
  pub rest : List ℕ
  pub is : h.pending ≡ line ++ rest
  pub plain : HasNoLineFeed line
  pub long : longest_line < length line

-- nothing, or a line's front, and more may come
pub record IsBegun (h : Hearing) : Type 0 where
  pub plain : HasNoLineFeed h.pending
  pub short : length h.pending ≤ longest_line
  pub goes_on : h.over ≡ false

abbrev pub IsNext : Hearing → Next → Type 0
IsNext h (Line len) = IsInFront h len
IsNext h TooLong = RunsOn h
IsNext h More = IsBegun h
IsNext h Over = h ≡ record { pending = []; over = true }

-- so many bytes in front have no line feed, and are all there are or have one behind them
pub record RunsUpTo (pending : List ℕ) (len : ℕ) : Type 0 where
  pub within : len ≤ length pending
  pub plain : HasNoLineFeed (take len pending)
  pub fed : len < length pending → slice_index pending len ≡ line_feed

-- ---- reading on

-- how many bytes one read takes at most
abbrev pub piece : ℕ
piece = 65536

-- What one read adds. A read of nothing is the end of the source.
pub record Hears (old new : Hearing) (held left : Option (List ℕ)) : Type 0 where
  pub taken : List ℕ
  pub few : length taken ≤ piece
  pub from : held ≡ prepend_known taken left
  pub pending : new.pending ≡ old.pending ++ taken
  pub over : new.over ≡ (length taken == 0)
  pub end : new.over ≡ true → IsAtEnd left
