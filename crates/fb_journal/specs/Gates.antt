-- What is at a gate of a file.
-- This project's own choice.
use Rattle.std.specs.Prelude.{◌≡◌, ◌≢◌, ◌≤◌, ◌<◌, ◌+◌, ℕ, List, length, get_or, take, drop, ⊤}
use Rattle.std.specs.Int.{w64, to_be_bytes}
use Rattle.disk_model.specs.Journal.{IsCutShort}
use Rattle.fb_journal.specs.declared.gates.Ahead.{Ahead}
use Rattle.fb_journal.specs.declared.gates.Ahead.TheVariants.{Closed, CutShort, Record}

-- after an open gate
abbrev pub IsAhead : List ℕ → Ahead → Type 0
IsAhead rest Closed = ⊥
IsAhead rest CutShort = IsCutShort rest
IsAhead rest (Record len) =
    (to_be_bytes w64 len ≡ take 8 rest) × (8 + len + 1 ≤ length rest)

abbrev pub IsAheadAt : List ℕ → ℕ → Ahead → Type 0
IsAheadAt file gate Closed = get_or file gate 0 ≢ 1
IsAheadAt file gate CutShort =
    (get_or file gate 0 ≡ 1) × IsAhead (drop (gate + 1) file) CutShort
IsAheadAt file gate (Record len) =
    (get_or file gate 0 ≡ 1) × IsAhead (drop (gate + 1) file) (Record len)

-- a record whose length is at this place has room in a file of
-- so many bytes, and so has the next gate
abbrev pub HasRoom : ℕ → ℕ → Ahead → Type 0
HasRoom size at Closed = ⊤
HasRoom size at CutShort = ⊤
HasRoom size at (Record len) = at + 8 + len < size
