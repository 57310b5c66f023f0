-- A record that is laid behind a closed gate, before it is known whether it comes next.
-- This project's own choice.
use Rattle.std.specs.Prelude.{◌≡◌, ◌⊎◌, ◌≤◌, ◌<◌, ◌+◌, ◌-◌, ◌^◌, ℕ, List, [], ◌∷◌, length, take, drop}
use Rattle.std.specs.Prelude.{replicate, Option, None, Some}
use Rattle.disk_model.specs.Disk.{written, Torn, IfKnown}
use Rattle.disk_model.specs.Journal.{record_of}

-- a file has these bytes at this place
abbrev pub LiesAt : ℕ → List ℕ → List ℕ → Type 0
LiesAt at piece file =
    (at + length piece ≤ length file) × (take (length piece) (drop at file) ≡ piece)

-- a disk has them there, where its bytes are known
abbrev pub IsLaid : Option (List ℕ) → ℕ → List ℕ → Type 0
IsLaid known at piece = (at + length piece < 2 ^ 64) × IfKnown known (LiesAt at piece)

-- the record of a payload, if there is one
abbrev pub record_if : Option (List ℕ) → List ℕ
record_if None = []
record_if (Some payload) = record_of payload

-- the zeros from a place up to another, if there is one
abbrev pub zeros_between : ℕ → Option ℕ → List ℕ
zeros_between from None = []
zeros_between from (Some upto) = replicate (upto - from) 0

-- a file with a record behind a gate, and with zeros behind the record
abbrev pub with_zeros : ℕ → List ℕ → List ℕ → List ℕ → List ℕ
with_zeros gate piece zeros file =
    written (gate + 1 + length piece) zeros (written (gate + 1) piece file)

-- the same file with the gate open, and with what is laid behind the next gate
abbrev pub opened_beside : ℕ → List ℕ → List ℕ → List ℕ → List ℕ → List ℕ
opened_beside gate piece zeros next file =
    written (gate + 1 + length piece) next
    (written gate (1 ∷ []) (with_zeros gate piece zeros file))

-- what a crash may make of an image while a gate is opened and n bytes are written at a place,
-- both until one sync
abbrev pub TornOpening : ℕ → ℕ → ℕ → List ℕ → List ℕ → Type 0
TornOpening gate at n old new = (mid : List ℕ) × Torn gate 1 old mid × Torn at n mid new

-- what a crash may make of a file while a record is added: in its own write, in that of the zeros
-- behind it, or while the gate is opened
abbrev pub TornAdding : ℕ → List ℕ → List ℕ → ℕ → List ℕ → List ℕ → Type 0
TornAdding gate piece zeros n file image =
    Torn (gate + 1) (length piece) file image
    ⊎ (Torn (gate + 1 + length piece) (length zeros) (written (gate + 1) piece file) image
    ⊎ TornOpening gate (gate + 1 + length piece) n (with_zeros gate piece zeros file) image)
