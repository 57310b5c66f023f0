-- The bytes of a journal: a mark, and records after gates, and what they stand for.
-- This project's own choice.
use Rattle.std.specs.Prelude.{◌≡◌, ◌≢◌, ◌⊎◌, ◌<◌, ◌≤◌, ◌+◌, ◌^◌, ℕ, List, [], ◌∷◌, ◌++◌, length}
use Rattle.std.specs.Prelude.{take, codes}
use Rattle.std.specs.List.{AllByRecursion}
use Rattle.std.specs.Int.{w64, to_be_bytes, from_be_bytes}

-- the first fifteen bytes of a log and of a file of segments
abbrev pub log_mark : List ℕ
log_mark = codes "FACTBASE LOG 1" ++ 10 ∷ []

abbrev pub segments_mark : List ℕ
segments_mark = codes "FACTBASE SEG 1" ++ 10 ∷ []

-- a payload after its length
abbrev pub framed : List ℕ → List ℕ
framed payload = to_be_bytes w64 (length payload) ++ payload

-- a record: the length, the payload, and the closed gate of the next record
abbrev pub record_of : List ℕ → List ℕ
record_of payload = framed payload ++ 0 ∷ []

-- a journal without a record: the mark, and the closed gate of the first
abbrev pub new_journal : List ℕ → List ℕ
new_journal mark = mark ++ 0 ∷ []

-- open gates, each with its payload after it
abbrev pub opened : List (List ℕ) → List ℕ
opened [] = []
opened (payload ∷ payloads) = 1 ∷ framed payload ++ opened payloads

-- each payload's length has its place in eight bytes
abbrev pub HaveLengths : List (List ℕ) → Type 0
HaveLengths payloads = AllByRecursion (λ payload. length payload < 2 ^ 64) payloads

-- Each record follows an open gate, and a closed gate is next. What follows it counts for nothing.
pub record Holds (mark : List ℕ) (records : List (List ℕ)) (file : List ℕ) : Type 0 where
  pub gate : ℕ
  pub rest : List ℕ
  pub bytes : file ≡ mark ++ opened records ++ gate ∷ rest
  pub closed : gate ≢ 1
  pub lengths : HaveLengths records

-- What a file stands for: at most sixteen bytes are a new journal.
abbrev pub JournalStands : List ℕ → List (List ℕ) → List ℕ → Type 0
JournalStands mark records file =
    ((length file ≤ 16) × (records ≡ [])) ⊎ ((16 < length file) × Holds mark records file)

-- After an open gate there is no length,
-- or one that leaves no room for the payload and the next gate.
abbrev pub IsCutShort : List ℕ → Type 0
IsCutShort rest = (length rest < 8) ⊎ (length rest < 8 + from_be_bytes w64 (take 8 rest) + 1)

-- The first fault lies after these records.
-- The records are counted from 0, as bytes are, and the fault is at the first byte of the length.
pub record BreaksBehind (mark : List ℕ) (records : List (List ℕ)) (file : List ℕ) (nth at : ℕ)
    : Type 0 where
  pub rest : List ℕ
  pub bytes : file ≡ mark ++ opened records ++ 1 ∷ rest
  pub short : IsCutShort rest
  pub lengths : HaveLengths records
  pub number : nth ≡ length records
  pub place : at ≡ length mark + length (opened records) + 1

-- What a file that stands for no records breaks: another mark is record 0, at byte 0.
abbrev pub JournalBreaks : List ℕ → List (List ℕ) → List ℕ → ℕ → ℕ → Type 0
JournalBreaks mark records file nth at = (16 < length file)
    × (((take (length mark) file ≢ mark) × (records ≡ []) × (nth ≡ 0) × (at ≡ 0))
    ⊎ BreaksBehind mark records file nth at)
