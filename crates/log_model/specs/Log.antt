-- Logs: when the records of a log stand for a history, and what is wrong with them first where they
-- stand for none.
-- Datomic, Log API (the log is the transactions in the order of t).
-- What is reported of a bad log is this project's own choice.
use Rattle.std.specs.Prelude.{◌≡◌, ◌⊎◌, ℕ, ◌+◌, List, [], ◌∷◌, ◌++◌, length, drop, ⊤, Option, Some}
use Rattle.std.specs.Prelude.{None}
use Rattle.std.specs.Option.{option_map_or}
use Rattle.fb_values.specs.declared.facts.Entry.{Entry}
use Rattle.fb_model.specs.FirstEntry.{first_entry}
use Rattle.fb_model.specs.Lawful.{IsLawful, least_law}
use Rattle.disk_model.specs.Journal.{log_mark, opened, JournalStands, JournalBreaks}
use Rattle.log_model.specs.Payload.{PayloadSays, holds, breaks_at, payload_says}
use Rattle.log_model.specs.Storable.{IsPayloadOf}

-- each record is the payload of its entry
abbrev pub ArePayloadsOf : List Entry → List (List ℕ) → Type 0
ArePayloadsOf [] [] = ⊤
ArePayloadsOf [] (payload ∷ records) = ⊥
ArePayloadsOf (entry ∷ entries) [] = ⊥
ArePayloadsOf (entry ∷ entries) (payload ∷ records) =
    IsPayloadOf entry payload × ArePayloadsOf entries records

-- The records are those of the entries 1 to the basis, each in one of the two formats: the first
-- entry is on no log.
pub record LogStands (records : List (List ℕ)) (h : List Entry) : Type 0 where
  pub lawful : IsLawful h
  pub payloads : ArePayloadsOf (drop 1 h) records

-- ---- what is wrong first

-- the byte of the log at which a payload after these records has its byte: mark, records, gate and
-- length come before it
abbrev pub byte_in_log : List (List ℕ) → ℕ → ℕ
byte_in_log before byte = length log_mark + length (opened before) + 1 + 8 + byte

pub data RecordsSay : Type 0 where
  hold : List Entry → RecordsSay
  -- the first record that holds no entry, counted from 0, and the byte of the log at which its
  -- first misfit begins
  bad_at : ℕ → ℕ → RecordsSay

abbrev pub with_entry : Entry → RecordsSay → RecordsSay
with_entry entry (hold entries) = hold (entry ∷ entries)
with_entry entry (bad_at nth byte) = bad_at nth byte

abbrev pub with_record : List (List ℕ) → PayloadSays → RecordsSay → RecordsSay
with_record before (holds entry) behind = with_entry entry behind
with_record before (breaks_at byte) behind = bad_at (length before) (byte_in_log before byte)

-- the entries of the records, where these come before them
abbrev pub entries_behind : List (List ℕ) → List (List ℕ) → RecordsSay
entries_behind before [] = hold []
entries_behind before (payload ∷ records) =
    with_record before (payload_says payload) (entries_behind (before ++ payload ∷ []) records)

-- the t of the first entry that may not follow those before it, counted from 0, and the least law
-- that it breaks
abbrev pub first_unlawful : List Entry → List Entry → Option (ℕ × ℕ)
first_unlawful h [] = None
first_unlawful h (entry ∷ rest) =
    option_map_or (λ (law : ℕ). Some (length h, law)) (least_law h entry)
    (first_unlawful (h ++ entry ∷ []) rest)

pub data LogSays : Type 0 where
  stands_for : List Entry → LogSays
  bad_record : ℕ → ℕ → LogSays
  -- an entry's t, and the law
  unlawful : ℕ → ℕ → LogSays

abbrev pub judged : List Entry → Option (ℕ × ℕ) → LogSays
judged entries None = stands_for (first_entry ∷ entries)
judged entries (Some wrong) = unlawful wrong.0 wrong.1

abbrev pub log_reading : RecordsSay → LogSays
log_reading (bad_at nth byte) = bad_record nth byte
log_reading (hold entries) = judged entries (first_unlawful (first_entry ∷ []) entries)

-- all records are judged as payloads before any entry is judged by the laws
abbrev pub log_says : List (List ℕ) → LogSays
log_says records = log_reading (entries_behind [] records)

-- ---- a file

-- The file's journal has records that stand for the history.
pub record IsLogOf (file : List ℕ) (h : List Entry) : Type 0 where
  pub records : List (List ℕ)
  pub journal : JournalStands log_mark records file
  pub stands : LogStands records h

-- What a file says: its journal is judged before any record of it.
abbrev pub FileSays : List ℕ → LogSays → Type 0
FileSays file said =
    (records : List (List ℕ))
    × (
    (JournalStands log_mark records file × (said ≡ log_says records))
    ⊎ (
    (nth : ℕ) × (at : ℕ) × JournalBreaks log_mark records file nth at × (said ≡ bad_record nth at)))
