-- The record of a log that is read next.
-- This project's own choice.
use Rattle.std.specs.Prelude.{◌≡◌, ◌<◌, ◌+◌, ◌^◌, ℕ, List, length, ⊤}
use Rattle.log_model.specs.Payload.{payload_says, breaks_at}
use Rattle.log_model.specs.Log.{byte_in_log}
use Rattle.disk_log.specs.declared.records.LogRecord.{LogRecord}
use Rattle.disk_log.specs.declared.records.LogRecord.TheVariants.{Whole, Misfit}

-- the record behind these has this payload: it is what was read, or its first misfit is known
abbrev pub IsBehind : List (List ℕ) → List ℕ → List ℕ → LogRecord → Type 0
IsBehind before payload read (Whole place) =
    (payload ≡ read) × (place.nth ≡ length before) × (place.at ≡ byte_in_log before 0)
IsBehind before payload read (Misfit nth at) =
    (byte : ℕ)
    × (payload_says payload ≡ breaks_at byte)
    × (nth ≡ length before)
    × (at ≡ byte_in_log before byte)

-- what was read of a whole payload ends within 64 bits
abbrev pub EndsWithin : List ℕ → LogRecord → Type 0
EndsWithin read (Whole place) = place.at + length read < 2 ^ 64
EndsWithin read (Misfit nth at) = ⊤
