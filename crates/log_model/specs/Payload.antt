-- Payloads: an entry as bytes, in the two formats, and what a payload says: the entry, or the first
-- field that does not fit.
-- This project's own choice.
use Rattle.std.specs.Prelude.{ℕ, ◌-◌, List, ◌∷◌, ◌++◌, length, flat_map}
use Rattle.fb_values.specs.declared.facts.Datom.{Datom}
use Rattle.fb_values.specs.declared.facts.Entry.{Entry}
use Rattle.log_model.specs.Fields.{Reading, found, misfit, and_then, that_fits, several, at_end}
use Rattle.log_model.specs.Fields.{read_u8, u32_bytes, read_u32, u64_bytes, read_u64, i64_bytes}
use Rattle.log_model.specs.Fields.{read_i64, truth_bytes, read_truth}
use Rattle.log_model.specs.Values.{value_bytes, is_format, read_value}

-- a datom without its t, which is that of its entry
abbrev pub datom_bytes : Datom → List ℕ
datom_bytes d = u64_bytes d.e ++ u64_bytes d.a ++ value_bytes d.v ++ truth_bytes d.added

-- the format, t, the instant, the number of datoms, and the datoms
abbrev pub entry_bytes_in : ℕ → Entry → List ℕ
entry_bytes_in format entry =
    format
    ∷ (
    u32_bytes entry.t
    ++ i64_bytes entry.instant
    ++ u32_bytes (length entry.datoms)
    ++ flat_map datom_bytes entry.datoms)

-- the format that is written
abbrev pub written_format : ℕ
written_format = 2

abbrev pub entry_bytes : Entry → List ℕ
entry_bytes entry = entry_bytes_in written_format entry

-- ---- what a payload says

abbrev pub read_datom : ℕ → ℕ → List ℕ → Reading Datom
read_datom format t bytes =
    and_then (read_u64 bytes) (λ e behind_e.
    and_then (read_u64 behind_e) (λ a behind_a.
    and_then (read_value format behind_a) (λ v behind_v.
    and_then (read_truth behind_v)
    (λ added rest. found (record { e = e; a = a; v = v; t = t; added = added }) rest))))

abbrev pub read_fields : ℕ → List ℕ → Reading Entry
read_fields format bytes =
    and_then (read_u32 bytes) (λ t behind_t.
    and_then (read_i64 behind_t) (λ instant behind_instant.
    and_then (read_u32 behind_instant) (λ count behind_count.
    and_then (several (read_datom format t) count behind_count)
    (λ datoms rest. found (record { t = t; instant = instant; datoms = datoms }) rest))))

abbrev pub read_entry : List ℕ → Reading Entry
read_entry bytes = at_end (and_then (that_fits is_format read_u8 bytes) read_fields)

pub data PayloadSays : Type 0 where
  holds : Entry → PayloadSays
  -- the first field that does not fit begins at this byte, counted from 0
  breaks_at : ℕ → PayloadSays

abbrev pub said_by : List ℕ → Reading Entry → PayloadSays
said_by payload (found entry rest) = holds entry
said_by payload (misfit rest) = breaks_at (length payload - length rest)

abbrev pub payload_says : List ℕ → PayloadSays
payload_says payload = said_by payload (read_entry payload)
