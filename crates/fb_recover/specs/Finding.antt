-- What the records of a log are, as they are read one after another.
-- This project's own choice.
use Rattle.std.specs.Prelude.{◌≡◌, ◌+◌, ◌++◌, ℕ, List, [], ◌∷◌}
use Rattle.fb_values.specs.declared.facts.Entry.{Entry}
use Rattle.log_model.specs.Payload.{payload_says, breaks_at}
use Rattle.log_model.specs.Storable.{IsPayloadOf}
use Rattle.log_model.specs.Log.{ArePayloadsOf, bad_at, entries_behind}
use Rattle.fb_journal.specs.declared.readings.Place.{Place}
use Rattle.fb_recover.specs.declared.records.Found.{Found}
use Rattle.fb_recover.specs.declared.records.Found.TheVariants.{Entries, Misfit}

-- each record holds an entry, or this is the first that holds none
abbrev pub HaveFound : List (List ℕ) → Found → Type 0
HaveFound records (Entries entries) = ArePayloadsOf entries.items records
HaveFound records (Misfit nth at) = entries_behind [] records ≡ bad_at nth at

-- the entries with that of the payload, or the first misfit of the payload at this place
abbrev pub IsFound : List Entry → Place → List ℕ → Found → Type 0
IsFound before place payload (Entries entries) = (entry : Entry) × IsPayloadOf entry payload
    × (entries.items ≡ before ++ entry ∷ [])
IsFound before place payload (Misfit nth at) = (byte : ℕ) × (payload_says payload ≡ breaks_at byte)
    × (nth ≡ place.nth) × (at ≡ place.at + byte)
