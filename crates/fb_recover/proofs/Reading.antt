-- What the records of a log say, read one after another.
use Rattle.std.proofs.Common.{◌≡◌, ◌∙◌, ℕ, List, [], ◌∷◌, ◌++◌, length, Option, refl, sym, ap, subst, arith, append_assoc}
use Rattle.std.proofs.lemmas.List.{append-nil}
use Rattle.fb_values.specs.declared.facts.Entry.{Entry}
use Rattle.fb_model.specs.FirstEntry.{first_entry}
use Rattle.fb_model.specs.Lawful.{IsLawful}
use Rattle.disk_model.specs.Journal.{log_mark}
use Rattle.log_model.specs.Payload.{PayloadSays, holds, breaks_at, payload_says}
use Rattle.log_model.specs.Log.{RecordsSay, ArePayloadsOf, LogStands, hold, bad_at, byte_in_log, with_entry, with_record, entries_behind}
use Rattle.log_model.specs.Log.{log_reading, log_says}
use Rattle.log_model.proofs.Entries.{says-entry_bytes}
use Rattle.disk_log.specs.Records.{IsBehind}
use Rattle.disk_log.specs.declared.records.LogRecord.TheVariants.{Misfit as Bad}
use Rattle.disk_log.proofs.Histories.{payloads-push}
use Rattle.fb_journal.specs.Readings.{HasRead}
use Rattle.fb_journal.specs.declared.readings.Place.{Place}
use Rattle.fb_journal.specs.declared.readings.Reading.{Reading}
use Rattle.fb_recover.specs.declared.faults.OpenFault.{OpenFault}
use Rattle.fb_recover.specs.declared.records.Found.{Found}
use Rattle.fb_recover.specs.declared.records.Found.TheVariants.{Entries, Misfit}
use Rattle.fb_recover.specs.Faults.{MatchesFault}
use Rattle.fb_recover.specs.Finding.{HaveFound, IsFound}

hold-behind : (before : List (List ℕ)) (entries : List Entry) (records : List (List ℕ)) → ArePayloadsOf entries records
    → entries_behind before records ≡ hold entries
hold-behind before [] [] are = refl
hold-behind before [] (payload ∷ records) are = absurd are
hold-behind before (entry ∷ entries) [] are = absurd are
hold-behind before (entry ∷ entries) (payload ∷ records) are =
    ap (λ (said : PayloadSays). with_record before said (entries_behind (before ++ payload ∷ []) records))
    (says-entry_bytes entry payload are.0)
    ∙ ap (with_entry entry) (hold-behind (before ++ payload ∷ []) entries records are.1)

bad-behind : (before : List (List ℕ)) (entries : List Entry) (part : List (List ℕ)) (payload : List ℕ) (rest : List (List ℕ)) (byte : ℕ)
    → ArePayloadsOf entries part → payload_says payload ≡ breaks_at byte
    → entries_behind before (part ++ payload ∷ rest) ≡ bad_at (length (before ++ part)) (byte_in_log (before ++ part) byte)
bad-behind before [] [] payload rest byte are breaks =
    ap (λ (said : PayloadSays). with_record before said (entries_behind (before ++ payload ∷ []) rest)) breaks
    ∙ ap (λ (l : List (List ℕ)). bad_at (length l) (byte_in_log l byte)) (sym (append-nil before))
bad-behind before [] (p ∷ part) payload rest byte are breaks = absurd are
bad-behind before (entry ∷ entries) [] payload rest byte are breaks = absurd are
bad-behind before (entry ∷ entries) (p ∷ part) payload rest byte are breaks =
    ap (λ (said : PayloadSays). with_record before said (entries_behind (before ++ p ∷ []) (part ++ payload ∷ rest)))
    (says-entry_bytes entry p are.0)
    ∙ ap (with_entry entry) (bad-behind (before ++ p ∷ []) entries part payload rest byte are.1 breaks)
    ∙ ap (λ (l : List (List ℕ)). bad_at (length l) (byte_in_log l byte)) (append_assoc before (p ∷ []) part)

-- ---- one record more

with-stays : (before : List (List ℕ)) (said : PayloadSays) (behind longer : RecordsSay) (nth at : ℕ)
    → (behind ≡ bad_at nth at → longer ≡ bad_at nth at)
    → with_record before said behind ≡ bad_at nth at → with_record before said longer ≡ bad_at nth at
with-stays before (holds entry) (hold entries) longer nth at later is = absurd (cc)
with-stays before (holds entry) (bad_at n a) longer nth at later is = ap (with_entry entry) (later is)
with-stays before (breaks_at byte) behind longer nth at later is = is

bad-stays : (before records more : List (List ℕ)) (nth at : ℕ) → entries_behind before records ≡ bad_at nth at
    → entries_behind before (records ++ more) ≡ bad_at nth at
bad-stays before [] more nth at is = absurd (cc)
bad-stays before (payload ∷ records) more nth at is =
    with-stays before (payload_says payload) (entries_behind (before ++ payload ∷ []) records)
    (entries_behind (before ++ payload ∷ []) (records ++ more)) nth at
    (bad-stays (before ++ payload ∷ []) records more nth at) is

-- a misfit stays the first
pub misfit-stays : (records : List (List ℕ)) (payload : List ℕ) (nth at : ℕ) → HaveFound records (Misfit nth at)
    → HaveFound (records ++ payload ∷ []) (Misfit nth at)
misfit-stays records payload nth at is = bad-stays [] records (payload ∷ []) nth at is

pub found-more : (records : List (List ℕ)) (entries : List Entry) (place : Place) (payload : List ℕ) (found : Found)
    → ArePayloadsOf entries records
    → place.nth ≡ length records → place.at ≡ byte_in_log records 0 → IsFound entries place payload found
    → HaveFound (records ++ payload ∷ []) found
found-more records entries place payload (Entries next) are number here is =
    subst (λ (l : List Entry). ArePayloadsOf l (records ++ payload ∷ [])) (sym is.2) (payloads-push entries records is.0 payload are is.1)
found-more records entries place payload (Misfit nth at) are number here is =
    let byte : ℕ = is.0 in
    let many : length records ≡ nth = sym (is.2 ∙ number) in
    let there : byte_in_log records byte ≡ at = omega (arith, is.3, here) in
    bad-behind [] entries records payload [] byte are is.1 ∙ (λ i. bad_at (many i) (there i))

pub found-misfit : (records : List (List ℕ)) (entries : List Entry) (whole read : List ℕ) (nth at : ℕ) → ArePayloadsOf entries records
    → IsBehind records whole read (Bad nth at) → HaveFound (records ++ whole ∷ []) (Misfit nth at)
found-misfit records entries whole read nth at are is =
    bad-behind [] entries records whole [] is.0 are is.1 ∙ (λ i. bad_at (sym is.2 i) (sym is.3 i))

-- ---- at the end

pub stands-whole : (records : List (List ℕ)) (entries h : List Entry) → ArePayloadsOf entries records → h ≡ first_entry ∷ entries
    → IsLawful h → LogStands records h
stands-whole records entries h are is lawful =
    subst (λ (l : List Entry). LogStands records l) (sym is) (record { lawful = subst IsLawful is lawful; payloads = are })

pub told-whole : (records : List (List ℕ)) (entries : List Entry) (fault : OpenFault) → ArePayloadsOf entries records
    → MatchesFault fault (log_reading (hold entries)) → MatchesFault fault (log_says records)
told-whole records entries fault are tells = subst (MatchesFault fault) (sym (ap log_reading (hold-behind [] entries records are))) tells

-- ---- as they are read

-- behind the records that a reading came to, these are found
pub record Follows {D : Type 0} {g : _} (bytes : D → Option (List ℕ)) (images : D → List ℕ → Type 0) (moment : D → ℕ)
    (since : D → ℕ → List ℕ → Type 0) (first now : Reading D g) (found : Found) : Type 0 where
  pub records : List (List ℕ)
  pub are : HaveFound records found
  pub reads : (disk : D) → HasRead bytes images moment since log_mark disk [] first
      → HasRead bytes images moment since log_mark disk records now
