-- What the records of a log are beside a history, with one record more.
use Rattle.std.proofs.Common.{inl, inr, ◌⊎◌, ◌≡◌, ◌≢◌, ◌∙◌, ◌+◌, ◌<◌, ◌≤◌, ℕ, zero, suc, List, [], ◌∷◌, ◌++◌, length, take, drop, refl, sym, ap, subst, arith}
use Rattle.std.proofs.Common.{append_assoc, Option, Some, None}
use Rattle.std.specs.List.{slice_get}
use Rattle.std.proofs.Math.ListN.{drop_of_length-le}
use Rattle.std.proofs.lemmas.List.{append-nil, length-take, length-drop, drop_more}
use Rattle.std.proofs.lemmas.Option.{slice_get_within, get_or_from_slice_get}
use Rattle.fb_values.specs.declared.facts.Entry.{Entry}
use Rattle.fb_model.specs.History.{upto}
use Rattle.fb_model.specs.Lawful.{IsLawful}
use Rattle.fb_model.proofs.LawfulHistories.{IsLawful-length}
use Rattle.log_model.specs.Payload.{PayloadSays, holds, breaks_at, payload_says}
use Rattle.log_model.specs.Storable.{IsPayloadOf}
use Rattle.log_model.specs.Log.{RecordsSay, ArePayloadsOf, LogStands, hold, bad_at, byte_in_log, with_entry, with_record, entries_behind}
use Rattle.log_model.proofs.Entries.{says-entry_bytes}
use Rattle.backup_model.proofs.CopiedLogs.{behind_first}
use Rattle.disk_model.specs.Journal.{log_mark}
use Rattle.disk_log.specs.Records.{IsBehind}
use Rattle.disk_log.specs.declared.records.LogRecord.TheVariants.{Misfit as Bad}
use Rattle.disk_log.proofs.Histories.{payloads-push, stands-push}
use Rattle.fb_view.proofs.Beginnings.{next_of, upto_lawful}
use Rattle.fb_view.proofs.Lists.{take-next}
use Rattle.fb_journal.specs.Readings.{HasRead}
use Rattle.fb_journal.specs.declared.readings.Place.{Place}
use Rattle.fb_journal.specs.declared.readings.Reading.{Reading}
use Rattle.fb_backup.specs.declared.comparing.Beside.{Beside}
use Rattle.fb_backup.specs.declared.comparing.Beside.TheVariants.{Same, Other}
use Rattle.fb_backup.specs.declared.comparing.Compared.{Compared}
use Rattle.fb_backup.specs.declared.comparing.Compared.TheVariants.{Misfit}
use Rattle.fb_backup.specs.Comparing.{HaveOther, AreBeside, AreCompared}

-- ---- a misfit

bad-behind : (before : List (List ℕ)) (entries : List Entry) (part : List (List ℕ)) (payload : List ℕ) (byte : ℕ)
    → ArePayloadsOf entries part → payload_says payload ≡ breaks_at byte
    → entries_behind before (part ++ payload ∷ []) ≡ bad_at (length (before ++ part)) (byte_in_log (before ++ part) byte)
bad-behind before [] [] payload byte are breaks =
    ap (λ (said : PayloadSays). with_record before said (entries_behind (before ++ payload ∷ []) [])) breaks
    ∙ ap (λ (l : List (List ℕ)). bad_at (length l) (byte_in_log l byte)) (sym (append-nil before))
bad-behind before [] (p ∷ part) payload byte are breaks = absurd are
bad-behind before (entry ∷ entries) [] payload byte are breaks = absurd are
bad-behind before (entry ∷ entries) (p ∷ part) payload byte are breaks =
    ap (λ (said : PayloadSays). with_record before said (entries_behind (before ++ p ∷ []) (part ++ payload ∷ [])))
    (says-entry_bytes entry p are.0)
    ∙ ap (with_entry entry) (bad-behind (before ++ p ∷ []) entries part payload byte are.1 breaks)
    ∙ ap (λ (l : List (List ℕ)). bad_at (length l) (byte_in_log l byte)) (append_assoc before (p ∷ []) part)

-- all entries that were held so far
held : (h : List Entry) (records : List (List ℕ)) (beside : Beside) → AreBeside h records beside
    → (entries : List Entry) × ArePayloadsOf entries records
held h records (Same t) are = (drop 1 (upto h t), are.1.payloads)
held h records (Other t) are = (are.0, are.1)

pub misfit-found : (h : List Entry) (records : List (List ℕ)) (beside : Beside) (place : Place) (payload : List ℕ) (byte at : ℕ)
    → AreBeside h records beside → place.nth ≡ length records → place.at ≡ byte_in_log records 0 → payload_says payload ≡ breaks_at byte
    → at ≡ place.at + byte
    → AreCompared h (records ++ payload ∷ []) (Misfit place.nth at)
misfit-found h records beside place payload byte at are number here breaks sum =
    let had = held h records beside are in
    let many : length records ≡ place.nth = sym number in
    let there : byte_in_log records byte ≡ at = omega (arith, sum, here) in
    bad-behind [] had.0 records payload byte had.1 breaks ∙ (λ i. bad_at (many i) (there i))

pub misfit-behind : (h : List Entry) (records : List (List ℕ)) (beside : Beside) (whole read : List ℕ) (nth at : ℕ)
    → AreBeside h records beside → IsBehind records whole read (Bad nth at) → AreCompared h (records ++ whole ∷ []) (Misfit nth at)
misfit-behind h records beside whole read nth at are is =
    let had = held h records beside are in
    bad-behind [] had.0 records whole is.0 had.1 is.1 ∙ (λ i. bad_at (sym is.2 i) (sym is.3 i))

with-stays : (before : List (List ℕ)) (said : PayloadSays) (behind longer : RecordsSay) (nth at : ℕ)
    → (behind ≡ bad_at nth at → longer ≡ bad_at nth at)
    → with_record before said behind ≡ bad_at nth at → with_record before said longer ≡ bad_at nth at
with-stays before (holds entry) (hold entries) longer nth at later is = absurd (cc)
with-stays before (holds entry) (bad_at n a) longer nth at later is = ap (with_entry entry) (later is)
with-stays before (breaks_at byte) behind longer nth at later is = is

-- a misfit stays the first
pub misfit-stays : (before records more : List (List ℕ)) (nth at : ℕ) → entries_behind before records ≡ bad_at nth at
    → entries_behind before (records ++ more) ≡ bad_at nth at
misfit-stays before [] more nth at is = absurd (cc)
misfit-stays before (payload ∷ records) more nth at is =
    with-stays before (payload_says payload) (entries_behind (before ++ payload ∷ []) records)
    (entries_behind (before ++ payload ∷ []) (records ++ more)) nth at
    (misfit-stays (before ++ payload ∷ []) records more nth at) is

-- ---- an entry

pub none-same : (h : List Entry) → IsLawful h → LogStands [] (upto h 0)
none-same [] lawful = absurd lawful
none-same (first ∷ rest) lawful = record { lawful = upto_lawful (first ∷ rest) 0 lawful; payloads = tt }

none_past : (h : List Entry) (n : ℕ) → slice_get h n ≡ None → length h ≤ n
none_past [] n none = omega arith
none_past (e ∷ h) zero none = absurd (cc)
none_past (e ∷ h) (suc n) none = omega (arith, none_past h n none)

module _ (h : List Entry) (lawful : IsLawful h) (t : ℕ) (entry : Entry) where
  pub upto-more : slice_get h (t + 1) ≡ Some entry → upto h (t + 1) ≡ upto h t ++ entry ∷ []
  upto-more read = take-next h (t + 1) entry read

  module _ (records : List (List ℕ)) (payload : List ℕ) (stands : LogStands records (upto h t)) (is : IsPayloadOf entry payload) where
    pub same-more : slice_get h (t + 1) ≡ Some entry → AreBeside h (records ++ payload ∷ []) (Same (t + 1))
    same-more read = (
      omega (arith, slice_get_within h (t + 1) entry read, IsLawful-length h lawful),
      subst (LogStands (records ++ payload ∷ [])) (sym (upto-more read))
          (stands-push records (upto h t) entry payload stands (next_of h (t + 1) entry lawful (omega arith) read) is),
    )

    pub other-more : t < length h → (slice_get h (t + 1) ≡ Some entry → ⊥) → HaveOther h (records ++ payload ∷ []) (t + 1)
    other-more within differ = (
      drop 1 (upto h t) ++ entry ∷ [],
      payloads-push (drop 1 (upto h t)) records entry payload stands.payloads is,
      record {
        before = drop 1 (upto h t);
        entry = entry;
        behind = [];
        entries_are = refl;
        t_is = omega (arith, within, IsLawful-length h lawful, length-drop 1 (take (t + 1) h), length-take (t + 1) h);
        other = other_of (slice_get h (t + 1)) refl;
      },
    )
      where
        other_of : (found : Option Entry) → slice_get h (t + 1) ≡ found
            → (drop 1 h ≡ drop 1 (upto h t))
            ⊎ ((instead : Entry) × (more : List Entry) × (drop 1 h ≡ drop 1 (upto h t) ++ instead ∷ more) × (entry ≢ instead))
        other_of None read =
            inl (behind_first h t
            ∙ ap (λ l. drop 1 (upto h t) ++ l) (drop_of_length-le h (none_past h (t + 1) read))
            ∙ append-nil (drop 1 (upto h t)))
        other_of (Some instead) read =
            inr (
              instead,
              drop (t + 1 + 1) h,
              behind_first h t
                  ∙ ap (λ l. drop 1 (upto h t) ++ l)
                  (drop_more h (t + 1) instead (slice_get_within h (t + 1) instead read)
                  ∙ ap (λ e. e ∷ drop (t + 1 + 1) h) (get_or_from_slice_get h (t + 1) instead instead read)),
              (λ same. differ (read ∙ ap Some (sym same))),
            )

pub other-stays : (h : List Entry) (records : List (List ℕ)) (t : ℕ) (entry : Entry) (payload : List ℕ) → HaveOther h records t
    → IsPayloadOf entry payload → HaveOther h (records ++ payload ∷ []) t
other-stays h records t entry payload have is =
    let differs = have.2 in (
      have.0 ++ entry ∷ [],
      payloads-push have.0 records entry payload have.1 is,
      record {
        before = differs.before;
        entry = differs.entry;
        behind = differs.behind ++ entry ∷ [];
        entries_are = ap (λ l. l ++ entry ∷ []) differs.entries_are
            ∙ append_assoc differs.before (differs.entry ∷ differs.behind) (entry ∷ []);
        t_is = differs.t_is;
        other = differs.other;
      },
    )

-- ---- as they are read

-- behind the records that a reading came to, these were compared
pub record Follows {D : Type 0} {g : _} (bytes : D → Option (List ℕ)) (images : D → List ℕ → Type 0) (moment : D → ℕ)
    (since : D → ℕ → List ℕ → Type 0) (h : List Entry) (first now : Reading D g) (compared : Compared) : Type 0 where
  pub records : List (List ℕ)
  pub are : AreCompared h records compared
  pub reads : (disk : D) → HasRead bytes images moment since log_mark disk [] first
      → HasRead bytes images moment since log_mark disk records now
