-- What the records of a log say is what they stand for.
use Rattle.std.proofs.Common.{◌≡◌, ◌<◌, ℕ, suc, List, [], ◌∷◌, ◌++◌, length, refl, sym, ◌∙◌, ap, subst, arith, Option, Some, None}
use Rattle.std.specs.Prelude.{All}
use Rattle.std.specs.List.{AllByRecursion}
use Rattle.std.specs.Option.{option_map_or}
use Rattle.fb_values.specs.declared.facts.Entry.{Entry}
use Rattle.fb_model.specs.FirstEntry.{first_entry}
use Rattle.fb_model.specs.Lawful.{IsLawfulFrom, least_law}
use Rattle.fb_model.proofs.Invariants.{lawful-least_law, least_law-lawful}
use Rattle.log_model.specs.Payload.{PayloadSays, holds, breaks_at, payload_says}
use Rattle.log_model.specs.Log.{ArePayloadsOf, LogStands, RecordsSay, hold, bad_at, with_entry, with_record, entries_behind, first_unlawful}
use Rattle.log_model.specs.Log.{LogSays, stands_for, bad_record, unlawful, judged, log_reading, log_says}
use Rattle.log_model.proofs.Numbers.{AreBytes}
use Rattle.log_model.proofs.Entries.{says-entry_bytes, says-IsPayloadOf}

pub AreBytes-All : (bytes : List ℕ) → All (λ byte. byte < 256) bytes → AreBytes bytes
AreBytes-All [] all = tt
AreBytes-All (b ∷ bytes) all = (all 0 0 (omega arith), AreBytes-All bytes (λ k d below. all (suc k) d (omega (arith, below))))

-- ---- what stands is said

entries_behind-payloads : (before : List (List ℕ)) (entries : List Entry) (records : List (List ℕ)) → ArePayloadsOf entries records
    → entries_behind before records ≡ hold entries
entries_behind-payloads before [] [] are = refl
entries_behind-payloads before [] (payload ∷ records) are = absurd are
entries_behind-payloads before (entry ∷ entries) [] are = absurd are
entries_behind-payloads before (entry ∷ entries) (payload ∷ records) are =
    ap (λ said. with_record before said (entries_behind (before ++ payload ∷ []) records)) (says-entry_bytes entry payload are.0)
    ∙ ap (with_entry entry) (entries_behind-payloads (before ++ payload ∷ []) entries records are.1)

first_unlawful-none : (h entries : List Entry) → IsLawfulFrom h entries → first_unlawful h entries ≡ None
first_unlawful-none h [] lawful = refl
first_unlawful-none h (entry ∷ rest) lawful =
    ap (λ law. option_map_or (λ (n : ℕ). Some (length h, n)) law (first_unlawful (h ++ entry ∷ []) rest))
    (least_law-lawful h entry lawful.0)
    ∙ first_unlawful-none (h ++ entry ∷ []) rest lawful.1

pub log_says-stands : (records : List (List ℕ)) (h : List Entry) → LogStands records h → log_says records ≡ stands_for h
log_says-stands records [] stands = absurd stands.lawful
log_says-stands records (first ∷ entries) stands =
    ap log_reading (entries_behind-payloads [] entries records stands.payloads)
    ∙ ap (judged entries)
    (first_unlawful-none (first_entry ∷ []) entries (subst (λ e. IsLawfulFrom (e ∷ []) entries) stands.lawful.0 stands.lawful.1))
    ∙ ap (λ e. stands_for (e ∷ entries)) (sym stands.lawful.0)

-- ---- what is said stands

abbrev history_in : LogSays → List Entry
history_in (stands_for h) = h
history_in (bad_record nth byte) = []
history_in (unlawful t law) = []

pub one_history : (records : List (List ℕ)) (first second : List Entry) → LogStands records first → LogStands records second
    → first ≡ second
one_history records first second one other = ap history_in (sym (log_says-stands records first one) ∙ log_says-stands records second other)

abbrev pub entries_of : RecordsSay → List Entry
entries_of (hold entries) = entries
entries_of (bad_at nth byte) = []

abbrev pub IsHeld : RecordsSay → Type 0
IsHeld (hold entries) = Unit {0}
IsHeld (bad_at nth byte) = ⊥

held : (said : RecordsSay) (entries : List Entry) → said ≡ hold entries → IsHeld said
held said entries is = subst IsHeld (sym is) tt

-- a record behind which entries are held, itself holds the first of them
record HoldsFirst (said : PayloadSays) (behind : RecordsSay) (entries : List Entry) : Type 0 where
  first : Entry
  others : List Entry
  here : said ≡ holds first
  there : behind ≡ hold others
  all : first ∷ others ≡ entries

holds_first : (before : List (List ℕ)) (said : PayloadSays) (behind : RecordsSay) (entries : List Entry)
    → with_record before said behind ≡ hold entries → HoldsFirst said behind entries
holds_first before (holds entry) (hold others) entries is =
    record { first = entry; others = others; here = refl; there = refl; all = ap entries_of is }
holds_first before (holds entry) (bad_at nth byte) entries is = absurd (held (bad_at nth byte) entries is)
holds_first before (breaks_at byte) behind entries is = absurd (held (with_record before (breaks_at byte) behind) entries is)

abbrev pub AreRecords : List (List ℕ) → Type 0
AreRecords records = AllByRecursion (λ payload. AreBytes payload) records

pub payloads-entries_behind : (before records : List (List ℕ)) (entries : List Entry) → AreRecords records
    → entries_behind before records ≡ hold entries → ArePayloadsOf entries records
payloads-entries_behind before [] entries are is = subst (λ es. ArePayloadsOf es []) (ap entries_of is) tt
payloads-entries_behind before (payload ∷ records) entries are is =
    let split = holds_first before (payload_says payload) (entries_behind (before ++ payload ∷ []) records) entries is in
    subst (λ es. ArePayloadsOf es (payload ∷ records)) split.all (
      says-IsPayloadOf payload split.first are.0 split.here,
      payloads-entries_behind (before ++ payload ∷ []) records split.others are.1 split.there,
    )

none-first_unlawful_behind : (h rest : List Entry) (entry : Entry) (law : Option ℕ) (behind : Option (ℕ × ℕ))
    → option_map_or (λ (n : ℕ). Some (length h, n)) law behind ≡ None → (law ≡ None) × (behind ≡ None)
none-first_unlawful_behind h rest entry None behind is = (refl, is)
none-first_unlawful_behind h rest entry (Some n) behind is = absurd (subst IsNone (sym is) tt)
  where
    IsNone : Option (ℕ × ℕ) → Type 0
    IsNone None = Unit {0}
    IsNone (Some x) = ⊥

lawful-first_unlawful : (h entries : List Entry) → first_unlawful h entries ≡ None → IsLawfulFrom h entries
lawful-first_unlawful h [] is = tt
lawful-first_unlawful h (entry ∷ rest) is =
    let split = none-first_unlawful_behind h rest entry (least_law h entry) (first_unlawful (h ++ entry ∷ []) rest) is in
    (lawful-least_law h entry split.0, lawful-first_unlawful (h ++ entry ∷ []) rest split.1)

abbrev pub Stands : LogSays → Type 0
Stands (stands_for h) = Unit {0}
Stands (bad_record nth byte) = ⊥
Stands (unlawful t law) = ⊥

module _ (records : List (List ℕ)) (h : List Entry) (are : AreRecords records) where
  from_judged : (entries : List Entry) → entries_behind [] records ≡ hold entries
      → (wrong : Option (ℕ × ℕ)) → first_unlawful (first_entry ∷ []) entries ≡ wrong → judged entries wrong ≡ stands_for h
      → LogStands records h
  from_judged entries behind None none is =
      subst (LogStands records) (ap history_in is) (record {
        lawful = (refl, lawful-first_unlawful (first_entry ∷ []) entries none);
        payloads = payloads-entries_behind [] records entries are behind;
      })
  from_judged entries behind (Some wrong) some is = absurd (subst Stands (sym is) tt)

  from_told : (said : RecordsSay) → entries_behind [] records ≡ said → log_reading said ≡ stands_for h → LogStands records h
  from_told (hold entries) behind is = from_judged entries behind (first_unlawful (first_entry ∷ []) entries) refl is
  from_told (bad_at nth byte) behind is = absurd (subst Stands (sym is) tt)

pub AreRecords-All : (records : List (List ℕ)) → All (λ (payload : List ℕ). All (λ byte. byte < 256) payload) records → AreRecords records
AreRecords-All [] all = tt
AreRecords-All (payload ∷ records) all =
    (AreBytes-All payload (all 0 [] (omega arith)), AreRecords-All records (λ k d below. all (suc k) d (omega (arith, below))))

pub stands-log_says_of : (records : List (List ℕ)) (h : List Entry) → AreRecords records → log_says records ≡ stands_for h
    → LogStands records h
stands-log_says_of records h are is = from_told records h are (entries_behind [] records) refl is

pub stands-log_says : (records : List (List ℕ)) (h : List Entry) → All (λ (payload : List ℕ). All (λ byte. byte < 256) payload) records
    → log_says records ≡ stands_for h → LogStands records h
stands-log_says records h all is = stands-log_says_of records h (AreRecords-All records all) is
