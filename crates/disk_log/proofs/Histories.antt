-- The records of a history with one entry more, and which histories a file is the log of.
use Rattle.std.proofs.Common.{◌≡◌, ◌≤◌, ◌+◌, ◌⊎◌, inl, inr, ⊎_elim, ℕ, List, [], ◌∷◌, ◌++◌, length, sym, subst, arith}
use Rattle.fb_values.specs.declared.facts.Entry.{Entry}
use Rattle.fb_model.specs.History.{basis}
use Rattle.fb_model.specs.Lawful.{IsLawful, IsLawfulAfter}
use Rattle.fb_model.proofs.OneMoreEntry.{basis-push, upto-append}
use Rattle.fb_model.proofs.LawfulHistories.{IsLawful-push, IsLawful-length}
use Rattle.fb_model.proofs.Times.{next_t, upto-basis}
use Rattle.disk_model.specs.Disk.{LeavesOnly}
use Rattle.disk_model.specs.Journal.{log_mark, JournalStands}
use Rattle.disk_model.proofs.Moments.{joined}
use Rattle.log_model.specs.Storable.{IsPayloadOf}
use Rattle.log_model.specs.Log.{ArePayloadsOf, LogStands, IsLogOf}
use Rattle.fb_journal.specs.Journals.{IsBeforeOrAfter}
use Rattle.disk_log.specs.Disks.{IsLogFrom}

pub payloads-push : (entries : List Entry) (records : List (List ℕ)) (entry : Entry) (payload : List ℕ) → ArePayloadsOf entries records
    → IsPayloadOf entry payload
    → ArePayloadsOf (entries ++ entry ∷ []) (records ++ payload ∷ [])
payloads-push [] [] entry payload are is = (is, tt)
payloads-push [] (p ∷ records) entry payload are is = absurd are
payloads-push (e ∷ entries) [] entry payload are is = absurd are
payloads-push (e ∷ entries) (p ∷ records) entry payload are is = (are.0, payloads-push entries records entry payload are.1 is)

payloads-length : (entries : List Entry) (records : List (List ℕ)) → ArePayloadsOf entries records → length records ≡ length entries
payloads-length [] [] are = omega arith
payloads-length [] (p ∷ records) are = absurd are
payloads-length (e ∷ entries) [] are = absurd are
payloads-length (e ∷ entries) (p ∷ records) are = omega (arith, payloads-length entries records are.1)

pub stands-push : (records : List (List ℕ)) (h : List Entry) (entry : Entry) (payload : List ℕ) → LogStands records h
    → IsLawfulAfter h entry → IsPayloadOf entry payload
    → LogStands (records ++ payload ∷ []) (h ++ entry ∷ [])
stands-push records [] entry payload stands next is = absurd stands.lawful
stands-push records (first ∷ rest) entry payload stands next is = record {
  lawful = IsLawful-push (first ∷ rest) entry stands.lawful next;
  payloads = payloads-push rest records entry payload stands.payloads is;
}

-- there is a record for each entry but the first
pub stands-count : (records : List (List ℕ)) (h : List Entry) → LogStands records h → length records ≡ basis h
stands-count records [] stands = absurd stands.lawful
stands-count records (first ∷ rest) stands =
    let counted : length (first ∷ rest) ≡ basis (first ∷ rest) + 1 = IsLawful-length (first ∷ rest) stands.lawful in
    omega (arith, counted, payloads-length rest records stands.payloads)

-- ---- which histories an image is the log of

module _ (r : ℕ) (h : List Entry) (image : List ℕ) (lawful : IsLawful h) where
  pub whole-from : r ≤ basis h → IsLogOf image h → IsLogFrom r h image
  whole-from within is = (basis h, within, omega arith, subst (λ (l : List Entry). IsLogOf image l) (sym (upto-basis h lawful)) is)

  pub longer-from : (entry : Entry) → IsLawfulAfter h entry → IsLogFrom r h image → IsLogFrom r (h ++ entry ∷ []) image
  longer-from entry next from =
      let most : from.0 ≤ basis h = from.2 in (
        from.0,
        from.1,
        omega (arith, most, basis-push h entry, next_t h entry next),
        subst (λ (l : List Entry). IsLogOf image l)
            (sym (upto-append h (entry ∷ []) from.0 (omega (arith, most, IsLawful-length h lawful)))) from.3,
      )

-- what stands for the records of a history, or for these and the next entry's
pub before-or-after : (records : List (List ℕ)) (h : List Entry) (entry : Entry) (payload image mark : List ℕ) → LogStands records h
    → IsLawfulAfter h entry → IsPayloadOf entry payload → mark ≡ log_mark
    → IsBeforeOrAfter mark records payload image → IsLogOf image h ⊎ IsLogOf image (h ++ entry ∷ [])
before-or-after records h entry payload image mark stands next is log left =
    ⊎_elim
    (λ before. inl (record
    { records = records; journal = subst (λ (m : List ℕ). JournalStands m records image) log before; stands = stands }))
    (λ after. inr (record {
      records = records ++ payload ∷ [];
      journal = subst
          (λ (m : List ℕ). JournalStands m (records ++ payload ∷ []) image) log after;
      stands = stands-push records h entry payload
          stands next is;
    }))
    left

-- a crash since the opening, where one record more was added
pub run-added : {D : Type 0} (moment : D → ℕ) (since : D → ℕ → List ℕ → Type 0) (begun old new : D) (r : ℕ) (records : List (List ℕ))
    (h : List Entry) (entry : Entry) (payload mark : List ℕ)
    → LogStands records h → IsLawfulAfter h entry → IsPayloadOf entry payload → mark ≡ log_mark → r ≤ basis h
    → LeavesOnly moment since begun old (IsLogFrom r h) → LeavesOnly moment since old new (IsBeforeOrAfter mark records payload)
    → LeavesOnly moment since begun new (IsLogFrom r (h ++ entry ∷ []))
run-added moment since begun old new r records h entry payload mark stands next is log within first second =
    let lawful : IsLawful h = stands.lawful in
    let within' : r ≤ basis (h ++ entry ∷ []) = omega (arith, within, basis-push h entry, next_t h entry next) in
    joined moment since begun old new (IsLogFrom r h) (IsBeforeOrAfter mark records payload) (IsLogFrom r (h ++ entry ∷ [])) first second
    (λ image from. longer-from r h image lawful entry next from)
    (λ image left. ⊎_elim
    (λ before. longer-from r h image lawful entry next (whole-from r h image lawful within before))
    (λ after. whole-from r (h ++ entry ∷ []) image (IsLawful-push h entry lawful next) within' after)
    (before-or-after records h entry payload image mark stands next is log left))
