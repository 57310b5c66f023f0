-- What a log keeps as it is opened, with one entry more, and after a failure.
use Rattle.std.proofs.Common.{◌≡◌, ◌≤◌, ℕ, List, [], ◌∷◌, ◌++◌, length, Option, None, Result, Err, refl, sym, ◌∙◌, ap, subst, arith}
use Rattle.io_faults.specs.Faults.{Rose}
use Rattle.fb_values.specs.declared.facts.Entry.{Entry}
use Rattle.fb_model.specs.History.{basis}
use Rattle.fb_model.specs.Lawful.{IsLawfulAfter}
use Rattle.fb_model.proofs.OneMoreEntry.{basis-push}
use Rattle.fb_model.proofs.Times.{next_t}
use Rattle.disk_model.specs.Disk.{IfKnown, LeavesOnly}
use Rattle.disk_model.specs.Journal.{log_mark, JournalStands}
use Rattle.disk_model.proofs.Journals.{stands-holds}
use Rattle.disk_model.proofs.Moments.{started}
use Rattle.log_model.specs.Storable.{IsPayloadOf}
use Rattle.log_model.specs.Log.{LogStands, IsLogOf}
use Rattle.fb_journal.specs.Journals.{disk_of, mark_of, stop_of, Keeps, StaysKnown, IsBeforeOrAfter}
use Rattle.fb_journal.specs.declared.journals.Journal.{Journal}
use Rattle.fb_journal.specs.declared.journals.JournalFault.{JournalFault}
use Rattle.fb_journal.specs.declared.journals.JournalFault.TheVariants.{Disk, Stopped}
use Rattle.disk_log.specs.declared.logs.DiskLog.{DiskLog}
use Rattle.disk_log.specs.Disks.{IsLogFrom}
use Rattle.disk_log.specs.Logs.{disk_in, count_in, KeepsHistory, BrokeAt}
use Rattle.disk_log.proofs.Histories.{stands-push, stands-count, whole-from, before-or-after, run-added}

-- what a crash leaves of a journal that keeps the records
pub left-of : {D : Type 0} {g : _} (bytes : D → Option (List ℕ)) (images : D → List ℕ → Type 0) (records : List (List ℕ)) (h : List Entry)
    (j : Journal D g)
    → Keeps bytes images records j → mark_of j ≡ log_mark → LogStands records h
    → IfKnown (bytes (disk_of j)) (λ _. (image : List ℕ) → images (disk_of j) image → IsLogOf image h)
left-of bytes images records h j keeps mark stands = λ file told image left.
    let kept = keeps.file file told in
    let here : JournalStands log_mark records file = subst (λ (m : List ℕ). JournalStands m records file) mark
    (stands-holds (mark_of j) records file (ap length mark) kept.0) in
    record {
      records = records;
      journal = subst (λ (f : List ℕ). JournalStands log_mark records f)
          (sym (kept.1 image left)) here;
      stands = stands;
    }

pub keeps-opened : {D : Type 0} {g : _} (bytes : D → Option (List ℕ)) (images : D → List ℕ → Type 0) (faults moment : D → ℕ)
    (since : D → ℕ → List ℕ → Type 0)
    → ((disk : D) (image : List ℕ) → since disk (moment disk) image → images disk image)
    → (records : List (List ℕ)) (h : List Entry) (log : DiskLog D g) → Keeps bytes images records log.journal
    → mark_of log.journal ≡ log_mark → LogStands records h
    → KeepsHistory bytes images faults moment since log h log
keeps-opened bytes images faults moment since only_now records h log keeps mark stands =
    let count : length records ≡ basis h = stands-count records h stands in
    let within : count_in log ≤ basis h = omega (arith, keeps.count, count) in
    let left = left-of bytes images records h log.journal keeps mark stands in record {
      records = records;
      stands = stands;
      journal = keeps;
      mark = mark;
      opening = within;
      disk = record {
        unfailed = refl;
        known = λ file told. (file, told);
        left = left;
        any_moment = λ file told.
            started moment since (disk_in log) (IsLogFrom (count_in log) h)
            (λ image here. whole-from (count_in log) h image stands.lawful within
            (left file told image (only_now (disk_in log) image here)));
      };
    }

-- ---- one record more, or a failure

module _ {D : Type 0} (bytes : D → Option (List ℕ)) (images : D → List ℕ → Type 0) (faults moment : D → ℕ)
    (since : D → ℕ → List ℕ → Type 0) (h : List Entry) (entry : Entry) (payload : List ℕ)
    (is : IsPayloadOf entry payload) (next : IsLawfulAfter h entry) where
  pub keeps-added : {g : _} (begun old new : DiskLog D g)
      → ((records : List (List ℕ)) → Keeps bytes images records old.journal → Keeps bytes images (records ++ payload ∷ []) new.journal)
      → ((records : List (List ℕ)) → Keeps bytes images records old.journal
      → IfKnown (bytes (disk_in old))
      (λ _. LeavesOnly moment since (disk_in old) (disk_in new) (IsBeforeOrAfter (mark_of old.journal) records payload)))
      → StaysKnown (bytes (disk_in old)) (bytes (disk_in new)) → mark_of new.journal ≡ mark_of old.journal
      → faults (disk_in new) ≡ faults (disk_in old)
      → KeepsHistory bytes images faults moment since begun h old
      → KeepsHistory bytes images faults moment since begun (h ++ entry ∷ []) new
  keeps-added begun old new acknowledged any_moment told same counted keeps =
      let records : List (List ℕ) = keeps.records in
      let journal = acknowledged records keeps.journal in
      let mark : mark_of new.journal ≡ log_mark = same ∙ keeps.mark in
      let stands = stands-push records h entry payload keeps.stands next is in record {
        records = records ++ payload ∷ [];
        stands = stands;
        journal = journal;
        mark = mark;
        opening = omega (arith, keeps.opening, basis-push h entry, next_t h entry next);
        disk = record {
          unfailed = counted ∙ keeps.disk.unfailed;
          known = λ file was. let mid = keeps.disk.known file was in told mid.0 mid.1;
          left = λ file was.
              let mid = keeps.disk.known file was in let now = told mid.0 mid.1 in
              left-of bytes images (records ++ payload ∷ []) (h ++ entry ∷ []) new.journal journal mark stands now.0 now.1;
          any_moment = λ file was.
              let mid = keeps.disk.known file was in
              run-added moment since (disk_in begun) (disk_in old) (disk_in new) (count_in begun) records h entry payload
              (mark_of old.journal) keeps.stands next is keeps.mark keeps.opening
              (keeps.disk.any_moment file was) (any_moment records keeps.journal mid.0 mid.1);
        };
      }

  pub broke-added : {g : _} (begun old new : DiskLog D g)
      → ((disk : D) (t : ℕ) (image : List ℕ) → t ≤ moment disk → images disk image → since disk t image)
      → ((records : List (List ℕ)) → Keeps bytes images records old.journal
      → IfKnown (bytes (disk_in old))
      (λ _. LeavesOnly moment since (disk_in old) (disk_in new) (IsBeforeOrAfter (mark_of old.journal) records payload)))
      → (stop_of old.journal ≡ None → Rose (faults (disk_in old)) (faults (disk_in new)))
      → KeepsHistory bytes images faults moment since begun h old → BrokeAt bytes images faults moment since begun h entry new
  broke-added begun old new counts_now any_moment rose keeps =
      let records : List (List ℕ) = keeps.records in record {
        failed = subst (λ (n : ℕ). Rose n (faults (disk_in new))) keeps.disk.unfailed (rose keeps.journal.goes_on);
        left = λ file was image here.
            let mid = keeps.disk.known file was in let run = any_moment records keeps.journal mid.0 mid.1 in
            before-or-after records h entry payload image (mark_of old.journal) keeps.stands next is keeps.mark
            (run.each image (counts_now (disk_in new) (moment (disk_in old)) image run.later here));
        any_moment = λ file was.
            let mid = keeps.disk.known file was in
            run-added moment since (disk_in begun) (disk_in old) (disk_in new) (count_in begun) records h entry payload
            (mark_of old.journal) keeps.stands next is keeps.mark keeps.opening
            (keeps.disk.any_moment file was) (any_moment records keeps.journal mid.0 mid.1);
      }

-- a journal that goes on fails where its disk does
pub failed-rose : {T : Type 0} (r : Result T JournalFault) (fault : JournalFault) (stopped : Option ℕ) (old new : ℕ) → r ≡ Err fault
    → (r ≡ Err Disk → Rose old new)
    → (stopped ≡ None → (at : ℕ) → r ≡ Err (Stopped at) → ⊥) → stopped ≡ None → Rose old new
failed-rose r Disk stopped old new is cause going none = cause is
failed-rose r (Stopped at) stopped old new is cause going none = absurd (going none at is)
