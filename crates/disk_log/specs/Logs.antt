-- A log on a disk and the history that it keeps.
-- This project's own choice.
use Rattle.std.specs.Prelude.{◌≡◌, ◌≤◌, ℕ, List, Option}
use Rattle.fb_values.specs.declared.facts.Entry.{Entry}
use Rattle.fb_model.specs.History.{basis}
use Rattle.disk_model.specs.Journal.{log_mark}
use Rattle.log_model.specs.Log.{LogStands}
use Rattle.fb_journal.specs.Journals.{disk_of, mark_of, count_of, Keeps}
use Rattle.disk_log.specs.Disks.{HasKept, HasBroken}
use Rattle.disk_log.specs.declared.logs.DiskLog.{DiskLog}

abbrev pub disk_in : {D : Type 0} {g : _} → DiskLog D g → D
disk_in log = disk_of log.journal

-- how many records it has
abbrev pub count_in : {D : Type 0} {g : _} → DiskLog D g → ℕ
count_in log = count_of log.journal

-- The log goes on, and its records stand for this history,
-- which has all that it had at the opening.
pub record KeepsHistory {D : Type 0} {g : _} (bytes : D → Option (List ℕ))
    (images : D → List ℕ → Type 0) (faults moment : D → ℕ) (since : D → ℕ → List ℕ → Type 0)
    (begun : DiskLog D g) (h : List Entry) (now : DiskLog D g) : Type 0 where
  pub records : List (List ℕ)
  pub stands : LogStands records h
  pub journal : Keeps bytes images records now.journal
  pub mark : mark_of now.journal ≡ log_mark
  pub opening : count_in begun ≤ basis h
  pub disk : HasKept bytes images faults moment since (count_in begun) (disk_in begun) h
      (disk_in now)

-- the log kept this history until it failed at this entry
abbrev pub BrokeAt : {D : Type 0} {g : _} → (D → Option (List ℕ)) → (D → List ℕ → Type 0)
    → (D → ℕ) → (D → ℕ) → (D → ℕ → List ℕ → Type 0)
    → DiskLog D g → List Entry → Entry → DiskLog D g → Type 0
BrokeAt bytes images faults moment since begun h entry now =
    HasBroken bytes images faults moment since (count_in begun) (disk_in begun) h entry
    (disk_in now)
