-- A target's log that entries are appended to, and what became of it.
-- This project's own choice.
use Rattle.std.specs.Prelude.{ℕ, List, Option, Result, Ok, Err}
use Rattle.fb_values.specs.declared.facts.Entry.{Entry}
use Rattle.disk_model.specs.Disk.{IfKnown, LeavesOnly}
use Rattle.disk_log.specs.declared.logs.DiskLog.{DiskLog}
use Rattle.disk_log.specs.Disks.{IsLogFrom}
use Rattle.disk_log.specs.Logs.{disk_in, count_in, KeepsHistory, BrokeAt}
use Rattle.fb_backup.specs.declared.faults.BackupStop.{BackupStop}
use Rattle.fb_backup.specs.declared.faults.BackupFault.{BackupFault}
use Rattle.fb_backup.specs.declared.faults.BackupFault.TheVariants.{Disk, BadLog, Other, Memory}
use Rattle.fb_backup.specs.declared.reading.Target.{Target}
use Rattle.fb_backup.specs.Backups.{IsOutside, CountsBackup}

-- the disk after an opening
abbrev pub target_left : {D : Type 0} {g : _} → Result (Target D g) (BackupStop D) → D
target_left (Ok target) = disk_in target.log
target_left (Err stop) = stop.log

-- The log failed at this entry, after this history, or memory ran out before anything was done.
abbrev pub HasStopped : {D : Type 0} {g : _} → (D → Option (List ℕ)) → (D → List ℕ → Type 0)
    → (D → ℕ) → (D → ℕ) → (D → ℕ → List ℕ → Type 0)
    → DiskLog D g → List Entry → Entry → BackupFault → DiskLog D g → Type 0
HasStopped bytes images faults moment since begun h entry Disk now =
    BrokeAt bytes images faults moment since begun h entry now
HasStopped bytes images faults moment since begun h entry (BadLog nth at) now = ⊥
HasStopped bytes images faults moment since begun h entry (Other t) now = ⊥
HasStopped bytes images faults moment since begun h entry Memory now =
    KeepsHistory bytes images faults moment since begun h now

-- The fault is none of the file and counted, and a crash since the log was begun leaves a beginning of the history.
pub record HasLeft {D : Type 0} {g : _} (bytes : D → Option (List ℕ)) (faults moment : D → ℕ)
    (since : D → ℕ → List ℕ → Type 0) (begun : DiskLog D g) (h : List Entry) (fault : BackupFault)
    (now : DiskLog D g) : Type 0 where
  pub outside : IsOutside fault
  pub counted : CountsBackup fault (faults (disk_in begun)) (faults (disk_in now))
  pub any_moment : IfKnown (bytes (disk_in begun))
      (λ _. LeavesOnly moment since (disk_in begun) (disk_in now) (IsLogFrom (count_in begun) h))
