-- What a backup answers of a target's log, and of its disk.
-- This project's own choice.
use Rattle.std.specs.Prelude.{◌≡◌, ℕ, List, Result, Ok, Err, ⊤}
use Rattle.io_faults.specs.Faults.{Rose}
use Rattle.fb_values.specs.declared.facts.Entry.{Entry}
use Rattle.fb_journal.specs.declared.starts.StartFault.{StartFault}
use Rattle.fb_journal.specs.declared.starts.StartFault.TheVariants.{Disk as StartDisk}
use Rattle.fb_journal.specs.declared.starts.StartFault.TheVariants.{BadLog as StartBadLog}
use Rattle.fb_journal.specs.declared.starts.StartFault.TheVariants.{Memory as StartMemory}
use Rattle.backup_model.specs.Backup.{bad_target, differs_at, BackupSays}
use Rattle.fb_backup.specs.declared.faults.Backed.{Backed}
use Rattle.fb_backup.specs.declared.faults.BackupStop.{BackupStop}
use Rattle.fb_backup.specs.declared.faults.BackupFault.{BackupFault}
use Rattle.fb_backup.specs.declared.faults.BackupFault.TheVariants.{Disk, BadLog, Other, Memory}

-- The target's file says this fault beside the history, where it is one of the file.
abbrev pub IsBackupCause : List Entry → BackupFault → List ℕ → Type 0
IsBackupCause h Disk file = ⊤
IsBackupCause h (BadLog nth at) file = BackupSays file h (bad_target nth at)
IsBackupCause h (Other t) file = BackupSays file h (differs_at t)
IsBackupCause h Memory file = ⊤

-- the fault is none of the file
abbrev pub IsOutside : BackupFault → Type 0
IsOutside Disk = ⊤
IsOutside (BadLog nth at) = ⊥
IsOutside (Other t) = ⊥
IsOutside Memory = ⊤

-- the file is refused: its log is no beginning of the history
abbrev pub IsRefusal : BackupFault → Type 0
IsRefusal Disk = ⊥
IsRefusal (BadLog nth at) = ⊤
IsRefusal (Other t) = ⊤
IsRefusal Memory = ⊥

-- a fault of the disk raised its count, and nothing else did
abbrev pub CountsBackup : BackupFault → ℕ → ℕ → Type 0
CountsBackup Disk old new = Rose old new
CountsBackup (BadLog nth at) old new = new ≡ old
CountsBackup (Other t) old new = new ≡ old
CountsBackup Memory old new = new ≡ old

-- the target's disk after a backup
abbrev pub log_left : {D : Type 0} → Result (Backed D) (BackupStop D) → D
log_left (Ok backed) = backed.log
log_left (Err stop) = stop.log

abbrev pub fault_of : StartFault → BackupFault
fault_of StartDisk = Disk
fault_of (StartBadLog nth at) = BadLog nth at
fault_of StartMemory = Memory
