-- What the faults of a start and of the records tell of a target beside a history.
use Rattle.std.proofs.Common.{◌≡◌, inl, inr, ℕ, List, [], Option}
use Rattle.fb_values.specs.declared.facts.Entry.{Entry}
use Rattle.disk_model.specs.Disk.{IfKnown}
use Rattle.disk_model.specs.Journal.{log_mark, JournalStands}
use Rattle.fb_journal.specs.Starts.{CountsStart}
use Rattle.fb_journal.specs.Readings.{IsFirstFault}
use Rattle.fb_journal.specs.declared.starts.StartFault.{StartFault}
use Rattle.fb_journal.specs.declared.starts.StartFault.TheVariants.{Disk as StartDisk, BadLog as StartBadLog, Memory as StartMemory}
use Rattle.backup_model.proofs.CopiedLogs.{hold-behind}
use Rattle.fb_backup.specs.declared.faults.BackupFault.{BackupFault}
use Rattle.fb_backup.specs.declared.faults.BackupFault.TheVariants.{Disk, BadLog, Other, Memory}
use Rattle.fb_backup.specs.Backups.{fault_of, IsBackupCause, IsOutside, IsRefusal, CountsBackup}
use Rattle.fb_backup.specs.Comparing.{SaysFault}

module _ (told : Option (List ℕ)) (h : List Entry) (records : List (List ℕ)) where
  -- of the journal, where it is opened and its records are read
  pub reading-cause : (start : StartFault) → IsFirstFault log_mark told records start → IfKnown told (IsBackupCause h (fault_of start))
  reading-cause StartDisk first = λ file is. tt
  reading-cause StartMemory first = λ file is. tt
  reading-cause (StartBadLog nth at) first = λ file is. record { records = records; fault = inl (first file is) }

  -- of the records
  pub records-cause : (fault : BackupFault) → SaysFault h records fault → IfKnown told (λ file. JournalStands log_mark records file)
      → IfKnown told (IsBackupCause h fault)
  records-cause Disk says stands = absurd says
  records-cause (BadLog nth at) says stands = λ file is. record { records = records; fault = inr (stands file is, says) }
  records-cause (Other t) says stands = λ file is. (
    says.0,
    record { records = records; journal = stands file is; hold_them = hold-behind [] says.0 records says.1 },
    says.2,
  )
  records-cause Memory says stands = absurd says

pub start-counts : (start : StartFault) (old new : ℕ) → CountsStart start old new → CountsBackup (fault_of start) old new
start-counts StartDisk old new counts = counts
start-counts (StartBadLog nth at) old new counts = counts
start-counts StartMemory old new counts = counts

pub records-count : (h : List Entry) (records : List (List ℕ)) (fault : BackupFault) (old new : ℕ) → SaysFault h records fault → new ≡ old
    → CountsBackup fault old new
records-count h records Disk old new says same = absurd says
records-count h records (BadLog nth at) old new says same = same
records-count h records (Other t) old new says same = same
records-count h records Memory old new says same = absurd says

-- of the outside
pub outside-cause : (told : Option (List ℕ)) (h : List Entry) (fault : BackupFault) → IsOutside fault → IfKnown told (IsBackupCause h fault)
outside-cause told h Disk outside = λ file is. tt
outside-cause told h (BadLog nth at) outside = absurd outside
outside-cause told h (Other t) outside = absurd outside
outside-cause told h Memory outside = λ file is. tt

-- what comes from outside refuses no file
pub outside-refusal : (fault : BackupFault) → IsOutside fault → IsRefusal fault → ⊥
outside-refusal Disk outside refusal = refusal
outside-refusal (BadLog nth at) outside refusal = outside
outside-refusal (Other t) outside refusal = outside
outside-refusal Memory outside refusal = refusal
