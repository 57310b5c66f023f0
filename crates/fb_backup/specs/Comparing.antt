-- What the records of a log are beside a history, as they are read one after another.
-- This project's own choice.
use Rattle.std.specs.Prelude.{◌≡◌, ◌≤◌, ℕ, List, [], drop}
use Rattle.fb_values.specs.declared.facts.Entry.{Entry}
use Rattle.fb_model.specs.History.{basis, upto}
use Rattle.log_model.specs.Log.{ArePayloadsOf, LogStands, bad_at, entries_behind}
use Rattle.backup_model.specs.Backup.{Differs}
use Rattle.fb_backup.specs.declared.faults.BackupFault.{BackupFault}
use Rattle.fb_backup.specs.declared.faults.BackupFault.TheVariants.{Disk, BadLog, Other as OtherFault}
use Rattle.fb_backup.specs.declared.faults.BackupFault.TheVariants.{Memory}
use Rattle.fb_backup.specs.declared.comparing.Compared.{Compared}
use Rattle.fb_backup.specs.declared.comparing.Compared.TheVariants.{Entries, Misfit}
use Rattle.fb_backup.specs.declared.comparing.Beside.{Beside}
use Rattle.fb_backup.specs.declared.comparing.Beside.TheVariants.{Same, Other}

-- each record holds an entry, and that of this t is the first that is not the history's
abbrev pub HaveOther : List Entry → List (List ℕ) → ℕ → Type 0
HaveOther h records t =
    (entries : List Entry) × ArePayloadsOf entries records × Differs entries (drop 1 h) t

abbrev pub AreBeside : List Entry → List (List ℕ) → Beside → Type 0
AreBeside h records (Same t) = (t ≤ basis h) × LogStands records (upto h t)
AreBeside h records (Other t) = HaveOther h records t

abbrev pub AreCompared : List Entry → List (List ℕ) → Compared → Type 0
AreCompared h records (Entries beside) = AreBeside h records beside
AreCompared h records (Misfit nth at) = entries_behind [] records ≡ bad_at nth at

-- the fault is one of the records
abbrev pub SaysFault : List Entry → List (List ℕ) → BackupFault → Type 0
SaysFault h records Disk = ⊥
SaysFault h records (BadLog nth at) = entries_behind [] records ≡ bad_at nth at
SaysFault h records (OtherFault t) = HaveOther h records t
SaysFault h records Memory = ⊥
