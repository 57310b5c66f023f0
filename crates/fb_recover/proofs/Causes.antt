-- What the faults of a start and of the records tell of a file.
use Rattle.std.proofs.Common.{◌≡◌, inl, inr, ℕ, List, Option, refl, sym}
use Rattle.disk_model.specs.Disk.{IfKnown}
use Rattle.disk_model.specs.Journal.{log_mark, JournalStands}
use Rattle.log_model.specs.Log.{LogSays, log_says}
use Rattle.fb_journal.specs.Starts.{CountsStart}
use Rattle.fb_journal.specs.Readings.{IsFirstFault}
use Rattle.fb_journal.specs.declared.starts.StartFault.{StartFault}
use Rattle.fb_journal.specs.declared.starts.StartFault.TheVariants.{Disk as StartDisk, BadLog as StartBadLog, Memory as StartMemory}
use Rattle.fb_recover.specs.declared.faults.OpenFault.{OpenFault}
use Rattle.fb_recover.specs.declared.faults.OpenFault.TheVariants.{Disk, BadLog, Unlawful, Memory}
use Rattle.fb_recover.specs.Faults.{fault_of, MatchesFault, IsCause, CountsLog}

pub start-counts : (start : StartFault) (old new : ℕ) → CountsStart start old new → CountsLog (fault_of start) old new
start-counts StartDisk old new counts = counts
start-counts (StartBadLog nth at) old new counts = counts
start-counts StartMemory old new counts = counts

-- of the journal, where it is opened and its records are read
pub reading-cause : (told : Option (List ℕ)) (start : StartFault) (records : List (List ℕ)) → IsFirstFault log_mark told records start
    → IfKnown told (IsCause (fault_of start))
reading-cause told StartDisk records first = λ file is. tt
reading-cause told StartMemory records first = λ file is. tt
reading-cause told (StartBadLog nth at) records first = λ file is. (records, inr (nth, at, first file is, refl))

-- of the records
pub records-cause : (told : Option (List ℕ)) (records : List (List ℕ)) (fault : OpenFault) → MatchesFault fault (log_says records)
    → IfKnown told (λ file. JournalStands log_mark records file)
    → IfKnown told (IsCause fault)
records-cause told records (BadLog nth at) tells stands = λ file is. (records, inl (stands file is, sym tells))
records-cause told records (Unlawful t law) tells stands = λ file is. (records, inl (stands file is, sym tells))
records-cause told records Memory tells stands = λ file is. tt
records-cause told records (Disk which) tells stands = absurd tells

pub records-count : (says : LogSays) (fault : OpenFault) (old new : ℕ) → MatchesFault fault says → new ≡ old → CountsLog fault old new
records-count says (BadLog nth at) old new tells same = same
records-count says (Unlawful t law) old new tells same = same
records-count says Memory old new tells same = same
records-count says (Disk which) old new tells same = absurd tells
