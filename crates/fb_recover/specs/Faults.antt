-- What a fault says of a log, and of the two disks.
-- This project's own choice.
use Rattle.std.specs.Prelude.{◌≡◌, ℕ, List, ⊤}
use Rattle.io_faults.specs.Faults.{Rose}
use Rattle.fb_values.specs.declared.facts.Entry.{Entry}
use Rattle.fb_ports.specs.declared.hosts.Part.{Part}
use Rattle.fb_ports.specs.declared.hosts.Part.TheVariants.{Log, Segments}
use Rattle.log_model.specs.Log.{LogSays, bad_record, unlawful, FileSays, IsLogOf}
use Rattle.fb_journal.specs.declared.starts.StartFault.{StartFault}
use Rattle.fb_journal.specs.declared.starts.StartFault.TheVariants.{Disk as StartDisk}
use Rattle.fb_journal.specs.declared.starts.StartFault.TheVariants.{BadLog as StartBadLog}
use Rattle.fb_journal.specs.declared.starts.StartFault.TheVariants.{Memory as StartMemory}
use Rattle.seg_store.specs.declared.loads.LoadFault.{LoadFault}
use Rattle.seg_store.specs.declared.loads.LoadFault.TheVariants.{Disk as LoadDisk}
use Rattle.seg_store.specs.declared.loads.LoadFault.TheVariants.{Memory as LoadMemory}
use Rattle.fb_recover.specs.declared.faults.OpenFault.{OpenFault}
use Rattle.fb_recover.specs.declared.faults.OpenFault.TheVariants.{Disk, BadLog, Unlawful, Memory}

abbrev pub fault_of : StartFault → OpenFault
fault_of StartDisk = Disk Log
fault_of (StartBadLog nth at) = BadLog nth at
fault_of StartMemory = Memory

abbrev pub fault_of_load : LoadFault → OpenFault
fault_of_load LoadDisk = Disk Segments
fault_of_load LoadMemory = Memory

-- The log's records say this fault, or memory ran out.
abbrev pub MatchesFault : OpenFault → LogSays → Type 0
MatchesFault (BadLog nth at) says = says ≡ bad_record nth at
MatchesFault (Unlawful t law) says = says ≡ unlawful t law
MatchesFault Memory says = ⊤
MatchesFault (Disk which) says = ⊥

-- The log's file says this fault, where it is one of the log.
-- One of the segments comes only over a log of a history.
abbrev pub IsCause : OpenFault → List ℕ → Type 0
IsCause (BadLog nth at) file = FileSays file (bad_record nth at)
IsCause (Unlawful t law) file = FileSays file (unlawful t law)
IsCause Memory file = ⊤
IsCause (Disk Log) file = ⊤
IsCause (Disk Segments) file = (h : List Entry) × IsLogOf file h

-- the fault is one of the log, of its disk or of its file
abbrev pub IsOfLog : OpenFault → Type 0
IsOfLog (Disk Log) = ⊤
IsOfLog (Disk Segments) = ⊥
IsOfLog (BadLog nth at) = ⊤
IsOfLog (Unlawful t law) = ⊤
IsOfLog Memory = ⊥

-- a fault of this part's disk raised the disk's count, and nothing else did
abbrev pub CountsOpening : OpenFault → Part → ℕ → ℕ → Type 0
CountsOpening (Disk Log) Log old new = Rose old new
CountsOpening (Disk Log) Segments old new = new ≡ old
CountsOpening (Disk Segments) Log old new = new ≡ old
CountsOpening (Disk Segments) Segments old new = Rose old new
CountsOpening (BadLog nth at) part old new = new ≡ old
CountsOpening (Unlawful t law) part old new = new ≡ old
CountsOpening Memory part old new = new ≡ old

-- The fault is none of the segments.
-- One of the log's disk raised the disk's count, and nothing else did.
abbrev pub CountsLog : OpenFault → ℕ → ℕ → Type 0
CountsLog (Disk Log) old new = Rose old new
CountsLog (Disk Segments) old new = ⊥
CountsLog (BadLog nth at) old new = new ≡ old
CountsLog (Unlawful t law) old new = new ≡ old
CountsLog Memory old new = new ≡ old
