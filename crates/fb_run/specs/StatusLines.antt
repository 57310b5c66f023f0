-- Why the program ends, with which status, and what it says of that on standard error.
-- This project's own choice.
use Rattle.std.specs.Prelude.{ℕ, List, [], ◌∷◌, ◌++◌, Option, Some, None, codes, decimal}
use Rattle.edn_model.specs.Faults.{Fault, bad, unsupported, deep, cut}
use Rattle.edn_core.specs.Answers.{fault_of}
use Rattle.fb_ports.specs.declared.hosts.Part.{Part}
use Rattle.fb_ports.specs.declared.hosts.Part.TheVariants.{Log, Segments}
use Rattle.fb_backup.specs.declared.faults.BackupFault.TheVariants as backup_fault
use Rattle.fb_backup.specs.declared.faults.CopyFault.TheVariants as copy_fault
use Rattle.fb_recover.specs.declared.faults.OpenFault.{OpenFault}
use Rattle.fb_recover.specs.declared.faults.OpenFault.TheVariants.{Disk, BadLog, Unlawful}
use Rattle.fb_recover.specs.declared.faults.OpenFault.TheVariants.{Memory as OutOfMemory}
use Rattle.merge_worker.specs.declared.ends.WorkEnd.{WorkEnd}
use Rattle.merge_worker.specs.declared.ends.WorkEnd.TheVariants.{Shut, StoreFault, Spent}
use Rattle.merge_worker.specs.declared.ends.WorkEnd.TheVariants.{Memory as NoMemory}
use Rattle.fb_session.specs.declared.outcome.SessionEnd.{SessionEnd}
use Rattle.fb_session.specs.declared.outcome.SessionEnd.TheVariants.{Done, Script, TooLong, TooMany}
use Rattle.fb_session.specs.declared.outcome.SessionEnd.TheVariants.{ReadFault, WriteFault, Memory}
use Rattle.fb_run.specs.declared.copying.NotCopied.{NotCopied}
use Rattle.fb_run.specs.declared.copying.NotCopied.TheVariants as not_copied

-- ---- the line of a look at a directory:
-- the basis of its history, and the t up to which it is in trees

abbrev pub history_line : ℕ → ℕ → List ℕ
history_line basis covered =
    codes "{:basis "
    ++ (decimal basis ++ (codes " :covered " ++ (decimal covered ++ codes "}\n")))

-- ---- the line of a backup: the basis of the history, how many of its entries were copied,
-- and the t up to which it is in trees

abbrev pub copied_line : ℕ → ℕ → ℕ → List ℕ
copied_line basis copied covered =
    codes "{:basis "
    ++ (decimal basis
    ++ (codes " :copied "
    ++ (decimal copied ++ (codes " :covered " ++ (decimal covered ++ codes "}\n")))))

-- ---- the lines of standard error

abbrev pub usage_line : List ℕ
usage_line =
    codes "factbase: usage: factbase run [--merge-at N] [--strict] DIR SCRIPT.. | check DIR | load N"
    ++ codes " | backup DIR DIR2"

abbrev pub cannot_open : List ℕ → List ℕ
cannot_open name = codes "factbase: cannot open " ++ name

abbrev pub out_of_memory : List ℕ
out_of_memory = codes "factbase: out of memory"

abbrev pub name_of : Part → List ℕ
name_of Log = codes "log"
name_of Segments = codes "segments"

abbrev pub disk_fault : Part → List ℕ
disk_fault part = codes "factbase: disk fault on " ++ name_of part

-- a record of the log, and the byte of the file
abbrev pub record_line : ℕ → ℕ → List ℕ
record_line nth at =
    codes "factbase: bad log: record " ++ (decimal nth ++ (codes " at byte " ++ decimal at))

-- an entry of the log, and the law that it breaks
abbrev pub law_line : ℕ → ℕ → List ℕ
law_line t law =
    codes "factbase: bad log: t " ++ (decimal t ++ (codes " breaks law " ++ decimal law))

-- a disk of the target of a backup
abbrev pub target_fault : Part → List ℕ
target_fault part = codes "factbase: disk fault on target " ++ name_of part

-- a record of its log, and the byte of the file
abbrev pub target_line : ℕ → ℕ → List ℕ
target_line nth at =
    codes "factbase: bad target: record " ++ (decimal nth ++ (codes " at byte " ++ decimal at))

-- an entry of its log
abbrev pub differs_line : ℕ → List ℕ
differs_line t = codes "factbase: target differs at t " ++ decimal t

abbrev pub stopped_line : ℕ → List ℕ
stopped_line t = codes "factbase: log stopped at t " ++ decimal t

abbrev pub segment_fault : List ℕ
segment_fault = codes "factbase: segment fault"

-- what went wrong with the console
abbrev pub console_fault : List ℕ
console_fault = codes "factbase: console: write fault"

-- what went wrong with a script
abbrev pub script_line : List ℕ → List ℕ → List ℕ
script_line name what = codes "factbase: script " ++ (name ++ (codes ": " ++ what))

abbrev pub word_of : Fault → List ℕ
word_of bad = codes "bad"
word_of (unsupported what) = codes "unsupported"
word_of deep = codes "deep"
word_of cut = codes "cut"

-- a fault of a script, and its byte
abbrev pub fault_line : List ℕ → Option (Fault × ℕ) → List ℕ
fault_line name (Some p) = script_line name (word_of p.0 ++ (codes " at byte " ++ decimal p.1))
fault_line name None = out_of_memory

-- ---- what a session makes of them that ended so

abbrev pub status_of_end : SessionEnd → ℕ
status_of_end Done = 0
status_of_end (Script fault) = 5
status_of_end TooLong = 5
status_of_end TooMany = 5
status_of_end ReadFault = 6
status_of_end WriteFault = 6
status_of_end Memory = 9

abbrev pub line_of_end : List ℕ → SessionEnd → List ℕ
line_of_end name Done = []
line_of_end name (Script why) = fault_line name (fault_of why)
line_of_end name TooLong = script_line name (codes "too long")
line_of_end name TooMany = script_line name (codes "too many commands")
line_of_end name ReadFault = script_line name (codes "read fault")
line_of_end name WriteFault = script_line name (codes "write fault")
line_of_end name Memory = out_of_memory

-- ---- why the program ends

pub data Why : Type 0 where
  -- each script was answered
  answered : Why
  -- the console took the line of a look, of the generator or of a backup
  reported : Why
  -- the words are not a command
  usage : Why
  -- the host could not open what has this name
  unopened : List ℕ → Why
  -- a call of this disk of the directory failed while the database was opened
  disk_failed : Part → Why
  -- the log's first record that is none or holds no entry, and the byte of the file
  bad_record : ℕ → ℕ → Why
  -- the log's first entry that may not follow those before it, and the least law that it breaks
  unlawful : ℕ → ℕ → Why
  -- a call of this disk of a backup's target failed
  target_failed : Part → Why
  -- the first record of the target's log that is none or holds no entry, and the byte of the file
  bad_target : ℕ → ℕ → Why
  -- the t of the first entry of the target's log that is not the history's
  target_differs : ℕ → Why
  -- the session of the script with this name is the first, by number, that did not answer all of it
  ended_early : List ℕ → SessionEnd → Why
  -- the console did not take the whole line
  console_failed : Why
  -- the log did not take the entry of this t
  log_stopped : ℕ → Why
  -- the file of segments did not take the trees of a merge
  segments_failed : Why
  memory : Why

abbrev pub status_of : Why → ℕ
status_of answered = 0
status_of reported = 0
status_of usage = 1
status_of (unopened name) = 2
status_of (disk_failed part) = 3
status_of (bad_record nth at) = 4
status_of (unlawful t law) = 4
status_of (target_failed part) = 3
status_of (bad_target nth at) = 4
status_of (target_differs t) = 4
status_of (ended_early name how) = status_of_end how
status_of console_failed = 6
status_of (log_stopped t) = 7
status_of segments_failed = 8
status_of memory = 9

abbrev pub line_of : Why → List ℕ
line_of answered = []
line_of reported = []
line_of usage = usage_line
line_of (unopened name) = cannot_open name
line_of (disk_failed part) = disk_fault part
line_of (bad_record nth at) = record_line nth at
line_of (unlawful t law) = law_line t law
line_of (target_failed part) = target_fault part
line_of (bad_target nth at) = target_line nth at
line_of (target_differs t) = differs_line t
line_of (ended_early name how) = line_of_end name how
line_of console_failed = console_fault
line_of (log_stopped t) = stopped_line t
line_of segments_failed = segment_fault
line_of memory = out_of_memory

-- ---- the first session that ended early

abbrev pub first_early : List (List ℕ) → List SessionEnd → Option (List ℕ × SessionEnd)
first_early [] ends = None
first_early (name ∷ names) [] = None
first_early (name ∷ names) (Done ∷ ends) = first_early names ends
first_early (name ∷ names) (how ∷ ends) = Some (name, how)

-- how merging ended
abbrev pub why_merged : WorkEnd → Why
why_merged Shut = answered
why_merged StoreFault = segments_failed
why_merged Spent = answered
why_merged NoMemory = memory

-- What decides where sessions ran:
-- the first that ended early; else the t that the log did not take; else how merging ended.
abbrev pub why_of : Option (List ℕ × SessionEnd) → Option ℕ → WorkEnd → Why
why_of (Some p) stop end = ended_early p.0 p.1
why_of None (Some t) end = log_stopped t
why_of None None end = why_merged end

-- ---- why a database is not opened

abbrev pub why_not : OpenFault → Why
why_not (Disk part) = disk_failed part
why_not (BadLog nth at) = bad_record nth at
why_not (Unlawful t law) = unlawful t law
why_not OutOfMemory = memory

-- ---- why a backup does not copy all

abbrev pub why_not_copied : NotCopied → Why
why_not_copied (not_copied.Log backup_fault.Disk) = target_failed Log
why_not_copied (not_copied.Log (backup_fault.BadLog nth at)) = bad_target nth at
why_not_copied (not_copied.Log (backup_fault.Other t)) = target_differs t
why_not_copied (not_copied.Log backup_fault.Memory) = memory
why_not_copied (not_copied.Segments copy_fault.Disk) = target_failed Segments
why_not_copied (not_copied.Segments copy_fault.Memory) = memory
