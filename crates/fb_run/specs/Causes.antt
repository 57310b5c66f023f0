-- What causes the status of a run, the line that it says and what it hands back.
-- This project's own choice.
use Rattle.std.specs.Prelude.{◌≡◌, ℕ, zero, suc, ◌⊎◌, List, [], ◌∷◌, ◌++◌, codes, map, Option, Some}
use Rattle.std.specs.Prelude.{None, IsSome, IfSome, slice_get, string_bytes}
use Rattle.std.specs.Io.KnownBytes.{append_known}
use Rattle.fb_values.specs.declared.facts.Entry.{Entry}
use Rattle.fb_model.specs.History.{basis}
use Rattle.disk_model.specs.Disk.{IfKnown}
use Rattle.log_model.specs.Log.{IsLogOf, FileSays, bad_record as bad_record_there}
use Rattle.log_model.specs.Log.{unlawful as unlawful_there}
use Rattle.fb_view.specs.SnapshotModel.{SnapshotModel}
use Rattle.fb_ports.specs.Faults.{Rose}
use Rattle.fb_ports.specs.HostSpec.{HostSpec}
use Rattle.fb_ports.specs.declared.hosts.Part.{Part}
use Rattle.fb_ports.specs.declared.hosts.Part.TheVariants.{Log, Segments}
use Rattle.command_line.specs.Words.{Command, run, check, load, backup, scripts_of, sink_of}
use Rattle.command_line.specs.Words.{standard}
use Rattle.backup_model.specs.Backup.{Plan, appends, copied_of, BackupSays, differs_at}
use Rattle.backup_model.specs.Backup.{bad_target as bad_target_there}
use Rattle.fb_session.specs.declared.outcome.SessionEnd.{SessionEnd}
use Rattle.fb_session.specs.Replies.{SourceCount, SinkCount}
use Rattle.fb_session.specs.Written.{TakesPart}
use Rattle.fb_run.specs.declared.outcome.SessionOut.{SessionOut}
use Rattle.fb_run.specs.declared.outcome.Outcome.{Outcome}
use Rattle.fb_run.specs.Outside.{StreamSpec, DiskSpec, ports_of, OpensUpTo, IsDiskOf, EachOf}
use Rattle.fb_run.specs.Headline.{stop_of}
use Rattle.fb_run.specs.Generated.{loads_of, spec_in_memory, in_memory}
use Rattle.fb_run.specs.Summary.{IsSummary}
use Rattle.fb_run.specs.Logs.{HasHistory, IsUnharmed}
use Rattle.fb_recover.specs.Openings.{HasCoverage}
use Rattle.fb_run.specs.Coverage.{StaysCovered}
use Rattle.fb_run.specs.StatusLines.{Why, answered, reported, usage, unopened, disk_failed}
use Rattle.fb_run.specs.StatusLines.{bad_record, unlawful, target_failed, bad_target}
use Rattle.fb_run.specs.StatusLines.{target_differs, ended_early, console_failed, log_stopped}
use Rattle.fb_run.specs.StatusLines.{segments_failed, memory, out_of_memory, history_line}
use Rattle.fb_run.specs.StatusLines.{copied_line}
use Rattle.fb_run.specs.StatusLines.{status_of, line_of, first_early}

-- ---- what is handed back

-- no line went out to a console
abbrev pub HasNoConsole : {I O D : Type 0} → Outcome I O D → Type 0
HasNoConsole outcome = outcome.console ≡ None

-- the disk of this part of the directory
abbrev pub part_of : {I O D : Type 0} → Outcome I O D → Part → Option D
part_of outcome Log = outcome.log
part_of outcome Segments = outcome.segments

-- both disks
pub record HasDisks {I O D : Type 0} (outcome : Outcome I O D) : Type 0 where
  pub log : IsSome outcome.log
  pub segments : IsSome outcome.segments

-- neither of them
pub record HasNoDisk {I O D : Type 0} (outcome : Outcome I O D) : Type 0 where
  pub log : outcome.log ≡ None
  pub segments : outcome.segments ≡ None

-- the disk of this part of a backup's target
abbrev pub target_part_of : {I O D : Type 0} → Outcome I O D → Part → Option D
target_part_of outcome Log = outcome.target_log
target_part_of outcome Segments = outcome.target_segments

-- both of these
pub record HasTarget {I O D : Type 0} (outcome : Outcome I O D) : Type 0 where
  pub log : IsSome outcome.target_log
  pub segments : IsSome outcome.target_segments

-- neither of them
pub record HasNoTarget {I O D : Type 0} (outcome : Outcome I O D) : Type 0 where
  pub log : outcome.target_log ≡ None
  pub segments : outcome.target_segments ≡ None

-- no session ran
pub record NoSession {I O D : Type 0} (outcome : Outcome I O D) : Type 0 where
  pub sessions : outcome.sessions.items ≡ []
  pub loads : outcome.loads.items ≡ []
  pub authors : outcome.authors ≡ None
  pub last : outcome.last ≡ None
  pub torn : outcome.torn ≡ None
  pub recovered : outcome.recovered ≡ 0
  pub covered : outcome.covered ≡ 0

-- ---- what is reported

-- memory was refused, maybe also to the line
abbrev pub OutOfMemory : ℕ → List ℕ → Type 0
OutOfMemory status line = (status ≡ 9) × ((line ≡ out_of_memory) ⊎ (line ≡ []))

abbrev pub IsOutOfMemory : {I O D : Type 0} → Outcome I O D → Type 0
IsOutOfMemory outcome = OutOfMemory outcome.status (string_bytes outcome.line)

-- the status and the line of why the program ends;
-- where there is something to say, memory may be refused to it
abbrev pub SaysWhy : Why → ℕ → List ℕ → Type 0
SaysWhy answered status line = (status ≡ 0) × (line ≡ [])
SaysWhy reported status line = (status ≡ 0) × (line ≡ [])
SaysWhy why status line =
    ((status ≡ status_of why) × (line ≡ line_of why)) ⊎ OutOfMemory status line

-- ---- its cause

-- no count rose but that of the object whose fault ended the session
pub record Counts {I O : Type 0} (spec : HostSpec) (io : StreamSpec I O) (name : List ℕ)
    (session : SessionOut I O) : Type 0 where
  pub source :
      SourceCount session.end (spec.source_faults name) (io.source_faults session.source)
  pub sink :
      SinkCount session.end (spec.sink_faults (sink_of name)) (io.sink_faults session.sink)

-- sessions are to be run
abbrev pub IsRun : Option Command → Type 0
IsRun None = ⊥
IsRun (Some (run options directory scripts)) = Unit {0}
IsRun (Some (check directory)) = ⊥
IsRun (Some (load count)) = Unit {0}
IsRun (Some (backup from to)) = ⊥

-- how the sessions ended: those of the generator, or those of scripts
abbrev pub ends_of : {I O D : Type 0} → Outcome I O D → List SessionEnd
ends_of outcome =
    map (λ s. s.end) outcome.loads.items ++ map (λ s. s.end) outcome.sessions.items

-- a session ran for each script,
-- or by each number of the generator's, and this is the first that ended early
pub record HaveRun {I O D : Type 0} (spec : HostSpec) (io : StreamSpec I O) (new : ℕ)
    (command : Option Command) (outcome : Outcome I O D) (early : Option (List ℕ × SessionEnd))
    : Type 0 where
  pub is_run : IsRun command
  pub host : new ≡ spec.faults
  pub each : EachOf (λ n name (s : SessionOut I O). Counts spec io name s) 0
      (scripts_of command) outcome.sessions.items
  pub loads : EachOf (λ n name s. Counts (spec_in_memory spec command) in_memory name s) 0
      (loads_of command) outcome.loads.items
  pub first : first_early (loads_of command ++ scripts_of command) (ends_of outcome) ≡ early
  pub last : IsSome outcome.last
  pub authors : IsSome outcome.authors
  pub disks : HasDisks outcome

-- the directory that a command names, the first of two, or none
abbrev pub directory_of : Option Command → List ℕ
directory_of None = []
directory_of (Some (run options directory scripts)) = directory
directory_of (Some (check directory)) = directory
directory_of (Some (load count)) = codes ":memory:"
directory_of (Some (backup from to)) = from

-- the directory that a backup copies to
abbrev pub target_of : Option Command → List ℕ
target_of (Some (backup from to)) = to
target_of command = []

-- What it opens: its directory first, and then its scripts' sources and sinks, or the console.
-- A backup opens its target before the console.
abbrev pub names_of : Option Command → List (List ℕ)
names_of None = []
names_of (Some (run options directory scripts)) = directory ∷ scripts
names_of (Some (check directory)) = directory ∷ standard ∷ []
names_of (Some (load count)) = codes ":memory:" ∷ standard ∷ []
names_of (Some (backup from to)) = from ∷ to ∷ standard ∷ []

-- Both disks are handed back, unless the directory itself was not opened. The log was read before
-- what has a later name: it is that of a history.
abbrev pub HandsBack : {I O D : Type 0} → HostSpec → Option Command → ℕ → Outcome I O D → Type 0
HandsBack spec command zero outcome = HasNoDisk outcome
HandsBack spec command (suc place) outcome =
    HasDisks outcome × HasHistory spec (directory_of command)

-- Memory ran out before a session ran. Both disks are handed back, unless the directory itself
-- was not opened, and then nothing was opened behind it.
abbrev pub IsCutShort : {I O D : Type 0} → HostSpec → HostSpec → Option Command → Outcome I O D
    → Type 0
IsCutShort spec new command outcome =
    HasDisks outcome ⊎ (HasNoDisk outcome × OpensUpTo (ports_of command) zero spec new)

-- the host could not open what has this name, and nothing was opened behind it
pub record CannotOpen {I O D : Type 0} (spec new : HostSpec) (command : Option Command)
    (outcome : Outcome I O D) (name : List ℕ) : Type 0 where
  pub none : NoSession outcome
  pub host : Rose spec.faults new.faults
  pub place : ℕ
  pub named : slice_get (names_of command) place ≡ Some name
  pub disks : HandsBack spec command place outcome
  pub behind : OpensUpTo (ports_of command) place spec new

-- the directory's disks were opened, and its database was not
pub record IsNotOpened {I O D : Type 0} (spec : HostSpec) (disks : DiskSpec D) (new : ℕ)
    (command : Option Command) (outcome : Outcome I O D) : Type 0 where
  pub is_command : IsSome command
  pub none : NoSession outcome
  pub host : new ≡ spec.faults
  pub segments : IsSome outcome.segments
  pub log : D
  pub log_is : outcome.log ≡ Some log
  pub unharmed : IsUnharmed spec disks (directory_of command) log

-- nothing was asked of the segments' disk
abbrev pub IsUntouched : {I O D : Type 0} → HostSpec → DiskSpec D → Option Command → Outcome I O D
    → Type 0
IsUntouched spec disks command outcome =
    IfSome outcome.segments (IsDiskOf spec disks (directory_of command) Segments)

-- The log is judged whole before anything is asked of the segments' disk.
abbrev pub IsInTurn : {I O D : Type 0} → HostSpec → DiskSpec D → Option Command → Outcome I O D
    → Part → Type 0
IsInTurn spec disks command outcome Log = IsUntouched spec disks command outcome
IsInTurn spec disks command outcome Segments = HasHistory spec (directory_of command)

-- the disk of this part failed, or it did not
abbrev pub Failed : {I O D : Type 0} → HostSpec → DiskSpec D → Option Command → Outcome I O D → Part
    → Type 0
Failed {I} {O} {D} spec disks command outcome part =
    (disk : D)
    × (part_of outcome part ≡ Some disk)
    × Rose (spec.disk_faults (directory_of command) part) (disks.faults disk)

abbrev pub IsUnfailed : {I O D : Type 0} → HostSpec → DiskSpec D → Option Command → Outcome I O D
    → Part → Type 0
IsUnfailed {I} {O} {D} spec disks command outcome part =
    (disk : D)
    × (part_of outcome part ≡ Some disk)
    × (disks.faults disk ≡ spec.disk_faults (directory_of command) part)

-- the same of a disk of a backup's target
abbrev pub TargetFailed : {I O D : Type 0} → HostSpec → DiskSpec D → Option Command → Outcome I O D
    → Part → Type 0
TargetFailed {I} {O} {D} spec disks command outcome part =
    (disk : D)
    × (target_part_of outcome part ≡ Some disk)
    × Rose (spec.disk_faults (target_of command) part) (disks.faults disk)

abbrev pub IsTargetUnfailed : {I O D : Type 0} → HostSpec → DiskSpec D → Option Command
    → Outcome I O D → Part → Type 0
IsTargetUnfailed {I} {O} {D} spec disks command outcome part =
    (disk : D)
    × (target_part_of outcome part ≡ Some disk)
    × (disks.faults disk ≡ spec.disk_faults (target_of command) part)

-- The target's log is copied to before anything is asked of its segments' disk.
abbrev pub IsTargetInTurn : {I O D : Type 0} → HostSpec → DiskSpec D → Option Command
    → Outcome I O D → Part → Type 0
IsTargetInTurn spec disks command outcome Log =
    IfSome outcome.target_segments (IsDiskOf spec disks (target_of command) Segments)
IsTargetInTurn spec disks command outcome Segments =
    IsTargetUnfailed spec disks command outcome Log

-- a sink took the whole line
pub record TookWhole (line : List ℕ) (had has : Option (List ℕ)) (old new : ℕ) : Type 0 where
  pub gained : has ≡ append_known had line
  pub unfailed : new ≡ old

-- the console failed, and took less than the whole line
pub record TookPart (line : List ℕ) (had has : Option (List ℕ)) (old new : ℕ) : Type 0 where
  pub part : TakesPart line had has
  pub failed : Rose old new

-- The directory's log was that of a history.
-- The console took the line about it and about how far its trees go, so far.
pub record HasLooked {I O D : Type 0} (spec : HostSpec) (io : StreamSpec I O) (disks : DiskSpec D)
    (new : ℕ) (command : Option Command) (outcome : Outcome I O D)
    (Took : List ℕ → Option (List ℕ) → Option (List ℕ) → ℕ → ℕ → Type 0) : Type 0 where
  pub directory : List ℕ
  pub is_check : command ≡ Some (check directory)
  pub none : NoSession outcome
  pub host : new ≡ spec.faults
  pub history : List Entry
  pub opening : IfKnown (spec.disks directory Log) (λ file. IsLogOf file history)
  pub covered : ℕ
  pub coverage : IfKnown (spec.disks directory Segments) (HasCoverage history covered)
  pub unfailed : (part : Part) → IsUnfailed spec disks command outcome part
  pub kept : IfSome outcome.segments (StaysCovered spec disks directory history covered)
  pub console : O
  pub console_is : outcome.console ≡ Some console
  pub took : Took (history_line (basis history) covered)
      (spec.sinks standard) (io.contents console)
      (spec.sink_faults standard) (io.sink_faults console)

-- The sessions of the generator answered all of their scripts.
-- The console took the line about what they left, so far.
pub record HasLoaded {I O D : Type 0} (spec : HostSpec) (io : StreamSpec I O) (disks : DiskSpec D)
    (new : ℕ) (command : Option Command) (outcome : Outcome I O D)
    (Took : List ℕ → Option (List ℕ) → Option (List ℕ) → ℕ → ℕ → Type 0) : Type 0 where
  pub count : ℕ
  pub is_load : command ≡ Some (load count)
  pub ran : HaveRun spec io new command outcome None
  pub taken : outcome.torn ≡ None
  pub unfailed : IsUnfailed spec disks command outcome Segments
  pub last : SnapshotModel
  pub last_is : outcome.last ≡ Some last
  pub line : List ℕ
  pub summary : IsSummary last.entries line
  pub console : O
  pub console_is : outcome.console ≡ Some console
  pub took : Took line (spec.sinks standard) (io.contents console)
      (spec.sink_faults standard) (io.sink_faults console)

-- A backup was begun: its directory's log was that of a history, whose trees go so far,
-- and nothing of the directory failed.
pub record BacksUp {I O D : Type 0} (spec : HostSpec) (disks : DiskSpec D) (new : ℕ)
    (command : Option Command) (outcome : Outcome I O D) : Type 0 where
  pub from : List ℕ
  pub to : List ℕ
  pub is_backup : command ≡ Some (backup from to)
  pub none : NoSession outcome
  pub host : new ≡ spec.faults
  pub history : List Entry
  pub opening : IfKnown (spec.disks from Log) (λ file. IsLogOf file history)
  pub covered : ℕ
  pub coverage : IfKnown (spec.disks from Segments) (HasCoverage history covered)
  pub unfailed : (part : Part) → IsUnfailed spec disks command outcome part
  pub kept : IfSome outcome.segments (StaysCovered spec disks from history covered)

-- so many entries of the history were lacking in the target's log, and were copied
abbrev pub HasLacked : HostSpec → List ℕ → List Entry → ℕ → Type 0
HasLacked spec to h copied =
    IfKnown (spec.disks to Log)
    (λ file. (lacking : List Entry)
    × BackupSays file h (appends lacking)
    × (copied ≡ copied_of (appends lacking)))

-- The target got what it lacked. The console took the line about it, so far.
pub record HasCopied {I O D : Type 0} (spec : HostSpec) (io : StreamSpec I O) (disks : DiskSpec D)
    (new : ℕ) (command : Option Command) (outcome : Outcome I O D)
    (Took : List ℕ → Option (List ℕ) → Option (List ℕ) → ℕ → ℕ → Type 0) : Type 0 where
  pub begun : BacksUp spec disks new command outcome
  pub copied : ℕ
  pub lacked : HasLacked spec begun.to begun.history copied
  pub unfailed : (part : Part) → IsTargetUnfailed spec disks command outcome part
  pub console : O
  pub console_is : outcome.console ≡ Some console
  pub took : Took (copied_line (basis begun.history) copied begun.covered)
      (spec.sinks standard) (io.contents console)
      (spec.sink_faults standard) (io.sink_faults console)

-- the target's log says this beside the history, and nothing was appended to it
pub record TargetSays {I O D : Type 0} (spec : HostSpec) (disks : DiskSpec D) (new : ℕ)
    (command : Option Command) (outcome : Outcome I O D) (plan : Plan) : Type 0 where
  pub begun : BacksUp spec disks new command outcome
  pub in_turn : IsTargetInTurn spec disks command outcome Log
  pub unfailed : IsTargetUnfailed spec disks command outcome Log
  pub says : IfKnown (spec.disks begun.to Log) (λ file. BackupSays file begun.history plan)

-- the line of the command went out to the console, so far
abbrev pub Reports : {I O D : Type 0} → HostSpec → StreamSpec I O → DiskSpec D → ℕ → Option Command
    → Outcome I O D
    → (List ℕ → Option (List ℕ) → Option (List ℕ) → ℕ → ℕ → Type 0) → Type 0
Reports spec io disks new command outcome Took =
    HasLooked spec io disks new command outcome Took
    ⊎ (HasLoaded spec io disks new command outcome Took
    ⊎ HasCopied spec io disks new command outcome Took)

abbrev pub CauseOf : {I O D : Type 0} → HostSpec → HostSpec → StreamSpec I O → DiskSpec D
    → Option Command → Outcome I O D → Why → Type 0
CauseOf spec new io disks command outcome answered =
    HaveRun spec io new.faults command outcome None × (outcome.torn ≡ None)
    × IsUnfailed spec disks command outcome Segments
    × (loads_of command ≡ [])
CauseOf spec new io disks command outcome reported =
    Reports spec io disks new.faults command outcome TookWhole
CauseOf spec new io disks command outcome usage =
    NoSession outcome × HasNoDisk outcome × (command ≡ None) × (new.faults ≡ spec.faults)
CauseOf spec new io disks command outcome (unopened name) =
    CannotOpen spec new command outcome name
CauseOf spec new io disks command outcome (disk_failed part) =
    IsNotOpened spec disks new.faults command outcome
    × IsInTurn spec disks command outcome part
    × Failed spec disks command outcome part
CauseOf spec new io disks command outcome (bad_record nth at) =
    IsNotOpened spec disks new.faults command outcome
    × IsInTurn spec disks command outcome Log
    × IfKnown (spec.disks (directory_of command) Log)
    (λ file. FileSays file (bad_record_there nth at))
CauseOf spec new io disks command outcome (unlawful t law) =
    IsNotOpened spec disks new.faults command outcome
    × IsInTurn spec disks command outcome Log
    × IfKnown (spec.disks (directory_of command) Log)
    (λ file. FileSays file (unlawful_there t law))
CauseOf spec new io disks command outcome (target_failed part) =
    BacksUp spec disks new.faults command outcome
    × IsTargetInTurn spec disks command outcome part
    × TargetFailed spec disks command outcome part
CauseOf spec new io disks command outcome (bad_target nth at) =
    TargetSays spec disks new.faults command outcome (bad_target_there nth at)
CauseOf spec new io disks command outcome (target_differs t) =
    TargetSays spec disks new.faults command outcome (differs_at t)
CauseOf spec new io disks command outcome (ended_early name how) =
    HaveRun spec io new.faults command outcome (Some (name, how))
CauseOf spec new io disks command outcome console_failed =
    Reports spec io disks new.faults command outcome TookPart
CauseOf spec new io disks command outcome (log_stopped t) =
    HaveRun spec io new.faults command outcome None
    × (stop_of outcome.torn ≡ Some t)
    × Failed spec disks command outcome Log
CauseOf spec new io disks command outcome segments_failed =
    HaveRun spec io new.faults command outcome None
    × (outcome.torn ≡ None)
    × Failed spec disks command outcome Segments
CauseOf spec new io disks command outcome memory =
    (NoSession outcome × IsSome command × IsCutShort spec new command outcome)
    ⊎ (HaveRun spec io new.faults command outcome None × (outcome.torn ≡ None))

-- a console is handed back where there was a line for it
abbrev pub HasConsole : {I O D : Type 0} → Why → Outcome I O D → Type 0
HasConsole reported outcome = IsSome outcome.console
HasConsole console_failed outcome = IsSome outcome.console
HasConsole why outcome = outcome.console ≡ None

-- the disks of a backup's target are handed back where they were opened, unless memory was refused
abbrev pub HasTargetBy : {I O D : Type 0} → Why → Outcome I O D → Type 0
HasTargetBy reported outcome = HasTarget outcome
HasTargetBy (target_failed part) outcome = HasTarget outcome
HasTargetBy (bad_target nth at) outcome = HasTarget outcome
HasTargetBy (target_differs t) outcome = HasTarget outcome
HasTargetBy console_failed outcome = HasTarget outcome
HasTargetBy memory outcome = Unit {0}
HasTargetBy why outcome = HasNoTarget outcome

-- no other command has a target
abbrev pub HasTargets : {I O D : Type 0} → Why → Option Command → Outcome I O D → Type 0
HasTargets why (Some (backup from to)) outcome = HasTargetBy why outcome
HasTargets why command outcome = HasNoTarget outcome

-- There is a reason why the run ended as it did.
-- The status and the line say it, and it has its cause.
pub record Causes {I O D : Type 0} (spec new : HostSpec) (io : StreamSpec I O)
    (disks : DiskSpec D) (command : Option Command) (outcome : Outcome I O D) : Type 0 where
  pub why : Why
  pub says : SaysWhy why outcome.status (string_bytes outcome.line)
  pub cause : CauseOf spec new io disks command outcome why
  pub console : HasConsole why outcome
  pub targets : HasTargets why command outcome
