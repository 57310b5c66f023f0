-- What opening a directory gives:
-- its disks, and the database that its log holds, with the trees that its segments keep.
-- This project's own choice.
use Rattle.std.specs.Prelude.{◌≡◌, ◌⊎◌, ◌≤◌, ◌<◌, ◌^◌, ℕ, zero, suc, List, [], length, Option, Some}
use Rattle.std.specs.Prelude.{None, IsSome, IfSome, slice_get}
use Rattle.fb_model.specs.History.{basis}
use Rattle.disk_model.specs.Disk.{IfKnown, LeavesOnly}
use Rattle.log_model.specs.Log.{IsLogOf}
use Rattle.seg_tree.specs.Ids.{next_above}
use Rattle.seg_tree.specs.Indexes.{root_ids}
use Rattle.seg_store.specs.Stores.{disk_in as segments_in, next_in}
use Rattle.seg_store.specs.Keeping.{HasGreatNode, FitsStore}
use Rattle.seg_store.specs.Trees.{root_of}
use Rattle.fb_journal.specs.Journals.{StaysKnown}
use Rattle.disk_log.specs.Logs.{disk_in, count_in, KeepsHistory}
use Rattle.fb_core.specs.Cores.{CoreStands}
use Rattle.fb_recover.specs.Faults.{IsCause, CountsOpening, IsOfLog}
use Rattle.fb_recover.specs.Openings.{HasCoverage, AgreesWithNone, HasFault, HasRoot}
use Rattle.fb_recover.specs.declared.faults.OpenFault.{OpenFault}
use Rattle.fb_ports.specs.Faults.{Rose}
use Rattle.fb_ports.specs.declared.hosts.Part.TheVariants.{Log, Segments}
use Rattle.fb_ports.specs.HostSpec.{HostSpec}
use Rattle.fb_ports.specs.HostCalls.{Same}
use Rattle.fb_run.specs.declared.database.Directory.{Directory}
use Rattle.fb_run.specs.declared.database.Disks.{Disks}
use Rattle.fb_run.specs.declared.database.Obstacle.{Obstacle}
use Rattle.fb_run.specs.declared.database.Obstacle.TheVariants.{Unopened, NotReopened}
use Rattle.fb_run.specs.declared.database.Unready.{Unready}
use Rattle.fb_run.specs.declared.opening.Unopened.TheVariants.{CannotOpen, Memory}
use Rattle.fb_run.specs.StatusLines.{Why, unopened, memory, why_not}
use Rattle.fb_run.specs.Outside.{DiskSpec, Ports, OpensUpTo, IsDiskOf}
use Rattle.fb_run.specs.Logs.{HasHistory, IsUnharmed}

-- what the host's record has of sources and sinks is as it was, and it has not failed
pub record SameStreams (old new : HostSpec) : Type 0 where
  pub faults : new.faults ≡ old.faults
  pub sources : Same old.sources new.sources
  pub source_faults : Same old.source_faults new.source_faults
  pub sinks : Same old.sinks new.sinks
  pub sink_faults : Same old.sink_faults new.sink_faults

-- the disks are those of this directory
pub record AreDisksOf {D : Type 0} (spec : HostSpec) (disks : DiskSpec D) (dir : List ℕ)
    (both : Disks D) : Type 0 where
  pub log : IsDiskOf spec disks dir Log both.log
  pub segments : IsDiskOf spec disks dir Segments both.segments

-- The log goes on after the history that its file held,
-- and the store after the roots of its own, over disks that were handed out for them.
pub record IsReopened {D : Type 0} {g : _} (disks : DiskSpec D) (disk segments : D)
    (directory : Directory D g) : Type 0 where
  pub history : IfKnown (disks.bytes disk)
      (λ file. IsLogOf file directory.core.snapshot.entries)
  pub core : CoreStands directory.core
  pub fresh : directory.core.authors ≡ []
  pub recovered : directory.recovered ≡ basis directory.core.snapshot.entries
  pub keeps : KeepsHistory disks.bytes disks.images disks.faults disks.moment disks.images_since
      directory.log directory.core.snapshot.entries directory.log
  pub count : count_in directory.log ≡ directory.recovered
  pub known : StaysKnown (disks.bytes disk) (disks.bytes (disk_in directory.log))
  pub unfailed : disks.faults (disk_in directory.log) ≡ disks.faults disk
  pub any_moment : IfKnown (disks.bytes disk) (λ _. LeavesOnly disks.moment disks.images_since
      disk (disk_in directory.log)
      (λ image. disks.images disk image ⊎ IsLogOf image directory.core.snapshot.entries))
  pub unharmed : IfKnown (disks.bytes disk) (λ file. LeavesOnly disks.moment disks.images_since
      disk (disk_in directory.log)
      (λ image. disks.images disk image ⊎ ((length file ≤ 16) × (length image ≤ 16))))
  pub coverage : IfKnown (disks.bytes segments)
      (HasCoverage directory.core.snapshot.entries directory.core.snapshot.covered)
  pub root : IfKnown (disks.bytes segments) (λ file. HasFault file
      ⊎ (AgreesWithNone directory.core.snapshot.entries file
      ⊎ HasRoot disks.bytes disks.images directory.store
      (root_of directory.core.snapshot.roots directory.core.snapshot.covered)))
  pub below : IfKnown (disks.bytes segments) (λ file. HasFault file
      ⊎ (AgreesWithNone directory.core.snapshot.entries file
      ⊎ (next_above (root_ids directory.core.snapshot.roots) ≤ next_in directory.store)))
  pub fit : FitsStore disks.bytes disks.images directory.store directory.core.snapshot.roots
  -- a great number of the trees is one of the file
  pub great : IfKnown (disks.bytes segments)
      (λ file. 2 ^ 61 < next_above (root_ids directory.core.snapshot.roots) → HasGreatNode file)
  pub segments_known :
      StaysKnown (disks.bytes segments) (disks.bytes (segments_in directory.store))
  pub segments_unfailed : disks.faults (segments_in directory.store) ≡ disks.faults segments

-- the directory's disks were handed out as the host's record has them,
-- and the database was reopened over them
pub record IsOpened {D : Type 0} {g : _} (spec : HostSpec) (disks : DiskSpec D) (dir : List ℕ)
    (directory : Directory D g) : Type 0 where
  pub disk : D
  pub file : D
  pub log : IsDiskOf spec disks dir Log disk
  pub segments : IsDiskOf spec disks dir Segments file
  pub reopened : IsReopened disks disk file directory

-- the disks of a directory
abbrev pub disks_in : {D : Type 0} {g : _} → Directory D g → Disks D
disks_in directory =
    record { log = disk_in directory.log; segments = segments_in directory.store }

-- ---- why a command can't begin

abbrev pub why_unready : Obstacle → Why
why_unready (Unopened (CannotOpen name)) = unopened name.now
why_unready (Unopened Memory) = memory
why_unready (NotReopened fault) = why_not fault

-- the database over these disks was not reopened: the log's file says why, or a disk's count rose
pub record IsRefused {D : Type 0} (disks : DiskSpec D) (disk segments : D) (unready : Unready D)
    : Type 0 where
  pub fault : OpenFault
  pub log : D
  pub file : D
  pub is : unready ≡ record {
    why = NotReopened fault;
    disks = Some (record { log = log; segments = file });
  }
  pub cause : IfKnown (disks.bytes disk) (IsCause fault)
  pub counted : CountsOpening fault Log (disks.faults disk) (disks.faults log)
  pub segments_counted : CountsOpening fault Segments (disks.faults segments) (disks.faults file)
  pub untouched : IsOfLog fault → file ≡ segments
  pub unharmed : IfKnown (disks.bytes disk) (λ file. LeavesOnly disks.moment disks.images_since
      disk log (λ image. disks.images disk image ⊎ ((length file ≤ 16) × (length image ≤ 16))))

-- the log is unharmed
abbrev pub LeaveLogUnharmed : {D : Type 0} → HostSpec → DiskSpec D → List ℕ → Disks D → Type 0
LeaveLogUnharmed spec disks dir both = IsUnharmed spec disks dir both.log

-- the database was not reopened, in the words of what the host's record had of its disks;
-- with a fault of the log nothing was asked of the segments' disk
pub record IsNotReopened {D : Type 0} (spec : HostSpec) (disks : DiskSpec D) (dir : List ℕ)
    (fault : OpenFault) (left : Option (Disks D)) : Type 0 where
  pub both : Disks D
  pub is : left ≡ Some both
  pub cause : IfKnown (spec.disks dir Log) (IsCause fault)
  pub counted : CountsOpening fault Log (spec.disk_faults dir Log) (disks.faults both.log)
  pub segments_counted : CountsOpening fault Segments (spec.disk_faults dir Segments)
      (disks.faults both.segments)
  pub untouched : IsOfLog fault → IsDiskOf spec disks dir Segments both.segments

-- The disks of the directory, which is the first of the names,
-- are left where what has a later name was not opened, and then its log was read.
abbrev pub LeavesBehind : {D : Type 0} → HostSpec → List ℕ → ℕ → Option (Disks D) → Type 0
LeavesBehind spec dir zero left = left ≡ None
LeavesBehind spec dir (suc place) left = IsSome left × HasHistory spec dir

-- Memory ran out: the disks are left,
-- unless the directory was not opened, and then nothing was opened behind it.
abbrev pub LeavesAllOrNone : {D : Type 0} → HostSpec → HostSpec → Ports → Option (Disks D) → Type 0
LeavesAllOrNone old new ports left = IsSome left ⊎ ((left ≡ None) × OpensUpTo ports zero old new)

-- the host could not open what has this name, which is one of these
pub record IsBlocked {D : Type 0} (old new : HostSpec) (ports : Ports) (dir : List ℕ)
    (names : List (List ℕ)) (left : Option (Disks D)) (name : List ℕ) : Type 0 where
  pub place : ℕ
  pub named : slice_get names place ≡ Some name
  pub left_is : LeavesBehind old dir place left
  pub behind : OpensUpTo ports place old new
  pub host : Rose old.faults new.faults

-- the host could not open what has one of these names, or the database was not reopened
abbrev pub IsObstacle : {D : Type 0} → HostSpec → HostSpec → DiskSpec D → Ports → List ℕ
    → List (List ℕ) → Option (Disks D) → Obstacle → Type 0
IsObstacle old new disks ports dir names left (Unopened (CannotOpen name)) =
    IsBlocked old new ports dir names left name.now
IsObstacle old new disks ports dir names left (Unopened Memory) = LeavesAllOrNone old new ports left
IsObstacle old new disks ports dir names left (NotReopened fault) =
    (new.faults ≡ old.faults) × IsNotReopened old disks dir fault left

-- why a command over the directory can't begin, and what is left of its disks
pub record IsUnready {D : Type 0} (old new : HostSpec) (disks : DiskSpec D) (ports : Ports)
    (dir : List ℕ) (names : List (List ℕ)) (unready : Unready D) : Type 0 where
  pub why : IsObstacle old new disks ports dir names unready.disks unready.why
  pub unharmed : IfSome unready.disks (LeaveLogUnharmed old disks dir)
