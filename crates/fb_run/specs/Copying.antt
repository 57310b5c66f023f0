-- How a backup comes about: what is opened for it, what is copied, and what its line says.
-- This project's own choice.
use Rattle.std.specs.Prelude.{◌≡◌, ◌⊎◌, ◌<◌, ◌≤◌, ℕ, List, [], ◌∷◌, length, Option, Some, None}
use Rattle.std.specs.Prelude.{Result, Ok, Err}
use Rattle.fb_values.specs.declared.facts.Entry.{Entry}
use Rattle.disk_model.specs.Disk.{IfKnown, LeavesOnly, Within}
use Rattle.disk_log.specs.Disks.{IsLogFrom}
use Rattle.log_model.specs.Log.{IsLogOf}
use Rattle.backup_model.specs.Backup.{appends, copied_of, BackupSays, IsCopyFile}
use Rattle.fb_journal.specs.Readings.{LeavesBegun}
use Rattle.seg_codec.specs.Trees.{roots_of}
use Rattle.seg_store.specs.Trees.{root_of}
use Rattle.fb_view.specs.SnapshotModel.{SnapshotModel}
use Rattle.fb_backup.specs.Backups.{IsBackupCause, IsRefusal, CountsBackup}
use Rattle.fb_backup.specs.Copies.{CountsCopy}
use Rattle.fb_backup.specs.declared.faults.BackupFault.{BackupFault}
use Rattle.fb_backup.specs.declared.faults.CopyFault.{CopyFault}
use Rattle.command_line.specs.Words.{standard}
use Rattle.fb_ports.specs.Faults.{Rose}
use Rattle.fb_ports.specs.HostSpec.{HostSpec}
use Rattle.fb_run.specs.declared.copying.NotCopied.{NotCopied}
use Rattle.fb_run.specs.declared.copying.NotCopied.TheVariants as not_copied
use Rattle.fb_run.specs.declared.copying.Copied.{Copied}
use Rattle.fb_run.specs.declared.database.Directory.{Directory}
use Rattle.fb_run.specs.declared.database.Disks.{Disks}
use Rattle.fb_run.specs.declared.database.Obstacle.TheVariants as obstacle
use Rattle.fb_run.specs.declared.database.Unready.{Unready}
use Rattle.fb_run.specs.declared.opening.Unopened.{Unopened}
use Rattle.fb_run.specs.declared.opening.Unopened.TheVariants.{CannotOpen, Memory}
use Rattle.fb_run.specs.declared.backing.Outside.{Outside}
use Rattle.fb_run.specs.declared.backing.Begun.{Begun}
use Rattle.fb_run.specs.declared.outcome.Outcome.{Outcome}
use Rattle.fb_run.specs.StatusLines.{why_not_copied, copied_line}
use Rattle.fb_run.specs.Outside.{StreamSpec, DiskSpec, Ports, IsSinkOf, of_directory, of_sinks}
use Rattle.fb_run.specs.Outside.{OpensOnly}
use Rattle.fb_run.specs.Database.{AreDisksOf, IsOpened, disks_in}
use Rattle.fb_run.specs.Causes.{OutOfMemory, SaysWhy}
use Rattle.fb_run.specs.Loading.{Said, HasReported, said_of}

-- ---- what is opened behind the directory

-- the target, and the console
abbrev pub outside_of : List ℕ → Ports
outside_of to = record (of_sinks (standard ∷ [])) { directories = to ∷ [] }

-- the disks of the target and the console are as the host's record has them
pub record OpensOutside {I O D : Type 0} (old new : HostSpec) (io : StreamSpec I O)
    (disks : DiskSpec D) (to : List ℕ) (outside : Outside O D) : Type 0 where
  pub target : AreDisksOf old disks to outside.target
  pub console : IsSinkOf old io standard outside.console
  pub host : new.faults ≡ old.faults

-- the host could not open the target, and opened nothing behind it, or could not open the console
abbrev pub RefusesOutside : List ℕ → HostSpec → HostSpec → Unopened → Type 0
RefusesOutside to old new (CannotOpen name) =
    Rose old.faults new.faults
    × (((name.now ≡ to) × OpensOnly (of_directory to) old new) ⊎ (name.now ≡ standard))
RefusesOutside to old new Memory = Unit {0}

-- one of them was not opened, and the disks of the directory are left
pub record IsUnbegun {D : Type 0} {g : _} (old new : HostSpec) (to : List ℕ)
    (directory : Directory D g) (unready : Unready D) : Type 0 where
  pub why : Unopened
  pub not : RefusesOutside to old new why
  pub is : unready ≡ record {
    why = obstacle.Unopened why;
    disks = Some (disks_in directory);
  }

-- the directory was opened, and then its target and the console
pub record IsBegun {I O D : Type 0} {g : _} (old new : HostSpec) (io : StreamSpec I O)
    (disks : DiskSpec D) (from to : List ℕ) (begun : Begun O D g) : Type 0 where
  pub directory : IsOpened old disks from begun.directory
  pub target : AreDisksOf old disks to begun.outside.target
  pub console : IsSinkOf old io standard begun.outside.console
  pub host : new.faults ≡ old.faults

-- ---- what is copied

-- a new file of segments got the trees
pub record GetsTrees {D : Type 0} (disks : DiskSpec D) (s : SnapshotModel) (was now : D) : Type 0
  where
    pub copy : IfKnown (disks.bytes was) (λ file. length file ≤ 16 → (image : List ℕ)
        → disks.images now image → IsCopyFile image (root_of s.roots s.covered) (roots_of s.roots))
    pub unfailed : disks.faults now ≡ disks.faults was

-- the log got so many entries, which it lacked, and a new file of segments got the trees
pub record CopiesAll {D : Type 0} (disks : DiskSpec D) (s : SnapshotModel) (was now : Disks D)
    (copied : ℕ) : Type 0 where
  pub lacked : IfKnown (disks.bytes was.log) (λ file. (lacking : List Entry)
      × BackupSays file s.entries (appends lacking)
      × (copied ≡ copied_of (appends lacking)))
  pub stands : IfKnown (disks.bytes was.log)
      (λ _. (image : List ℕ) → disks.images now.log image → IsLogOf image s.entries)
  pub unfailed : disks.faults now.log ≡ disks.faults was.log
  pub trees : GetsTrees disks s was.segments now.segments

-- the log was not brought to the history, and nothing was asked of the segments;
-- one that is refused is left as it was
pub record StopsAtLog {D : Type 0} (disks : DiskSpec D) (s : SnapshotModel) (was now : Disks D)
    (fault : BackupFault) : Type 0 where
  pub untouched : now.segments ≡ was.segments
  pub why : IfKnown (disks.bytes was.log) (IsBackupCause s.entries fault)
  pub refused : IsRefusal fault
      → LeavesBegun disks.bytes disks.images disks.moment disks.images_since was.log now.log
  pub counted : CountsBackup fault (disks.faults was.log) (disks.faults now.log)

-- the trees were not copied
pub record StopsAtSegments {D : Type 0} (disks : DiskSpec D) (was now : Disks D)
    (fault : CopyFault) : Type 0 where
  pub unfailed : disks.faults now.log ≡ disks.faults was.log
  pub counted : CountsCopy fault (disks.faults was.segments) (disks.faults now.segments)

abbrev pub EndsCopy : {D : Type 0} → DiskSpec D → SnapshotModel → Disks D → Disks D
    → Result ℕ NotCopied → Type 0
EndsCopy disks s was now (Ok copied) = CopiesAll disks s was now copied
EndsCopy disks s was now (Err (not_copied.Log fault)) = StopsAtLog disks s was now fault
EndsCopy disks s was now (Err (not_copied.Segments fault)) = StopsAtSegments disks was now fault

-- the same of the trees alone, behind a log that got so many entries
abbrev pub HasTrees : {D : Type 0} → DiskSpec D → SnapshotModel → D → D → ℕ
    → Result ℕ NotCopied → Type 0
HasTrees disks s was now copied (Ok n) = (n ≡ copied) × GetsTrees disks s was now
HasTrees disks s was now copied (Err (not_copied.Log fault)) = ⊥
HasTrees disks s was now copied (Err (not_copied.Segments fault)) =
    CountsCopy fault (disks.faults was) (disks.faults now)

-- a crash leaves as long a beginning of the history as before, or a longer one
abbrev pub LeavesBeginnings : {D : Type 0} → DiskSpec D → List Entry → D → D → Type 0
LeavesBeginnings disks h was now =
    (n : ℕ) → IfKnown (disks.bytes was)
    (λ _. ((image : List ℕ) → disks.images was image → IsLogFrom n h image)
    → LeavesOnly disks.moment disks.images_since was now (IsLogFrom n h))

-- a file that had a record is left as it was
abbrev pub LeavesRecords : {D : Type 0} → DiskSpec D → D → D → Type 0
LeavesRecords disks was now =
    IfKnown (disks.bytes was)
    (λ file. 16 < length file
    → (disks.bytes now ≡ disks.bytes was) × Within (disks.images was) (disks.images now))

-- what became of a target, and how its backup ended
pub record Copies {D : Type 0} (disks : DiskSpec D) (s : SnapshotModel) (was now : Disks D)
    (end : Result ℕ NotCopied) : Type 0 where
  pub ended : EndsCopy disks s was now end
  pub beginnings : LeavesBeginnings disks s.entries was.log now.log
  pub records : LeavesRecords disks was.segments now.segments

-- ---- what is said of it

-- where all was copied, the console took the line about it or failed before its end,
-- or memory was refused to the line
abbrev pub TellsCopy : {O : Type 0} → (O → Option (List ℕ)) → (O → ℕ) → ℕ → ℕ → O
    → Result ℕ NotCopied → Said O → Type 0
TellsCopy contents faults basis covered was (Ok copied) said =
    (OutOfMemory said.status said.line × (said.console ≡ None))
    ⊎ HasReported contents faults (copied_line basis copied covered) was said
TellsCopy contents faults basis covered was (Err why) said =
    SaysWhy (why_not_copied why) said.status said.line × (said.console ≡ None)

-- the outcome has what became of the target, and says how its backup ended
pub record HasBackedUp {I O D : Type 0} (contents : O → Option (List ℕ)) (faults : O → ℕ)
    (disks : DiskSpec D) (s : SnapshotModel) (basis : ℕ) (was : Disks D) (console : O)
    (outcome : Outcome I O D) : Type 0 where
  pub now : Copied D
  pub log_is : outcome.target_log ≡ Some now.target.log
  pub segments_is : outcome.target_segments ≡ Some now.target.segments
  pub copies : Copies disks s was now.target now.end
  pub told : TellsCopy contents faults basis s.covered console now.end (said_of outcome)
