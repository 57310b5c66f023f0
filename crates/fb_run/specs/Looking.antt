-- How a look at a directory comes about:
-- what is opened for it, and what its line leaves of the console.
-- This project's own choice.
use Rattle.std.specs.Prelude.{◌≡◌, ◌⊎◌, ℕ, List, Option, Some, string_bytes}
use Rattle.fb_values.specs.declared.facts.Entry.{Entry}
use Rattle.fb_model.specs.History.{basis}
use Rattle.disk_model.specs.Disk.{IfKnown}
use Rattle.log_model.specs.Log.{IsLogOf}
use Rattle.fb_ports.specs.declared.hosts.Part.TheVariants.{Log, Segments}
use Rattle.fb_ports.specs.HostSpec.{HostSpec}
use Rattle.disk_log.specs.Logs.{disk_in}
use Rattle.seg_store.specs.Stores.{disk_in as segments_in}
use Rattle.command_line.specs.Words.{standard}
use Rattle.fb_run.specs.declared.database.Directory.{Directory}
use Rattle.fb_run.specs.declared.database.Obstacle.TheVariants as obstacle
use Rattle.fb_run.specs.declared.database.Unready.{Unready}
use Rattle.fb_run.specs.declared.opening.Unopened.{Unopened}
use Rattle.fb_run.specs.declared.looking.Look.{Look}
use Rattle.fb_run.specs.declared.outcome.Outcome.{Outcome}
use Rattle.fb_run.specs.StatusLines.{reported, console_failed, history_line}
use Rattle.fb_run.specs.Outside.{StreamSpec, DiskSpec, IsSinkOf}
use Rattle.fb_run.specs.Opening.{HostRefuses}
use Rattle.fb_recover.specs.Openings.{HasCoverage}
use Rattle.fb_run.specs.Coverage.{StaysCovered}
use Rattle.fb_run.specs.Database.{LeaveLogUnharmed, disks_in}
use Rattle.fb_run.specs.Causes.{SaysWhy, TookWhole, TookPart}

-- the directory's log is that of a history,
-- about which the line is and how far its trees go, and the console is as the host's record has it
pub record IsLook {I O D : Type 0} {g : _} (old new : HostSpec) (io : StreamSpec I O)
    (disks : DiskSpec D)
    (dir : List ℕ) (look : Look O D g) : Type 0 where
  pub history : List Entry
  pub opening : IfKnown (old.disks dir Log) (λ file. IsLogOf file history)
  pub covered : ℕ
  pub coverage : IfKnown (old.disks dir Segments) (HasCoverage history covered)
  pub kept : StaysCovered old disks dir history covered (segments_in look.directory.store)
  pub line : string_bytes look.answer.line ≡ history_line (basis history) covered
  pub console : IsSinkOf old io standard look.answer.console
  pub host : new.faults ≡ old.faults
  pub unfailed : disks.faults (disk_in look.directory.log) ≡ old.disk_faults dir Log
  pub segments_unfailed :
      disks.faults (segments_in look.directory.store) ≡ old.disk_faults dir Segments
  pub unharmed : LeaveLogUnharmed old disks dir (disks_in look.directory)

-- the host could not open the console of this name, and the disks of the directory are left
pub record IsUnanswered {D : Type 0} {g : _} (old new : HostSpec) (name : List ℕ)
    (directory : Directory D g) (unready : Unready D) : Type 0 where
  pub why : Unopened
  pub not : HostRefuses name old new why
  pub is : unready ≡ record {
    why = obstacle.Unopened why;
    disks = Some (disks_in directory);
  }

-- the console took the line, or failed before its end, and the outcome says so
pub record HasPrinted {I O D : Type 0} (contents : O → Option (List ℕ)) (faults : O → ℕ)
    (line : List ℕ) (was : O) (outcome : Outcome I O D) : Type 0 where
  pub now : O
  pub console_is : outcome.console ≡ Some now
  pub took :
      (SaysWhy reported outcome.status (string_bytes outcome.line)
      × TookWhole line (contents was) (contents now) (faults was) (faults now))
      ⊎ (SaysWhy console_failed outcome.status (string_bytes outcome.line)
      × TookPart line (contents was) (contents now) (faults was) (faults now))
