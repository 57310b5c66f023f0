-- What a backup leaves of its target: the log of the history of the directory's log,
-- and a copy of the trees with which this was opened.
-- This project's own choice.
use Rattle.std.specs.Prelude.{◌≡◌, ◌⊎◌, ◌<◌, ◌≤◌, ℕ, List, length, Some}
use Rattle.fb_values.specs.declared.facts.Entry.{Entry}
use Rattle.disk_model.specs.Disk.{IfKnown}
use Rattle.disk_log.specs.Disks.{IsLogFrom}
use Rattle.log_model.specs.Log.{IsLogOf}
use Rattle.log_model.specs.Nodes.{Roots}
use Rattle.log_model.specs.Kept.{KeptRoot, Agrees}
use Rattle.backup_model.specs.Backup.{IsCopyFile}
use Rattle.fb_recover.specs.Openings.{HasCoverage}
use Rattle.fb_ports.specs.declared.hosts.Part.TheVariants.{Log, Segments}
use Rattle.fb_ports.specs.HostSpec.{HostSpec}
use Rattle.fb_run.specs.Outside.{DiskSpec}
use Rattle.fb_run.specs.Logs.{IsUnharmed}

-- all was copied: the line about it went out, or the console failed
abbrev pub WasCopied : ℕ → Type 0
WasCopied status = (status ≡ 0) ⊎ (status ≡ 6)

-- The target's log, where the backup ended with this status.
pub record TargetHolds {D : Type 0} (spec : HostSpec) (disks : DiskSpec D) (from to : List ℕ)
    (status : ℕ) (log : D) : Type 0 where
  pub history : List Entry
  pub opening : IfKnown (spec.disks from Log) (λ file. IsLogOf file history)
  -- a crash at any moment since the host handed out the disk leaves a beginning of the history,
  -- with at least so many entries as each image had before
  pub any_moment : (n : ℕ) → IfKnown (spec.disks to Log) (λ _.
      ((image : List ℕ) → spec.disk_images to Log image → IsLogFrom n history image)
      → (image : List ℕ) → disks.images_since log (spec.disk_moment to Log) image
      → IsLogFrom n history image)
  -- where all was copied, a crash leaves all of it
  pub at_end : WasCopied status → IfKnown (spec.disks to Log)
      (λ _. (image : List ℕ) → disks.images log image → IsLogOf image history)
  -- where the target was refused, it is as it was
  pub refused : status ≡ 4 → IsUnharmed spec disks to log

-- The target's segments. The root is the newest with which the history agrees, and a file
-- that had a record is left as it was.
pub record TargetHasRoot {D : Type 0} (spec : HostSpec) (disks : DiskSpec D) (from to : List ℕ)
    (status : ℕ) (segments : D) : Type 0 where
  pub history : List Entry
  pub opening : IfKnown (spec.disks from Log) (λ file. IsLogOf file history)
  pub root : KeptRoot
  pub ids : Roots
  pub agrees : Agrees history root
  pub newest : IfKnown (spec.disks from Segments) (HasCoverage history root.c)
  pub copy : WasCopied status → IfKnown (spec.disks to Segments) (λ file. length file ≤ 16
      → (image : List ℕ) → disks.images segments image → IsCopyFile image root ids)
  pub left : IfKnown (spec.disks to Segments) (λ file. 16 < length file
      → (disks.bytes segments ≡ Some file)
      × ((image : List ℕ) → disks.images segments image → spec.disk_images to Segments image))
