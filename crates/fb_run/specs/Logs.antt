-- What a run leaves of the log on its disk: a crash at the end leaves the history,
-- or the one that the log failed to lengthen. Earlier it leaves one of their beginnings
-- with all that was there at the opening, or what a crash could have left before the run.
-- This project's own choice.
use Rattle.std.specs.Prelude.{◌≡◌, ◌⊎◌, ◌+◌, ◌≤◌, ℕ, List, [], ◌∷◌, ◌++◌, length, Option, Some}
use Rattle.std.specs.Prelude.{None, IsSome, IfSome}
use Rattle.fb_values.specs.declared.facts.Entry.{Entry}
use Rattle.fb_model.specs.History.{basis}
use Rattle.fb_model.specs.Lawful.{IsLawfulAfter}
use Rattle.disk_model.specs.Disk.{IfKnown}
use Rattle.log_model.specs.Log.{IsLogOf}
use Rattle.disk_log.specs.Disks.{IsLogFrom}
use Rattle.fb_core.specs.declared.accepting.Draft.{Draft}
use Rattle.fb_core.specs.Cores.{entry_of}
use Rattle.fb_ports.specs.Faults.{Rose}
use Rattle.fb_ports.specs.declared.hosts.Part.TheVariants.{Log}
use Rattle.fb_ports.specs.HostSpec.{HostSpec}
use Rattle.fb_run.specs.Outside.{DiskSpec}

-- the history, and after it the entry of the transaction
-- that the log did not take, where there is one
abbrev pub with_torn : List Entry → Option Draft → List Entry
with_torn h None = h
with_torn h (Some draft) = h ++ entry_of draft ∷ []

-- the transaction would have been the next one of the history
pub record IsNext (h : List Entry) (draft : Draft) : Type 0 where
  pub lawful : IsLawfulAfter h (entry_of draft)
  pub entries : draft.after.entries ≡ h ++ entry_of draft ∷ []
  pub t : basis draft.after.entries ≡ basis h + 1

-- The log has this history, which goes on from the opening's basis;
-- or it failed at the torn transaction, and may have its entry or not.
pub record LogHolds {D : Type 0} (spec : HostSpec) (disks : DiskSpec D) (dir : List ℕ)
    (h : List Entry) (opening : ℕ) (torn : Option Draft) (log : D) : Type 0 where
  pub stopped : IfSome torn (IsNext h)
  -- the log's count of faults rose where a transaction is torn, and nowhere else
  pub failed : IsSome torn → Rose (spec.disk_faults dir Log) (disks.faults log)
  pub unfailed : torn ≡ None → disks.faults log ≡ spec.disk_faults dir Log
  -- what a crash leaves now
  pub at_end : IfKnown (spec.disks dir Log) (λ _. (image : List ℕ) → disks.images log image
      → IsLogOf image h ⊎ IsLogOf image (with_torn h torn))
  -- what a crash left at each moment since the host handed out the disk:
  -- a beginning of that, or what it could have left before the run
  pub any_moment : IfKnown (spec.disks dir Log) (λ _. (image : List ℕ)
      → disks.images_since log (spec.disk_moment dir Log) image
      → spec.disk_images dir Log image ⊎ IsLogFrom opening (with_torn h torn) image)

-- the log's file, where it is known, is that of a history
abbrev pub HasHistory : HostSpec → List ℕ → Type 0
HasHistory spec dir =
    IfKnown (spec.disks dir Log) (λ file. (history : List Entry) × IsLogOf file history)

-- Opening it wrote nothing but the mark of a new log: a crash since the host
-- handed out the disk leaves an image from before, or at most 16 bytes where there were no more.
abbrev pub IsUnharmed : {D : Type 0} → HostSpec → DiskSpec D → List ℕ → D → Type 0
IsUnharmed spec disks dir log =
    IfKnown (spec.disks dir Log) (λ file. (image : List ℕ)
    → disks.images_since log (spec.disk_moment dir Log) image
    → spec.disk_images dir Log image ⊎ ((length file ≤ 16) × (length image ≤ 16)))
