-- What a copy of trees answers of its disk.
-- This project's own choice.
use Rattle.std.specs.Prelude.{◌≡◌, ℕ}
use Rattle.io_faults.specs.Faults.{Rose}
use Rattle.seg_store.specs.declared.loads.LoadFault.{LoadFault}
use Rattle.seg_store.specs.declared.loads.LoadFault.TheVariants.{Disk as LoadDisk}
use Rattle.seg_store.specs.declared.loads.LoadFault.TheVariants.{Memory as LoadMemory}
use Rattle.fb_backup.specs.declared.faults.CopyFault.{CopyFault}
use Rattle.fb_backup.specs.declared.faults.CopyFault.TheVariants.{Disk, Memory}

-- a fault of the disk raised its count, and running out of memory did not
abbrev pub CountsCopy : CopyFault → ℕ → ℕ → Type 0
CountsCopy Disk old new = Rose old new
CountsCopy Memory old new = new ≡ old

abbrev pub fault_of_load : LoadFault → CopyFault
fault_of_load LoadDisk = Disk
fault_of_load LoadMemory = Memory
