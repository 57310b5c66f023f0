-- The fault of a store where its journal had one.
-- This project's own choice.
use Rattle.fb_journal.specs.declared.journals.JournalFault.{JournalFault}
use Rattle.fb_journal.specs.declared.journals.JournalFault.TheVariants.{Disk as JournalDisk}
use Rattle.fb_journal.specs.declared.journals.JournalFault.TheVariants.{Stopped as JournalStopped}
use Rattle.seg_store.specs.declared.stores.KeepFault.{KeepFault}
use Rattle.seg_store.specs.declared.stores.KeepFault.TheVariants.{Disk, Stopped}

abbrev pub keep_fault_of : JournalFault → KeepFault
keep_fault_of JournalDisk = Disk
keep_fault_of (JournalStopped at) = Stopped at
