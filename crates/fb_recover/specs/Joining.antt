-- What a database is that was opened, or was not, by what its log and its file of segments gave.
-- This project's own choice.
use Rattle.std.specs.Prelude.{◌≡◌, ◌⊎◌, ℕ, List, [], Option}
use Rattle.fb_model.specs.History.{basis}
use Rattle.fb_core.specs.Cores.{CoreStands}
use Rattle.fb_ports.specs.declared.hosts.Part.TheVariants.{Segments}
use Rattle.seg_store.specs.Stores.{disk_in as segments_in}
use Rattle.disk_log.specs.Logs.{disk_in}
use Rattle.fb_recover.specs.Faults.{CountsOpening}
use Rattle.fb_recover.specs.Basing.{IsBased}
use Rattle.fb_recover.specs.declared.faults.OpenFault.TheVariants.{Disk, Memory}
use Rattle.fb_recover.specs.declared.faults.OpenStop.{OpenStop}
use Rattle.fb_recover.specs.declared.logging.Logged.{Logged}
use Rattle.fb_recover.specs.declared.basing.Based.{Based}
use Rattle.fb_recover.specs.declared.reopening.Opened.{Opened}

-- the core has the history of the log, with these trees
pub record IsJoined {D : Type 0} {g : _} (logged : Logged D g) (based : Based D g)
    (opened : Opened D g) : Type 0 where
  pub entries : opened.core.snapshot.entries ≡ logged.entries
  pub core : CoreStands opened.core × (opened.core.authors ≡ [])
  pub log : opened.log ≡ logged.log
  pub recovered : opened.recovered ≡ basis opened.core.snapshot.entries
  pub roots : opened.core.snapshot.roots ≡ based.trees.roots
  pub c : opened.core.snapshot.covered ≡ based.trees.c
  pub covered : opened.covered ≡ opened.core.snapshot.covered
  pub store : opened.store ≡ based.store

-- memory ran out
pub record IsStopped {D : Type 0} {g : _} (logged : Logged D g) (based : Based D g)
    (stop : OpenStop D) : Type 0 where
  pub fault : stop.fault ≡ Memory
  pub log : stop.log ≡ disk_in logged.log
  pub segments : stop.segments ≡ segments_in based.store

-- the trees and the store are by the file of segments
pub record IsOpenedOn {D : Type 0} {g : _} (bytes : D → Option (List ℕ))
    (images : D → List ℕ → Type 0) (faults : D → ℕ) (logged : Logged D g) (segments : D)
    (opened : Opened D g) : Type 0 where
  pub based : Based D g
  pub is : IsBased bytes images (bytes segments) logged.entries based
  pub joined : IsJoined logged based opened
  pub counted : faults (segments_in opened.store) ≡ faults segments

-- memory ran out, or the disk of the segments failed
pub record IsStoppedOn {D : Type 0} {g : _} (faults : D → ℕ) (logged : Logged D g) (segments : D)
    (stop : OpenStop D) : Type 0 where
  pub fault : (stop.fault ≡ Memory) ⊎ (stop.fault ≡ Disk Segments)
  pub log : stop.log ≡ disk_in logged.log
  pub counted : CountsOpening stop.fault Segments (faults segments) (faults stop.segments)
