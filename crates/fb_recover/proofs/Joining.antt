-- What a database is that was opened on the history of a log, or was not.
use Rattle.std.proofs.Common.{◌≡◌, ◌⊎◌, inl, inr, ℕ, List, Result, Ok, Err, refl, sym, ap, subst}
use Rattle.std.specs.Prelude.{IfOk, IfErr, Option}
use Rattle.fb_values.specs.declared.facts.Entry.{Entry}
use Rattle.fb_ports.specs.declared.hosts.Part.TheVariants.{Log, Segments}
use Rattle.log_model.specs.Log.{IsLogOf}
use Rattle.seg_store.specs.declared.loads.LoadFault.{LoadFault}
use Rattle.seg_store.specs.declared.loads.LoadFault.TheVariants.{Disk as LoadDisk, Memory as LoadMemory}
use Rattle.seg_store.specs.Loads.{CountsLoad}
use Rattle.disk_log.specs.Logs.{disk_in}
use Rattle.fb_recover.specs.declared.faults.OpenFault.{OpenFault}
use Rattle.fb_recover.specs.declared.faults.OpenFault.TheVariants.{Disk, BadLog, Unlawful, Memory}
use Rattle.fb_recover.specs.declared.faults.OpenStop.{OpenStop}
use Rattle.fb_recover.specs.declared.logging.Logged.{Logged}
use Rattle.fb_recover.specs.declared.reopening.Opened.{Opened}
use Rattle.fb_recover.specs.Faults.{fault_of_load, IsCause, IsOfLog, CountsLog, CountsOpening}
use Rattle.fb_recover.specs.Openings.{log_after}
use Rattle.fb_recover.specs.Joining.{IsOpenedOn, IsStoppedOn}

-- memory ran out, or the disk of the segments failed
abbrev pub IsBehindLog : OpenFault → Type 0
IsBehindLog fault = (fault ≡ Memory) ⊎ (fault ≡ Disk Segments)

-- ---- of the log

pub log-counts : (fault : OpenFault) (old new : ℕ) → CountsLog fault old new → CountsOpening fault Log old new
log-counts (Disk Log) old new counts = counts
log-counts (Disk Segments) old new counts = absurd counts
log-counts (BadLog nth at) old new counts = counts
log-counts (Unlawful t law) old new counts = counts
log-counts Memory old new counts = counts

pub log-spares : (fault : OpenFault) (old new n : ℕ) → CountsLog fault old new → CountsOpening fault Segments n n
log-spares (Disk Log) old new n counts = refl
log-spares (Disk Segments) old new n counts = absurd counts
log-spares (BadLog nth at) old new n counts = refl
log-spares (Unlawful t law) old new n counts = refl
log-spares Memory old new n counts = refl

-- ---- behind the log

pub behind-cause : (fault : OpenFault) (h : List Entry) (file : List ℕ) → IsBehindLog fault → IsLogOf file h → IsCause fault file
behind-cause fault h file (inl is) held = subst (λ (f : OpenFault). IsCause f file) (sym is) tt
behind-cause fault h file (inr is) held = subst (λ (f : OpenFault). IsCause f file) (sym is) (h, held)

pub behind-spares : (fault : OpenFault) (old new : ℕ) → IsBehindLog fault → new ≡ old → CountsOpening fault Log old new
behind-spares fault old new (inl is) same = subst (λ (f : OpenFault). CountsOpening f Log old new) (sym is) same
behind-spares fault old new (inr is) same = subst (λ (f : OpenFault). CountsOpening f Log old new) (sym is) same

pub behind-apart : (fault : OpenFault) → IsBehindLog fault → IsOfLog fault → ⊥
behind-apart fault (inl is) log = subst IsOfLog is log
behind-apart fault (inr is) log = subst IsOfLog is log

pub load-behind : (load : LoadFault) → IsBehindLog (fault_of_load load)
load-behind LoadDisk = inr refl
load-behind LoadMemory = inl refl

pub load-counts : (load : LoadFault) (old new : ℕ) → CountsLoad load old new → CountsOpening (fault_of_load load) Segments old new
load-counts LoadDisk old new counts = counts
load-counts LoadMemory old new counts = counts

-- the log's disk is as it was when the log was opened
pub log-stays : {D : Type 0} {g : _} (bytes : D → Option (List ℕ)) (images : D → List ℕ → Type 0) (faults : D → ℕ)
    (logged : Logged D g) (segments : D) (result : Result (Opened D g) (OpenStop D))
    → IfOk result (IsOpenedOn bytes images faults logged segments) → IfErr result (IsStoppedOn faults logged segments)
    → log_after result ≡ disk_in logged.log
log-stays bytes images faults logged segments (Ok opened) is stopped = ap disk_in is.joined.log
log-stays bytes images faults logged segments (Err stop) is stopped = stopped.log
