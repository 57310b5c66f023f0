-- What a run owes to scripts that have nothing wrong with them: each of their forms has its line.
-- This project's own choice.
use Rattle.std.specs.Prelude.{◌≡◌, ℕ, ◌≤◌, ◌⊎◌, false, List, Option, Some, None, length}
use Rattle.std.specs.List.{concat, AllByRecursion}
use Rattle.std.specs.Io.KnownBytes.{append_known}
use Rattle.edn_model.specs.Form.{Form}
use Rattle.fb_values.specs.declared.facts.Entry.{Entry}
use Rattle.fb_view.specs.SnapshotModel.{SnapshotModel}
use Rattle.fb_model.specs.History.{upto}
use Rattle.log_model.specs.Log.{IsLogOf}
use Rattle.fb_ports.specs.Faults.{Rose}
use Rattle.fb_ports.specs.declared.hosts.Part.{Part}
use Rattle.fb_ports.specs.declared.hosts.Part.TheVariants.{Log}
use Rattle.fb_ports.specs.HostSpec.{HostSpec}
use Rattle.command_line.specs.Words.{Command, check, backup, scripts_of, sink_of, standard}
use Rattle.talk_model.specs.Script.{whole, Script}
use Rattle.talk_model.specs.Session.{Setting, Standing, opened_at}
use Rattle.talk_model.specs.Talk.{Exchange, forms_of, places_of, lines_of, commits_of, Talk}
use Rattle.fb_session.specs.Terms.{Terms}
use Rattle.fb_session.specs.Taken.{longest_script}
use Rattle.fb_session.specs.Replies.{SessionRun}
use Rattle.fb_run.specs.declared.outcome.SessionOut.{SessionOut}
use Rattle.fb_run.specs.declared.outcome.Outcome.{Outcome}
use Rattle.fb_run.specs.Outside.{StreamSpec, DiskSpec, run_of, setting_of, EachOf, EachWhile}
use Rattle.fb_run.specs.Generated.{loads_of, spec_in_memory, in_memory}
use Rattle.fb_run.specs.Causes.{directory_of, target_of, part_of, target_part_of, IsOutOfMemory}

-- the source holds these forms, within the limits, and nothing else
pub record HoldsForms (held : Option (List ℕ)) (forms : List Form) : Type 0 where
  pub script : List ℕ
  pub known : held ≡ Some script
  pub fits : length script ≤ longest_script
  pub read : Script script forms whole

-- the source holds forms alone
abbrev pub HoldsFormsAlone : Option (List ℕ) → Type 0
HoldsFormsAlone held = (forms : List Form) × HoldsForms held forms

-- the log's bytes are known, and they are the log of a history
pub record HoldsHistory (held : Option (List ℕ)) : Type 0 where
  pub file : List ℕ
  pub known : held ≡ Some file
  pub history : List Entry
  pub is : IsLogOf file history

-- the bytes of a backup's target are known, and they are the log of a beginning of this history
pub record HoldsBeginning (h : List Entry) (held : Option (List ℕ)) : Type 0 where
  pub file : List ℕ
  pub known : held ≡ Some file
  pub t : ℕ
  pub is : IsLogOf file (upto h t)

-- no count of a session's source or sink rose
pub record StreamsStay {I O : Type 0} (spec : HostSpec) (io : StreamSpec I O)
    (names : List (List ℕ))
    (sessions : List (SessionOut I O)) : Type 0 where
  pub sources : EachWhile (λ name (s : SessionOut I O).
      ¬ Rose (spec.source_faults name) (io.source_faults s.source)) names sessions
  pub sinks : EachWhile (λ name (s : SessionOut I O).
      ¬ Rose (spec.sink_faults (sink_of name)) (io.sink_faults s.sink)) names sessions

-- no count of faults rose: not the host's,
-- nor that of a disk that is handed back, nor that of a session's source or sink or of the console
pub record NoneRose {I O D : Type 0} (spec : HostSpec) (io : StreamSpec I O) (disks : DiskSpec D)
    (new : ℕ) (command : Option Command) (outcome : Outcome I O D) : Type 0 where
  pub host : ¬ Rose spec.faults new
  pub parts : (part : Part) (disk : D) → part_of outcome part ≡ Some disk
      → ¬ Rose (spec.disk_faults (directory_of command) part) (disks.faults disk)
  pub targets : (part : Part) (disk : D) → target_part_of outcome part ≡ Some disk
      → ¬ Rose (spec.disk_faults (target_of command) part) (disks.faults disk)
  pub sessions : StreamsStay spec io (scripts_of command) outcome.sessions.items
  pub loads : StreamsStay (spec_in_memory spec command) in_memory (loads_of command)
      outcome.loads.items
  pub console : (console : O) → outcome.console ≡ Some console
      → ¬ Rose (spec.sink_faults standard) (io.sink_faults console)

-- each of the forms has its line, and the sink gained nothing else
pub record EachHasItsLine (s : Setting) (opening : ℕ) (forms : List Form) (run : SessionRun)
    : Type 0 where
  pub exchanges : List Exchange
  pub after : Standing
  pub talk : Talk s (opened_at opening) exchanges after
  pub forms_are : forms ≡ forms_of exchanges
  pub places : run.places ≡ places_of exchanges
  pub commits : run.commits ≡ commits_of exchanges
  pub gained : run.has ≡ append_known run.had (concat (lines_of exchanges))

-- each of these sessions answered all forms of its script; the log has not stopped
abbrev pub EachAnswers : {I O : Type 0} → Terms → HostSpec → StreamSpec I O → ℕ → List Entry
    → List (List ℕ) → List (SessionOut I O) → Type 0
EachAnswers {I} {O} terms spec io opening h names sessions =
    EachOf (λ n name (s : SessionOut I O).
    (forms : List Form) → HoldsForms (spec.sources name) forms
    → EachHasItsLine (setting_of terms h None false) opening forms (run_of spec io name s))
    0 names sessions

-- the run succeeded, and each of its sessions answered all forms of its script
pub record AnsweredWhole {I O D : Type 0} (terms : Terms) (spec : HostSpec) (io : StreamSpec I O)
    (command : Option Command) (outcome : Outcome I O D) : Type 0 where
  pub succeeded : outcome.status ≡ 0
  pub last : SnapshotModel
  pub kept : outcome.last ≡ Some last
  pub each : EachAnswers terms spec io outcome.recovered last.entries (scripts_of command)
      outcome.sessions.items
  pub loads : EachAnswers terms (spec_in_memory spec command) in_memory outcome.recovered
      last.entries (loads_of command) outcome.loads.items

-- each form of its scripts, or of the generator's, was answered;
-- or the look at the directory or its backup, which has no script, succeeded,
-- so it printed its line
abbrev pub Succeeds : {I O D : Type 0} → Terms → HostSpec → StreamSpec I O → Command → Outcome I O D
    → Type 0
Succeeds terms spec io (check directory) outcome = outcome.status ≡ 0
Succeeds terms spec io (backup from to) outcome = outcome.status ≡ 0
Succeeds terms spec io command outcome =
    AnsweredWhole terms spec io (Some command) outcome

-- Where the words are a command, its log is that of a history, its scripts
-- are forms within the limits, and no count of faults rises, it succeeds, or memory was refused.
-- The log of a backup's target has to be that of a beginning of the history.
abbrev pub Complete : {I O D : Type 0} → Terms → HostSpec → StreamSpec I O → DiskSpec D → ℕ
    → Option Command → Outcome I O D → Type 0
Complete terms spec io disks new None outcome = Unit {0}
Complete terms spec io disks new (Some (backup from to)) outcome =
    (log : HoldsHistory (spec.disks from Log))
    → HoldsBeginning log.history (spec.disks to Log)
    → NoneRose spec io disks new (Some (backup from to)) outcome
    → Succeeds terms spec io (backup from to) outcome ⊎ IsOutOfMemory outcome
Complete terms spec io disks new (Some command) outcome =
    HoldsHistory (spec.disks (directory_of (Some command)) Log)
    → AllByRecursion (λ name. HoldsFormsAlone (spec.sources name)) (scripts_of (Some command))
    → NoneRose spec io disks new (Some command) outcome
    → Succeeds terms spec io command outcome ⊎ IsOutOfMemory outcome
