-- How a run of the generator ends:
-- its sessions become loads, and where nothing went wrong its summary goes out to the console.
-- This project's own choice.
use Rattle.std.specs.Prelude.{◌≡◌, ◌⊎◌, ℕ, List, [], map, Option, Some, None, string_bytes}
use Rattle.std.specs.List.{range_with_len}
use Rattle.fb_values.specs.declared.facts.Entry.{Entry}
use Rattle.fb_view.specs.SnapshotModel.{SnapshotModel}
use Rattle.fb_core.specs.declared.accepting.Draft.{Draft}
use Rattle.mem_ports.specs.Calls.{no_calls}
use Rattle.mem_ports.specs.InMemory.{Supply, Store}
use Rattle.load_scripts.specs.Scripts.{script_of}
use Rattle.fb_run.specs.declared.outcome.SessionOut.{SessionOut}
use Rattle.fb_run.specs.declared.outcome.Outcome.{Outcome}
use Rattle.fb_run.specs.StatusLines.{reported, console_failed}
use Rattle.fb_run.specs.Summary.{IsSummary}
use Rattle.fb_run.specs.Causes.{OutOfMemory, SaysWhy, TookWhole, TookPart}

-- what session k reads
abbrev pub supply : ℕ → ℕ → Supply
supply count k = record { left = script_of k count; calls = no_calls [] }

-- where its lines go: none is there yet, and there is room for 1 MiB
abbrev pub room : ℕ → Store
room k = record { bytes = []; room = 1048576; calls = no_calls [] }

-- the five sessions, by number
pub record AreGenerated (count : ℕ) (sessions : List (SessionOut Supply Store)) : Type 0 where
  pub sources : map (λ s. s.source) sessions ≡ map (supply count) (range_with_len 0 5)
  pub sinks : map (λ s. s.sink) sessions ≡ map room (range_with_len 0 5)

-- what a run leaves of the database
pub record Left (D : Type 0) : Type 0 where
  pub log : Option D
  pub segments : Option D
  pub authors : Option (List ℕ)
  pub last : Option SnapshotModel
  pub torn : Option Draft
  pub recovered : ℕ
  pub covered : ℕ

abbrev pub left_of : {I O D : Type 0} → Outcome I O D → Left D
left_of outcome =
    record {
      log = outcome.log;
      segments = outcome.segments;
      authors = outcome.authors;
      last = outcome.last;
      torn = outcome.torn;
      recovered = outcome.recovered;
      covered = outcome.covered;
    }

-- what it says, and to which console
pub record Said (O : Type 0) : Type 0 where
  pub status : ℕ
  pub line : List ℕ
  pub console : Option O

abbrev pub said_of : {I O D : Type 0} → Outcome I O D → Said O
said_of outcome =
    record {
      status = outcome.status;
      line = string_bytes outcome.line;
      console = outcome.console;
    }

-- the console took the line, or failed before its end
pub record HasReported {O : Type 0} (contents : O → Option (List ℕ)) (faults : O → ℕ)
    (line : List ℕ) (was : O) (said : Said O) : Type 0 where
  pub now : O
  pub console_is : said.console ≡ Some now
  pub took :
      (SaysWhy reported said.status said.line
      × TookWhole line (contents was) (contents now) (faults was) (faults now))
      ⊎ (SaysWhy console_failed said.status said.line
      × TookPart line (contents was) (contents now) (faults was) (faults now))

-- the summary of the history went out to the console, or memory was refused to it
abbrev pub SumsUp : {O : Type 0} → (O → Option (List ℕ)) → (O → ℕ) → List Entry → O → Said O
    → Type 0
SumsUp contents faults h was said =
    (OutOfMemory said.status said.line × (said.console ≡ None))
    ⊎ ((line : List ℕ) × IsSummary h line × HasReported contents faults line was said)

-- what went wrong is reported still
pub record SaysSame {O : Type 0} (status : ℕ) (line : List ℕ) (last : Option SnapshotModel)
    (said : Said O)
    : Type 0 where
  pub failed : status ≡ 0 → last ≡ None
  pub same : said ≡ record { status = status; line = line; console = None }

-- nothing went wrong, and the last value is summed up
pub record HasSummedUp {O : Type 0} (contents : O → Option (List ℕ)) (faults : O → ℕ) (status : ℕ)
    (last : Option SnapshotModel) (was : O) (said : Said O) : Type 0 where
  pub success : status ≡ 0
  pub kept : SnapshotModel
  pub last_is : last ≡ Some kept
  pub sums_up : SumsUp contents faults kept.entries was said

abbrev pub SaysFurther : {O : Type 0} → (O → Option (List ℕ)) → (O → ℕ) → ℕ → List ℕ
    → Option SnapshotModel → O → Said O → Type 0
SaysFurther contents faults status line last was said =
    SaysSame status line last said ⊎ HasSummedUp contents faults status last was said
