-- What the contracts say of the objects that a run was handed,
-- and by what its sessions are answered.
-- This project's own choice.
use Rattle.std.specs.Prelude.{◌≡◌, ◌⊎◌, ℕ, zero, suc, ◌+◌, Bool, List, [], ◌∷◌, Option, Some, None}
use Rattle.std.specs.Prelude.{Contains, codes, map, take}
use Rattle.fb_values.specs.declared.facts.Entry.{Entry}
use Rattle.fb_ports.specs.declared.hosts.Part.{Part}
use Rattle.fb_ports.specs.HostSpec.{HostSpec}
use Rattle.fb_ports.specs.HostCalls.{Alike}
use Rattle.command_line.specs.Words.{Command, run, check, load, backup, sink_of, standard}
use Rattle.talk_model.specs.Session.{Setting, setting}
use Rattle.fb_session.specs.Terms.{Terms}
use Rattle.fb_session.specs.Replies.{SessionRun}
use Rattle.fb_run.specs.declared.outcome.SessionOut.{SessionOut}

-- ---- what is said of sources and sinks:
-- the bytes that a source has left and that a sink holds, and their counts of faults

pub record StreamSpec (I O : Type 0) : Type 0 where
  pub left : I → Option (List ℕ)
  pub source_faults : I → ℕ
  pub contents : O → Option (List ℕ)
  pub sink_faults : O → ℕ

abbrev pub streams_of : {I O : Type 0} → (I → Option (List ℕ)) → (I → ℕ) → (O → Option (List ℕ))
    → (O → ℕ) → StreamSpec I O
streams_of left source_faults contents sink_faults =
    record {
      left = left;
      source_faults = source_faults;
      contents = contents;
      sink_faults = sink_faults;
    }

-- ---- what is said of disks: their bytes and counts of faults;
-- what a crash may leave now; their moment, and what a crash at some moment
-- since one might have left

pub record DiskSpec (D : Type 0) : Type 1 where
  pub bytes : D → Option (List ℕ)
  pub faults : D → ℕ
  pub images : D → List ℕ → Type 0
  pub moment : D → ℕ
  pub images_since : D → ℕ → List ℕ → Type 0

abbrev pub disks_of : {D : Type 0} → (D → Option (List ℕ)) → (D → ℕ) → (D → List ℕ → Type 0)
    → (D → ℕ) → (D → ℕ → List ℕ → Type 0) → DiskSpec D
disks_of bytes faults images moment images_since =
    record {
      bytes = bytes;
      faults = faults;
      images = images;
      moment = moment;
      images_since = images_since;
    }

-- ---- what was handed out for a session

-- what the session of a script was handed, by the host's record, and what it hands back
abbrev pub run_of : {I O : Type 0} → HostSpec → StreamSpec I O → List ℕ → SessionOut I O
    → SessionRun
run_of spec io name session =
    record {
      held = spec.sources name;
      left = io.left session.source;
      had = spec.sinks (sink_of name);
      has = io.contents session.sink;
      places = session.places;
      commits = session.commits;
      end = session.end;
    }

-- ---- the terms on which all of its sessions are answered: the clock, the guard and the filters

-- what a session is answered by on these terms, over a history that may have a stop
abbrev pub setting_of : Terms → List Entry → Option ℕ → Bool → Setting
setting_of terms h stop teller =
    setting terms.may terms.Selects terms.guard terms.is_filter h stop teller

-- ---- what is handed out for its scripts

-- a source is as the host's record has this name
pub record IsSourceOf {I O : Type 0} (spec : HostSpec) (io : StreamSpec I O) (name : List ℕ)
    (source : I)
    : Type 0 where
  pub left : io.left source ≡ spec.sources name
  pub faults : io.source_faults source ≡ spec.source_faults name

-- a sink is as the host's record has the name under which the lines of this script go
pub record IsSinkOf {I O : Type 0} (spec : HostSpec) (io : StreamSpec I O) (name : List ℕ)
    (sink : O)
    : Type 0 where
  pub contents : io.contents sink ≡ spec.sinks (sink_of name)
  pub faults : io.sink_faults sink ≡ spec.sink_faults (sink_of name)

-- a disk is as the host's record has this part of the directory
pub record IsDiskOf {D : Type 0} (spec : HostSpec) (disks : DiskSpec D) (dir : List ℕ) (part : Part)
    (disk : D) : Type 0 where
  pub bytes : disks.bytes disk ≡ spec.disks dir part
  pub faults : disks.faults disk ≡ spec.disk_faults dir part
  pub images : Alike (spec.disk_images dir part) (disks.images disk)
  pub moment : disks.moment disk ≡ spec.disk_moment dir part

-- ---- what is opened

-- the names of sources, of sinks and of directories
pub record Ports : Type 0 where
  pub sources : List (List ℕ)
  pub sinks : List (List ℕ)
  pub directories : List (List ℕ)

abbrev pub of_directory : List ℕ → Ports
of_directory name = record { sources = []; sinks = []; directories = name ∷ [] }

-- the sources of these scripts
abbrev pub of_sources : List (List ℕ) → Ports
of_sources scripts = record { sources = scripts; sinks = []; directories = [] }

-- the sinks for the lines of these scripts
abbrev pub of_sinks : List (List ℕ) → Ports
of_sinks scripts = record { sources = []; sinks = map sink_of scripts; directories = [] }

-- both
abbrev pub of_scripts : List (List ℕ) → Ports
of_scripts scripts = record { sources = scripts; sinks = map sink_of scripts; directories = [] }

-- what a command names: its directory or two, and its scripts' sources and sinks or the console
abbrev pub ports_of : Option Command → Ports
ports_of None = record { sources = []; sinks = []; directories = [] }
ports_of (Some (run options directory scripts)) =
    record (of_scripts scripts) { directories = directory ∷ [] }
ports_of (Some (check directory)) =
    record (of_sinks (standard ∷ [])) { directories = directory ∷ [] }
ports_of (Some (load count)) =
    record (of_sinks (standard ∷ [])) { directories = codes ":memory:" ∷ [] }
ports_of (Some (backup from to)) =
    record (of_sinks (standard ∷ [])) { directories = from ∷ to ∷ [] }

-- what the record has of every other name is as it was
abbrev pub SameBeside : {A : Type 0} → List (List ℕ) → (List ℕ → A) → (List ℕ → A) → Type 0
SameBeside names old new = (other : List ℕ) → ¬ Contains names other → new other ≡ old other

-- what the record has of every part of every other directory is as it was
abbrev pub SamePartsBeside : {A : Type 0} → List (List ℕ) → (List ℕ → Part → A)
    → (List ℕ → Part → A) → Type 0
SamePartsBeside names old new =
    (other : List ℕ) → ¬ Contains names other → (part : Part) → new other part ≡ old other part

-- Of what has none of these names the host's record is as it was: nothing else was opened.
pub record OpensOnly (ports : Ports) (old new : HostSpec) : Type 0 where
  pub sources : SameBeside ports.sources old.sources new.sources
  pub source_faults : SameBeside ports.sources old.source_faults new.source_faults
  pub sinks : SameBeside ports.sinks old.sinks new.sinks
  pub sink_faults : SameBeside ports.sinks old.sink_faults new.sink_faults
  pub disks : SamePartsBeside ports.directories old.disks new.disks
  pub disk_faults : SamePartsBeside ports.directories old.disk_faults new.disk_faults
  pub disk_images : (other : List ℕ) → ¬ Contains ports.directories other → (part : Part)
      → Alike (old.disk_images other part) (new.disk_images other part)
  pub disk_moment : SamePartsBeside ports.directories old.disk_moment new.disk_moment

-- A directory or two, then all sources and then all sinks are opened, in the order of their names.
-- Nothing was opened behind what has this place among the directories and the other names:
-- where this is the first directory, no other one, no source and no sink,
-- and else no later source and no sink, or no later sink.
abbrev pub OpensUpTo : Ports → ℕ → HostSpec → HostSpec → Type 0
OpensUpTo ports zero old new =
    OpensOnly (record { sources = []; sinks = []; directories = take 1 ports.directories }) old new
OpensUpTo ports (suc n) old new =
    OpensOnly (record ports { sources = take (suc n) ports.sources; sinks = [] }) old new
    ⊎ OpensOnly (record ports { sinks = take (suc n) ports.sinks }) old new

-- ---- lists that go together

-- each of the first list and the one of the second at its place,
-- with their number; the lists have one length
abbrev pub EachOf : {A B : Type 0} → (ℕ → A → B → Type 0) → ℕ → List A → List B → Type 0
EachOf P n [] [] = Unit {0}
EachOf P n (x ∷ xs) (y ∷ ys) = P n x y × EachOf P (n + 1) xs ys
EachOf P n xs ys = ⊥

-- the same as far as both lists go
abbrev pub EachWhile : {A B : Type 0} → (A → B → Type 0) → List A → List B → Type 0
EachWhile P [] ys = Unit {0}
EachWhile P (x ∷ xs) [] = Unit {0}
EachWhile P (x ∷ xs) (y ∷ ys) = P x y × EachWhile P xs ys
