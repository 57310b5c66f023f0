-- What opening sources and sinks of scripts gives, and the host's record from then on.
-- This project's own choice.
use Rattle.std.specs.Prelude.{◌≡◌, ℕ, suc, List, [], ◌∷◌, ◌++◌, map, take, Some, slice_get}
use Rattle.fb_ports.specs.Faults.{Rose}
use Rattle.fb_ports.specs.HostSpec.{HostSpec}
use Rattle.fb_ports.specs.HostCalls.{Same, SameBut}
use Rattle.command_line.specs.Words.{sink_of}
use Rattle.fb_run.specs.declared.outcome.SessionOut.{SessionOut}
use Rattle.fb_run.specs.declared.opening.Unopened.{Unopened}
use Rattle.fb_run.specs.declared.opening.Unopened.TheVariants.{CannotOpen, Memory}
use Rattle.fb_run.specs.Outside.{StreamSpec, Ports, OpensOnly, OpensUpTo, of_scripts, IsSourceOf}
use Rattle.fb_run.specs.Outside.{IsSinkOf, EachOf}

-- ---- sources

-- the source of this name was added, and of all else the host's record is as it was
pub record AddsSource {I O : Type 0} (io : StreamSpec I O) (name : List ℕ) (had has : List I)
    (old new : HostSpec) : Type 0 where
  pub source : I
  pub is : IsSourceOf old io name source
  pub added : has ≡ had ++ source ∷ []
  pub faults : new.faults ≡ old.faults
  pub sources : SameBut name old.sources new.sources
  pub source_faults : SameBut name old.source_faults new.source_faults
  pub sinks : Same old.sinks new.sinks
  pub sink_faults : Same old.sink_faults new.sink_faults

-- the sources of all these names were added, and of sinks the host's record is as it was
pub record OpensSources {I O : Type 0} (io : StreamSpec I O) (names : List (List ℕ))
    (had has : List I) (old new : HostSpec) : Type 0 where
  pub opened : List I
  pub each : EachOf (λ n name source. IsSourceOf old io name source) 0 names opened
  pub added : has ≡ had ++ opened
  pub faults : new.faults ≡ old.faults
  pub sinks : Same old.sinks new.sinks
  pub sink_faults : Same old.sink_faults new.sink_faults

-- ---- sinks

-- the sink for the lines of this name was opened,
-- and of every other one the host's record is as it was
pub record OpensSink {I O : Type 0} (io : StreamSpec I O) (name : List ℕ) (old new : HostSpec)
    (sink : O)
    : Type 0 where
  pub is : IsSinkOf old io name sink
  pub faults : new.faults ≡ old.faults
  pub sinks : SameBut (sink_of name) old.sinks new.sinks
  pub sink_faults : SameBut (sink_of name) old.sink_faults new.sink_faults

-- a session with it and with the first of the sources was added, and these are the sources after
pub record AddsSession {I O : Type 0} (io : StreamSpec I O) (name : List ℕ)
    (sources behind : List I)
    (had has : List (SessionOut I O)) (old new : HostSpec) : Type 0 where
  pub session : SessionOut I O
  pub source : sources ≡ session.source ∷ behind
  pub opens : OpensSink io name old new session.sink
  pub added : has ≡ had ++ session ∷ []

-- a session for each of the names was added, each with its sink and one of the sources
pub record AddsSessions {I O : Type 0} (io : StreamSpec I O) (names : List (List ℕ))
    (sources : List I) (had has : List (SessionOut I O)) (old new : HostSpec) : Type 0 where
  pub opened : List (SessionOut I O)
  pub each : EachOf (λ n name (s : SessionOut I O). IsSinkOf old io name s.sink) 0 names opened
  pub sources_are : map (λ (s : SessionOut I O). s.source) opened ≡ sources
  pub added : has ≡ had ++ opened
  pub faults : new.faults ≡ old.faults

-- ---- both

-- a session has the source and the sink of this name
pub record IsOpenedFor {I O : Type 0} (spec : HostSpec) (io : StreamSpec I O) (name : List ℕ)
    (session : SessionOut I O) : Type 0 where
  pub source : IsSourceOf spec io name session.source
  pub sink : IsSinkOf spec io name session.sink

-- a session for each of the names was opened
pub record HasOpened {I O : Type 0} (io : StreamSpec I O) (names : List (List ℕ))
    (old new : HostSpec)
    (sessions : List (SessionOut I O)) : Type 0 where
  pub each : EachOf (λ n name (s : SessionOut I O). IsOpenedFor old io name s) 0 names sessions
  pub faults : new.faults ≡ old.faults

-- ---- what cannot be opened: by the host's own fault, or because memory runs out

abbrev pub HostRefuses : List ℕ → HostSpec → HostSpec → Unopened → Type 0
HostRefuses name old new (CannotOpen why) = (why.now ≡ name) × Rose old.faults new.faults
HostRefuses name old new Memory = Unit {0}

-- it is one of these names, each of which stands for such ports, and nothing behind it was opened
pub record IsStuck (ports : List (List ℕ) → Ports) (names : List (List ℕ)) (old new : HostSpec)
    (name : List ℕ) : Type 0 where
  pub place : ℕ
  pub named : slice_get names place ≡ Some name
  pub behind : OpensOnly (ports (take (suc place) names)) old new
  pub host : Rose old.faults new.faults

abbrev pub HostRefusesOne : (List (List ℕ) → Ports) → List (List ℕ) → HostSpec → HostSpec
    → Unopened → Type 0
HostRefusesOne ports names old new (CannotOpen why) = IsStuck ports names old new why.now
HostRefusesOne ports names old new Memory = Unit {0}

-- it is the source or the sink of one of these scripts
pub record IsUnopenedScript (names : List (List ℕ)) (old new : HostSpec) (name : List ℕ) : Type 0
  where
    pub place : ℕ
    pub named : slice_get names place ≡ Some name
    pub behind : OpensUpTo (of_scripts names) (suc place) old new
    pub host : Rose old.faults new.faults

abbrev pub IsUnopened : List (List ℕ) → HostSpec → HostSpec → Unopened → Type 0
IsUnopened names old new (CannotOpen why) = IsUnopenedScript names old new why.now
IsUnopened names old new Memory = Unit {0}
