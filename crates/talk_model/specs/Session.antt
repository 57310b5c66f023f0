-- What a session is answered by: what it shares with others, and its own state between two
-- commands.
-- This project's own choice. Of two filters with one name the later one counts: what is selected by
-- a name is defined here.
use Rattle.std.specs.Prelude.{◌≡◌, ◌⊎◌, ℕ, ℤ, Bool, false, List, [], ◌∷◌, ◌++◌, bytes_eq}
use Rattle.std.specs.Prelude.{if◌then◌else◌, Option, None}
use Rattle.std.specs.List.{list_any}
use Rattle.fb_values.specs.declared.facts.Datom.{Datom}
use Rattle.fb_values.specs.declared.facts.Entry.{Entry}
use Rattle.fb_model.specs.History.{upto}
use Rattle.view_model.specs.Window.{Window, whole}
use Rattle.tx_model.specs.Step.{Guard}

pub record Setting : Type 1 where
  -- what the clock may read
  pub may : ℤ → Type 0
  pub guard : Guard
  -- which names are those of filters, and what the filter of a name selects
  pub is_filter : List ℕ → Bool
  pub Selects : List ℕ → Datom → Type 0
  -- of all sessions together
  pub history : List Entry
  -- the t that the log did not take, and whether it was this session that asked for it
  pub stop : Option ℕ
  pub teller : Bool

pub record Standing : Type 0 where
  -- the t up to which the session has seen the history
  pub place : ℕ
  -- what its reads see of that
  pub window : Window
  -- the names of its filters, in the order in which they were added
  pub filters : List (List ℕ)
  -- whether it was notified that the log has stopped
  pub was_notified : Bool

-- what a read has, and what its reply depends on
pub record Sight : Type 1 where
  -- what its session has seen of the history
  pub history : List Entry
  pub window : Window
  -- the names of the filters, and what they select together
  pub filters : List (List ℕ)
  pub Selects : Datom → Type 0
  -- which names are those of filters
  pub is_filter : List ℕ → Bool
  -- what judges the transactions that it tries
  pub guard : Guard

-- of a session that is opened at this t
abbrev pub opened_at : ℕ → Standing
opened_at t = record { place = t; window = whole; filters = []; was_notified = false }

-- the names with one more, where it is not there yet
abbrev pub with_name : List (List ℕ) → List ℕ → List (List ℕ)
with_name names name = if list_any (bytes_eq name) names then names else names ++ name ∷ []

-- the session has seen more of the history
abbrev pub moved : Standing → ℕ → Standing
moved standing t = record standing { place = t }

-- each filter of these names selects the datom
abbrev pub SelectedBy : (List ℕ → Datom → Type 0) → List (List ℕ) → Datom → Type 0
SelectedBy Selects [] d = Unit {0}
SelectedBy Selects (name ∷ names) d = Selects name d × SelectedBy Selects names d

-- of a session with this standing
abbrev pub sight_of : Setting → Standing → Sight
sight_of s standing =
    record {
      history = upto s.history standing.place;
      window = standing.window;
      filters = standing.filters;
      Selects = SelectedBy s.Selects standing.filters;
      is_filter = s.is_filter;
      guard = s.guard;
    }

-- the same setting with more of the history, and with what became of the log
abbrev pub grown : Setting → List Entry → Option ℕ → Bool → Setting
grown s more stop teller = record s { history = s.history ++ more; stop = stop; teller = teller }

-- the log may have stopped meanwhile; where it had, it has stopped there
abbrev pub Stays : Setting → Option ℕ → Bool → Type 0
Stays s stop teller = (s.stop ≡ None) ⊎ ((stop ≡ s.stop) × (teller ≡ s.teller))

-- of what no clause can range over, and the rest
abbrev pub setting : (ℤ → Type 0) → (List ℕ → Datom → Type 0) → Guard → (List ℕ → Bool) → List Entry
    → Option ℕ → Bool → Setting
setting may Selects guard is_filter history stop teller =
    record {
      may = may;
      guard = guard;
      is_filter = is_filter;
      Selects = Selects;
      history = history;
      stop = stop;
      teller = teller;
    }
