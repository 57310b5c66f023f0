-- Views: the datoms of a history under a window and filters.
-- Datomic, Database Filters. Filters come after the window, so that one can hide a fact and never
-- revive one.
use Rattle.std.specs.Prelude.{Bool, List, filter, if◌then◌else◌, Contains}
use Rattle.std.specs.List.{list_all}
use Rattle.fb_values.specs.declared.facts.Datom.{Datom}
use Rattle.fb_values.specs.declared.facts.Entry.{Entry}
use Rattle.fb_model.specs.History.{said}
use Rattle.fb_model.specs.Facts.{standing}
use Rattle.view_model.specs.Window.{Window, within, without_history}

-- the datoms before any filter: with history every datom of the window, and without one the last
-- datom of each triple in the window, where that is an addition
abbrev pub seen : List Entry → Window → List Datom
seen h w = if w.history then within w (said h) else standing (within w (said h))

-- the datom is in the view, where `Selects` says which datoms all filters select
pub record InView (h : List Entry) (w : Window) (Selects : Datom → Type 0)
    (d : Datom) : Type 0 where
  pub is_seen : Contains (seen h w) d
  pub is_selected : Selects d

-- each of the filters selects the datom, where filters are tests
abbrev pub is_selected_by : List (Datom → Bool) → Datom → Bool
is_selected_by filters d = list_all (λ test. test d) filters

-- the datoms of the view in the order in which they were recorded, where filters are tests
abbrev pub view : List Entry → Window → List (Datom → Bool) → List Datom
view h w filters = filter (is_selected_by filters) (seen h w)

-- the facts that names are found in: those of the same view without history
abbrev pub facts_seen : List Entry → Window → List (Datom → Bool) → List Datom
facts_seen h w filters = view h (without_history w) filters
