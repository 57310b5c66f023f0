-- What holds of datoms that are brought into an order, seen from each datom and its neighbour.
-- This project's own choice.
use Rattle.std.specs.Prelude.{◌≡◌, Bool, false, not, ◌&&◌, List, [], ◌∷◌, Option, if◌then◌else◌}
use Rattle.std.specs.List.{slice_get}
use Rattle.std.specs.Option.{option_map_or}
use Rattle.fb_values.specs.declared.facts.Datom.{Datom}
use Rattle.fb_values.specs.declared.indexes.Order.{Order}
use Rattle.fb_model.specs.Facts.{is_of, standing}
use Rattle.live_runs.specs.Changes.{AreMembers}
use Rattle.live_runs.specs.Members.{named}
use Rattle.live_runs.specs.Runs.{AreRuns, runs_datoms}
use Rattle.live_index.specs.declared.splitting.Parted.{Parted}
use Rattle.live_index.specs.declared.splitting.Split.{Split}
use Rattle.live_index.specs.Growth.{is_twin}
use Rattle.live_index.specs.Halves.{withdrawn}
use Rattle.live_index.specs.Lists.{IsLastOf}

-- of each run of equal keys the last datom alone
abbrev pub once : Order → List Datom → List Datom
once order [] = []
once order (d ∷ ds) = if is_twin order d (slice_get ds 0) then once order ds else d ∷ once order ds

-- the datom adds its triple, and the next one is of another triple
abbrev pub stands_at : Datom → Option Datom → Bool
stands_at d next = d.added && not (option_map_or (is_of d.e d.a d.v) next false)

-- the members of the datoms that hold, and of the others
pub record AreParted (order : Order) (table ds : List Datom) (p : Parted) : Type 0 where
  pub holding : AreMembers order table p.holding.items
  pub past : AreMembers order table p.past.items
  pub stands : named table p.holding.items ≡ standing ds
  pub falls : named table p.past.items ≡ withdrawn ds

-- the runs of both, and the number of the last datom
pub record AreSplit (order : Order) (table ds : List Datom) (s : Split) : Type 0 where
  pub holding : AreRuns order table s.pair.holding
  pub past : AreRuns order table s.pair.past
  pub stands : runs_datoms order table s.pair.holding ≡ standing ds
  pub falls : runs_datoms order table s.pair.past ≡ withdrawn ds
  pub last : IsLastOf table ds s.last
