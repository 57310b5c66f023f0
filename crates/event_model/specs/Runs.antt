-- Runs: events one after another, and the worlds that a database may come to.
-- This project's own choice.
use Rattle.std.specs.Prelude.{◌≡◌, List, [], ◌∷◌, not, IsTrue}
use Rattle.std.specs.List.{list_all}
use Rattle.tx_model.specs.Step.{Guard}
use Rattle.event_model.specs.World.{World, IsBeginning}
use Rattle.event_model.specs.Event.{Event, Happens, is_crash}

-- the events may happen to the one world in this order, and make the other of it
abbrev pub Runs : Guard → World → List Event → World → Type 0
Runs guard before [] after = after ≡ before
Runs guard before (event ∷ events) after =
    (between : World) × Happens guard before event between × Runs guard between events after

abbrev pub HaveNoCrash : List Event → Type 0
HaveNoCrash events = IsTrue (list_all (λ event. not (is_crash event)) events)

-- a world that a beginning may come to
pub record IsReached (guard : Guard) (world : World) : Type 0 where
  pub start : World
  pub events : List Event
  pub begins : IsBeginning start
  pub runs : Runs guard start events world
