-- One order's members: a list, changes of it that wait, and the newest changes of both.
-- This project's own choice.
use Rattle.std.specs.Prelude.{◌≡◌, ℕ, ◌+◌, ◌*◌, ◌-◌, ◌/◌, ◌≤◌, ◌&&◌, Bool, List, [], length, min, Option, Some, None}
use Rattle.std.specs.Prelude.{nat_le}
use Rattle.fb_values.specs.declared.facts.Datom.{Datom}
use Rattle.fb_values.specs.declared.indexes.Order.{Order}
use Rattle.fb_values.specs.declared.indexes.Order.TheVariants.{Eavt, Aevt, Avet, Vaet}
use Rattle.live_runs.specs.declared.members.Change.{Change}
use Rattle.live_runs.specs.declared.members.Member.{Member}
use Rattle.live_runs.specs.declared.settled.Settled.{Settled}
use Rattle.live_runs.specs.declared.settled.TheConstants.{MIDDLE, REMOVALS}
use Rattle.live_runs.specs.Changed.{HasNoTwins}
use Rattle.live_runs.specs.Changes.{AreChanges, AreMembers, changed_by}
use Rattle.live_runs.specs.Members.{named}

-- the newest changes, those that wait, the list, and how many datoms they make together
pub record Layers : Type 0 where
  pub newest : List Change
  pub middle : List Change
  pub settled : List Member
  pub count : ℕ

abbrev pub settled_members : Option Settled → List Member
settled_members None = []
settled_members (Some s) = s.parts

abbrev pub middle_changes : Option Settled → List Change
middle_changes None = []
middle_changes (Some s) = s.middle.items

abbrev pub settled_datoms : Order → List Datom → List Change → List Member → List Datom
settled_datoms order table middle members = changed_by order table middle (named table members)

-- Few changes wait. For each that removes a member, members and changes are two more than datoms.
pub record IsSettled (order : Order) (table : List Datom) (middle : List Change) (members : List Member)
    : Type 0 where
  pub members_are : AreMembers order table members
  pub changes_are : AreChanges order table middle (named table members)
  pub short : 16 * length middle ≤ length members
  pub few : length members + length middle
      ≤ length (settled_datoms order table middle members) + 2 * REMOVALS

-- the datoms that they make together
abbrev pub runs_datoms : Order → List Datom → Layers → List Datom
runs_datoms order table r =
    changed_by order table r.newest (settled_datoms order table r.middle r.settled)

pub record AreRuns (order : Order) (table : List Datom) (r : Layers) : Type 0 where
  pub single : HasNoTwins table
  pub settled : IsSettled order table r.middle r.settled
  pub newest : AreChanges order table r.newest (settled_datoms order table r.middle r.settled)
  pub count_is : r.count ≡ length (runs_datoms order table r)

-- how many changes may wait beside so many members; each order has a share of its own, so that no commit weaves all of them
abbrev pub most_waiting : Order → ℕ → ℕ
most_waiting Eavt members = min (members / 16) MIDDLE
most_waiting Aevt members = min (members / 16) MIDDLE * 7 / 8
most_waiting Avet members = min (members / 16) MIDDLE * 6 / 8
most_waiting Vaet members = min (members / 16) MIDDLE * 5 / 8

abbrev pub may_wait : Order → ℕ → ℕ → ℕ → Bool
may_wait order members changes datoms =
    nat_le changes (most_waiting order members) && nat_le (members + changes - 2 * REMOVALS) datoms
