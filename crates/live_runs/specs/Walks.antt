-- Walks along runs, from the front.
-- This project's own choice.
use denote.Ref.{Bor}
use Rattle.std.specs.Prelude.{◌≡◌, ℕ, ◌<◌, ◌≤◌, Bool, false, List, [], ◌∷◌, ◌++◌, length, take, Contains, Option, Some}
use Rattle.std.specs.Prelude.{None}
use Rattle.std.specs.Ordering.{is_eq}
use Rattle.fb_search.specs.Places.{place_of, probe_of}
use Rattle.std.specs.List.{All}
use Rattle.std.specs.declared.cmp.Ordering.TheVariants.{Less}
use Rattle.fb_values.specs.declared.facts.Datom.{Datom}
use Rattle.fb_values.specs.declared.indexes.Order.{Order}
use Rattle.fb_values.specs.Orders.{key_cmp}
use Rattle.fb_values.specs.Rising.{IsBelowAll}
use Rattle.live_runs.specs.declared.members.Change.{Change}
use Rattle.live_runs.specs.declared.members.Member.{Member}
use Rattle.live_runs.specs.declared.parts.Part.{Part}
use Rattle.live_runs.specs.declared.walk.RunsWalk.{RunsWalk}
use Rattle.live_runs.specs.Changed.{HasNoTwins}
use Rattle.live_runs.specs.Changes.{AreChanges, AreMembers, changed_by}
use Rattle.live_runs.specs.Members.{changing, datom_of, held_by, named}
use Rattle.live_runs.specs.Merged.{AreNamed, first_and, waiting_in}
use Rattle.live_runs.specs.Parts.{IsPart, members_of}

-- the first of what was left, after which the rest is left; or nothing was left
abbrev pub IsFirstOf : List Datom → List Datom → Option (Bor Datom) → Type 0
IsFirstOf old new None = (old ≡ []) × (new ≡ [])
IsFirstOf old new (Some d) = old ≡ d.now ∷ new

-- the same, of the datom's number
abbrev pub IsNumberOf : List Datom → List Datom → List Datom → Option ℕ → Type 0
IsNumberOf table old new None = (old ≡ []) × (new ≡ [])
IsNumberOf table old new (Some number) =
    (number < length table) × (old ≡ datom_of table number ∷ new)

-- the members that are left, those at hand and those of later parts
abbrev pub members_left : List Member → List Part → List Member
members_left chunk later = chunk ++ members_of later

-- the changes that are left
abbrev pub changes_left : RunsWalk → List Change
changes_left w = first_and w.first (waiting_in w.order w.table.now w.waiting)

abbrev pub left_of : RunsWalk → List Datom
left_of w =
    changed_by w.order w.table.now (changes_left w)
    (named w.table.now (members_left w.chunk.now w.later.now))

-- the changes that are left are of the members that are left, and none stands before the safe ones
pub record AreLeft (order : Order) (table : List Datom) (newest : List Change) (chunk : List Member)
    (later : List Part) (safe : ℕ) : Type 0 where
  pub single : HasNoTwins table
  pub parts : All IsPart later
  pub members : AreMembers order table (members_left chunk later)
  pub changes : AreChanges order table newest (named table (members_left chunk later))
  pub within : safe ≤ length chunk
  pub before : (x y : Datom) → Contains (named table (take safe chunk)) x
      → Contains (held_by changing table newest) y → key_cmp order x y ≡ Less

pub record IsLeft (w : RunsWalk) : Type 0 where
  pub waits : AreNamed w.order w.table.now w.waiting
  pub left : AreLeft w.order w.table.now (changes_left w) w.chunk.now w.later.now w.safe

-- the changes in the middle are of the members that are left, and the newest ones of both
pub record AreBothLeft (order : Order) (table : List Datom) (newest middle : List Change)
    (chunk : List Member) (later : List Part) : Type 0 where
  pub single : HasNoTwins table
  pub parts : All IsPart later
  pub members : AreMembers order table (members_left chunk later)
  pub middle_are : AreChanges order table middle (named table (members_left chunk later))
  pub newest_are : AreChanges order table newest
      (changed_by order table middle (named table (members_left chunk later)))

-- no member that is left stands before the first change, or there is neither
abbrev pub IsAhead : Order → List Datom → List Change → List Member → Type 0
IsAhead order table [] members = members ≡ []
IsAhead order table (c ∷ cs) members =
    IsBelowAll order (datom_of table c.number) (named table members)

-- the first change is of the first member's datom
abbrev pub meets : Order → List Datom → List Change → List Member → Bool
meets order table [] members = false
meets order table (c ∷ cs) [] = false
meets order table (c ∷ cs) (m ∷ ms) =
    is_eq (key_cmp order (datom_of table c.number) (datom_of table m.number))

-- how many members stand before the first change, or all
abbrev pub upto_change : Order → List Datom → List Change → List Member → ℕ
upto_change order table [] members = length members
upto_change order table (c ∷ cs) members =
    place_of (probe_of order (datom_of table c.number)) (named table members)
