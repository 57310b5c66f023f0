-- Changes of a list whose datoms are of a table.
-- This project's own choice.
use Rattle.std.specs.Prelude.{ℕ, Bool, false, List, [], ◌∷◌, ◌++◌, take, drop, Contains, Option, Some, None, if◌then◌else◌}
use Rattle.std.specs.List.{All, insert, remove, slice_get}
use Rattle.std.specs.Ordering.{is_eq}
use Rattle.fb_values.specs.Orders.{key_cmp}
use Rattle.fb_values.specs.declared.facts.Datom.{Datom}
use Rattle.fb_values.specs.declared.indexes.Order.{Order}
use Rattle.fb_values.specs.Rising.{IsRising}
use Rattle.live_runs.specs.declared.members.Change.{Change}
use Rattle.live_runs.specs.declared.members.Member.{Member}
use Rattle.live_runs.specs.Members.{IsMember, changing, datom_of, held_by, named}
use Rattle.live_runs.specs.Changed.{IsWithin, changed}
use Rattle.fb_search.specs.Places.{place_of, probe_of}

abbrev pub removed : List Datom → List Change → List Datom
removed table [] = []
removed table (c ∷ cs) =
    if c.removes then datom_of table c.number ∷ removed table cs else removed table cs

abbrev pub added : List Datom → List Change → List Datom
added table [] = []
added table (c ∷ cs) =
    if c.removes then added table cs else datom_of table c.number ∷ added table cs

abbrev pub changed_by : Order → List Datom → List Change → List Datom → List Datom
changed_by order table cs base = changed order (removed table cs) (added table cs) base

-- members in the order, of which those that leave the list are in it, and those that come are not
pub record AreChanges (order : Order) (table : List Datom) (cs : List Change) (base : List Datom)
    : Type 0 where
  pub members : All (λ c. IsMember order table (changing c)) cs
  pub rising : IsRising order (held_by changing table cs)
  pub there : IsWithin base (removed table cs)
  pub fresh : (d : Datom) → Contains (added table cs) d → Contains base d → ⊥

-- members in the order
pub record AreMembers (order : Order) (table : List Datom) (ms : List Member) : Type 0 where
  pub members : All (IsMember order table) ms
  pub rising : IsRising order (named table ms)

-- the place of a change's datom among members
abbrev pub place_for : Order → List Datom → Change → List Member → ℕ
place_for order table c left =
    place_of (probe_of order (datom_of table c.number)) (named table left)

-- the members before a change, with what it adds; and those behind it
abbrev pub taken : Order → List Datom → Change → List Member → Bool → List Member
taken order table c left removes =
    take (place_for order table c left) left ++ (if removes then [] else changing c ∷ [])

abbrev pub behind : Order → List Datom → Change → List Member → Bool → List Member
behind order table c left removes =
    let rest = drop (place_for order table c left) left in
    if removes then drop 1 rest else rest

-- the place of a datom among changes, and whether the change that is found there is of that datom
abbrev pub place_in : Order → List Datom → ℕ → List Change → ℕ
place_in order table number cs =
    place_of (probe_of order (datom_of table number)) (held_by changing table cs)

abbrev pub is_met : Order → List Datom → ℕ → Option Change → Bool
is_met order table number None = false
is_met order table number (Some c) =
    is_eq (key_cmp order (datom_of table c.number) (datom_of table number))

-- the changes with one more at its place, or without the one that it undoes
abbrev pub with_change : Order → List Datom → List Change → Change → List Change
with_change order table cs c =
    let place = place_in order table c.number cs in
    if is_met order table c.number (slice_get cs place) then remove cs place else insert cs place c
