-- Newer and older changes as one list of changes.
-- This project's own choice.
use denote.Ref.{Bor}
use Rattle.std.specs.Prelude.{Bool, true, false, List, [], ◌∷◌, ◌++◌, take, drop, if◌then◌else◌, Option, Some, None}
use Rattle.std.specs.List.{All, slice_get}
use Rattle.std.specs.Ordering.{is_eq, is_gt}
use Rattle.fb_values.specs.Orders.{key_cmp}
use Rattle.fb_values.specs.declared.facts.Datom.{Datom}
use Rattle.fb_values.specs.declared.indexes.Order.{Order}
use Rattle.live_runs.specs.declared.members.Change.{Change}
use Rattle.live_runs.specs.declared.waiting.Waiting.{Waiting}
use Rattle.live_runs.specs.Changes.{is_met, place_in}
use Rattle.live_runs.specs.Members.{IsMember, changing, datom_of}

-- the older changes before a newer one, and that one unless it undoes the next of them
abbrev pub upto_newer : Order → List Datom → Change → List Change → List Change
upto_newer order table n older =
    let place = place_in order table n.number older in
    take place older
    ++ (if is_met order table n.number (slice_get (drop place older) 0) then [] else n ∷ [])

-- the older changes that are left behind it
abbrev pub behind_newer : Order → List Datom → Change → List Change → List Change
behind_newer order table n older =
    let rest = drop (place_in order table n.number older) older in
    if is_met order table n.number (slice_get rest 0) then drop 1 rest else rest

-- each newer change at its place among the older ones; where it undoes one, neither is there
abbrev pub merged : Order → List Datom → List Change → List Change → List Change
merged order table [] older = older
merged order table (n ∷ newer) older =
    upto_newer order table n older ++ merged order table newer (behind_newer order table n older)

-- of several, the first one and the others
abbrev pub first_and : Option (Bor Change) → List Change → List Change
first_and None rest = []
first_and (Some c) rest = c.now ∷ rest

-- what waits, as one list of changes
abbrev pub waiting_in : Order → List Datom → Waiting → List Change
waiting_in order table w = merged order table w.newer.now w.older.now

pub record AreNamed (order : Order) (table : List Datom) (w : Waiting) : Type 0 where
  pub newer : All (λ c. IsMember order table (changing c)) w.newer.now
  pub older : All (λ c. IsMember order table (changing c)) w.older.now

-- the first changes of both lists are of one datom
abbrev pub heads_meet : Order → List Datom → List Change → List Change → Bool
heads_meet order table [] older = false
heads_meet order table (n ∷ ns) [] = false
heads_meet order table (n ∷ ns) (o ∷ os) =
    is_eq (key_cmp order (datom_of table o.number) (datom_of table n.number))

-- the first change of the newer ones stands before all older ones
abbrev pub is_newer_first : Order → List Datom → List Change → List Change → Bool
is_newer_first order table [] older = false
is_newer_first order table (n ∷ ns) [] = true
is_newer_first order table (n ∷ ns) (o ∷ os) =
    is_gt (key_cmp order (datom_of table o.number) (datom_of table n.number))
