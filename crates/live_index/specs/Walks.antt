-- Walks over the two halves of an order's list.
-- This project's own choice.
use denote.Ref.{Bor}
use Rattle.std.specs.Prelude.{Bool, true, false, List, [], ◌∷◌, Option, Some, None, if◌then◌else◌}
use Rattle.std.specs.Ordering.{is_lt}
use Rattle.fb_values.specs.declared.facts.Datom.{Datom}
use Rattle.fb_values.specs.declared.indexes.Order.{Order}
use Rattle.fb_values.specs.Orders.{key_cmp}
use Rattle.live_runs.specs.Walks.{IsLeft, left_of}
use Rattle.live_index.specs.declared.half.Rest.{Rest}
use Rattle.live_index.specs.declared.half.Rest.TheVariants.{Nothing, Runs}

-- what is left of a half
abbrev pub rest_of : Rest → List Datom
rest_of Nothing = []
rest_of (Runs walk) = left_of walk

abbrev pub IsRest : Rest → Type 0
IsRest Nothing = Unit {0}
IsRest (Runs walk) = IsLeft walk

-- the datom at hand before the rest, or nothing
abbrev pub before_rest : Option (Bor Datom) → List Datom → List Datom
before_rest None rest = []
before_rest (Some d) rest = d.now ∷ rest

-- the first half has a datom, and that stands before the one of the second half, if there is one
abbrev pub comes_first : Order → Option Datom → Option Datom → Bool
comes_first order None y = false
comes_first order (Some x) None = true
comes_first order (Some x) (Some y) = is_lt (key_cmp order x y)

-- the later of two datoms, where there are any
abbrev pub later_of : Order → Option Datom → Option Datom → Option Datom
later_of order None y = y
later_of order (Some x) None = Some x
later_of order (Some x) (Some y) = if is_lt (key_cmp order x y) then Some y else Some x
