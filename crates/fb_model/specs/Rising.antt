-- Datoms put in the order of an index, and the one list that strictly rises and has given datoms.
-- Restates Indexes of Datomic's documentation.
use Rattle.std.specs.Prelude.{◌↔◌, List, [], ◌∷◌, if◌then◌else◌, IsTrue, Contains}
use Rattle.std.specs.Ordering.{is_lt}
use Rattle.fb_values.specs.declared.facts.Datom.{Datom}
use Rattle.fb_values.specs.declared.indexes.Order.{Order}
use Rattle.fb_values.specs.Orders.{key_cmp}
use Rattle.fb_values.specs.Rising.{rises}

-- the datoms in the order, of those with equal keys the last one alone
abbrev pub put_in_order : Order → Datom → List Datom → List Datom
put_in_order order d [] = d ∷ []
put_in_order order d (first ∷ rest) =
    if is_lt (key_cmp order d first) then d ∷ first ∷ rest
    else (if is_lt (key_cmp order first d) then first ∷ put_in_order order d rest
    else first ∷ rest)

abbrev pub in_order : Order → List Datom → List Datom
in_order order [] = []
in_order order (d ∷ ds) = put_in_order order d (in_order order ds)

-- the one list that strictly rises and has exactly these datoms
pub record IsRisingListOf (order : Order) (ds : List Datom) (IsMember : Datom → Type 0)
    : Type 0 where
  pub rising : IsTrue (rises order ds)
  pub members : (d : Datom) → Contains ds d ↔ IsMember d
