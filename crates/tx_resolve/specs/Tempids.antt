-- A tempid of a transaction, and its place among those that are met.
-- Datomic, Transaction Data (temporary ids).
use Rattle.std.specs.Prelude.{ℕ, suc, Bool, false, bytes_eq, nat_eq, List, [], ◌∷◌}
use Rattle.std.specs.Prelude.{if◌then◌else◌, Option, Some, None, option_map}

pub data Tempid : Type 0 where
  -- by its name
  named : List ℕ → Tempid
  -- a map without `:db/id`, by its number
  nameless : ℕ → Tempid

abbrev pub is_same : Tempid → Tempid → Bool
is_same (named x) (named y) = bytes_eq x y
is_same (nameless m) (nameless n) = nat_eq m n
is_same x y = false

-- the first place where the list has the tempid
abbrev pub place_in : List Tempid → Tempid → Option ℕ
place_in [] tempid = None
place_in (met ∷ rest) tempid =
    if is_same tempid met then Some 0 else option_map suc (place_in rest tempid)
