-- Members of a list in order that are alike to the one before them or to the one after.
-- This project's own choice.
use Rattle.std.specs.Prelude.{ℕ, ◌+◌, ◌-◌, Bool, ◌&&◌, ◌||◌, List, length, nat_lt, nat_eq, map}
use Rattle.std.specs.Prelude.{slice_index_or}
use denote.Ref.{Bor}
use Rattle.fb_model.specs.Facts.{value_eq}
use Rattle.tx_asks.specs.declared.triples.Triple.{Triple}

-- the values behind references
abbrev pub behind : List (Bor Triple) → List Triple
behind refs = map (λ ref. ref.now) refs

-- of one entity and attribute
abbrev pub are_of_one_entity : Triple → Triple → Bool
are_of_one_entity x y = nat_eq x.e y.e && nat_eq x.a y.a

-- of one attribute and value
abbrev pub are_of_one_value : Triple → Triple → Bool
are_of_one_value x y = nat_eq x.a y.a && value_eq x.v y.v

abbrev pub is_beside : (Triple → Triple → Bool) → List Triple → ℕ → Triple → Bool
is_beside alike xs i d =
    (nat_lt 0 i && alike (slice_index_or xs (i - 1) d) (slice_index_or xs i d))
    || (nat_lt (i + 1) (length xs) && alike (slice_index_or xs i d) (slice_index_or xs (i + 1) d))
