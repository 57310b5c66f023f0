-- A map as the list of its entries, in the order of their keys.
-- This project's own choice. Look-ups and removals are those of the library's maps.
use Rattle.std.specs.Prelude.{◌≡◌, List, [], ◌∷◌, Option}
use Rattle.std.specs.Ordering.{match_ordering, is_le}
use Rattle.std.specs.List.{find}
use Rattle.std.specs.Map.{lookup, remove_entry}
use Rattle.std.specs.BTreeMap.{is_at}
use Rattle.std.specs.declared.cmp.Ordering.{Ordering}
use Rattle.std.specs.declared.cmp.Ordering.TheVariants.{Less}

module _ {K V : Type 0} (cmp : K → K → Ordering) where
  -- the value at a key
  abbrev pub get : List (K × V) → K → Option V
  get entries k = lookup (is_at (cmp k)) entries

  -- with an entry, to which that of an equal key gives way
  abbrev pub put : K × V → List (K × V) → List (K × V)
  put x [] = x ∷ []
  put x (e ∷ es) = match_ordering (cmp x.0 e.0) (x ∷ e ∷ es) (x ∷ es) (e ∷ put x es)

  -- without that of a key
  abbrev pub removed : K → List (K × V) → List (K × V)
  removed k entries = remove_entry (is_at (cmp k)) entries

  -- the first whose key is not below this one
  abbrev pub first_from : K → List (K × V) → Option (K × V)
  first_from k entries = find (λ e. is_le (cmp k e.0)) entries

  -- the key is below those of the entries
  abbrev pub IsBelowAll : K → List (K × V) → Type 0
  IsBelowAll k [] = Unit {0}
  IsBelowAll k (e ∷ es) = (cmp k e.0 ≡ Less) × IsBelowAll k es

  -- each key is below those after it
  abbrev pub IsRising : List (K × V) → Type 0
  IsRising [] = Unit {0}
  IsRising (e ∷ es) = IsBelowAll e.0 es × IsRising es
