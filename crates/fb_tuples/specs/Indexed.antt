-- What an index of tuples stands for, why one is refused, and how one is kept from entry to entry.
-- This project's own choice.
use Rattle.std.specs.Prelude.{◌≡◌, ℕ, Bool, true, not, List, map, filter, nat_eq, is_some}
use Rattle.std.specs.Prelude.{Option, Some, None, ⊤}
use Rattle.std.specs.List.{list_any}
use Rattle.fb_values.specs.declared.facts.Datom.{Datom}
use Rattle.tuple_model.specs.Tuples.{Row, tuple_of}
use Rattle.fb_tuples.specs.declared.faults.TupleFault.{TupleFault}
use Rattle.fb_tuples.specs.declared.faults.TupleFault.TheVariants.{BadTuple, History, Memory}

-- attributes with rows of them
pub record Indexed : Type 0 where
  pub attrs : List ℕ
  pub rows : List Row

-- the place that is no composite's is judged first, and then the view
abbrev pub IsTupleFault : Option ℕ → Bool → TupleFault → Type 0
IsTupleFault bad history (BadTuple place) = bad ≡ Some place
IsTupleFault bad history History = (bad ≡ None) × (history ≡ true)
IsTupleFault bad history Memory = ⊤

-- ---- after changes

-- the entity is one of them
abbrev pub is_named : List ℕ → ℕ → Bool
is_named entities e = list_any (nat_eq e) entities

-- the rows of other entities
abbrev pub rows_of_others : List ℕ → List Row → List Row
rows_of_others entities rows = filter (λ row. not (is_named entities row.e)) rows

abbrev pub row_at : List Datom → List ℕ → ℕ → Row
row_at facts attrs e = record { tuple = tuple_of facts attrs e; e = e }

-- the rows of these entities, where they have a value
abbrev pub rows_anew : List Datom → List ℕ → List ℕ → List Row
rows_anew facts attrs entities =
    filter (λ row. list_any is_some row.tuple) (map (row_at facts attrs) entities)
