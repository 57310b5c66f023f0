-- How the rows of a range are gathered where its start begins with a value: from the entities whose
-- first value can be in it.
-- This project's own choice.
use Rattle.std.specs.Prelude.{◌≡◌, ◌↔◌, ℕ, Bool, true, not, ◌&&◌, List, [], ◌∷◌, map, Option, Some, None}
use Rattle.std.specs.Prelude.{IsTrue, Contains}
use Rattle.std.specs.List.Sorted.{IsStrictlyIncreasing}
use Rattle.std.specs.Option.{option_map_or}
use Rattle.std.specs.Ordering.{is_lt}
use Rattle.fb_values.specs.Orders.{value_cmp}
use Rattle.fb_values.specs.declared.facts.Datom.{Datom}
use Rattle.fb_values.specs.declared.facts.Entry.{Entry}
use Rattle.fb_values.specs.declared.facts.Value.{Value}
use Rattle.fb_values.specs.declared.indexes.Order.TheVariants.{Eavt, Avet}
use Rattle.fb_values.specs.declared.indexes.Probe.{Probe}
use Rattle.view_model.specs.Window.{Window, without_history}
use Rattle.view_model.specs.View.{InView}
use Rattle.tuple_model.specs.Tuples.{Tuple, Row, is_in_range}
use Rattle.tuple_model.specs.Seen.{AreMembers, IsTupleIn}

-- rows by their entities, each once, which have of the range exactly the tuples in the view
pub record HasRange (h : List Entry) (w : Window) (Selects : Datom → Type 0) (attrs : List ℕ)
    (start end : Option Tuple) (rows : List Row) : Type 0 where
  pub apart : IsStrictlyIncreasing (map (λ row. row.e) rows)
  pub members : (row : Row) → IsTrue (is_in_range start end row)
      → Contains rows row ↔ IsTupleIn h w Selects attrs row

-- the value is not below the least one and not above the greatest, where there is one
abbrev pub is_reached : Value → Option Value → Value → Bool
is_reached least greatest v =
    not (is_lt (value_cmp v least))
    && option_map_or (λ w. not (is_lt (value_cmp w v))) greatest true

-- the list has each datom of the attribute in the view whose value is reached
abbrev pub HasReached : List Entry → Window → (Datom → Type 0) → ℕ → Value → Option Value
    → List Datom → Type 0
HasReached h w Selects a least greatest ds =
    (d : Datom) → InView h w Selects d → d.a ≡ a → IsTrue (is_reached least greatest d.v)
    → Contains ds d

-- rows by their entities, each once, one for each entity with a value of the attribute that is
-- reached
pub record HasReachedRows (h : List Entry) (w : Window) (Selects : Datom → Type 0)
    (attrs : List ℕ) (a : ℕ) (least : Value) (greatest : Option Value) (rows : List Row)
    : Type 0 where
  pub apart : IsStrictlyIncreasing (map (λ row. row.e) rows)
  pub members : (row : Row) → Contains rows row → AreMembers h w Selects row.e attrs row.tuple
  pub reached : (d : Datom) → InView h (without_history w) Selects d → d.a ≡ a
      → IsTrue (is_reached least greatest d.v) → Contains (map (λ row. row.e) rows) d.e

-- the first value of a tuple, if it has one
abbrev pub first_member : Tuple → Option Value
first_member [] = None
first_member (member ∷ members) = member

-- ---- probes

-- to the datoms of the entity under the attribute
abbrev pub about : ℕ → ℕ → Probe
about e a = record { order = Eavt; e = Some e; a = Some a; v = None; t = None }

-- to the datoms of the attribute with the value
abbrev pub valued : ℕ → Value → Probe
valued a v = record { order = Avet; e = None; a = Some a; v = Some v; t = None }

abbrev pub first_value : List Datom → Option Value
first_value [] = None
first_value (d ∷ ds) = Some d.v
