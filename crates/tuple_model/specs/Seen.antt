-- Tuples in a view: what each member of an entity's tuple is, and the list of a range.
-- Datomic, Schema (Composite tuples), Indexes and Database Filters.
-- Filters may be any predicates, so that no list of all that is seen is asked for, and the range is
-- part of what is said, so that nothing outside it need be found: this project's own choices.
use Rattle.std.specs.Prelude.{◌≡◌, ◌↔◌, ℕ, false, List, [], ◌∷◌, is_some, Option, Some, None}
use Rattle.std.specs.Prelude.{IsTrue, Contains}
use Rattle.std.specs.List.{list_any}
use Rattle.std.specs.Ordering.{is_lt}
use Rattle.fb_values.specs.Orders.{value_cmp}
use Rattle.fb_values.specs.declared.facts.Datom.{Datom}
use Rattle.fb_values.specs.declared.facts.Entry.{Entry}
use Rattle.fb_values.specs.declared.facts.Value.{Value}
use Rattle.fb_model.specs.Schema.{is_about}
use Rattle.view_model.specs.Window.{Window, without_history}
use Rattle.view_model.specs.View.{InView}
use Rattle.tuple_model.specs.Tuples.{Tuple, Row, rows_rise, is_in_range}

-- the least of the values that the entity has under the attribute in the view without history, or
-- nil where it has none
abbrev pub IsMember : List Entry → Window → (Datom → Type 0) → ℕ → ℕ → Option Value → Type 0
IsMember h w Selects e a None =
    (d : Datom) → InView h (without_history w) Selects d → IsTrue (is_about e a d) → ⊥
IsMember h w Selects e a (Some v) =
    ((d : Datom) × InView h (without_history w) Selects d × IsTrue (is_about e a d) × (d.v ≡ v))
    × ((d : Datom) → InView h (without_history w) Selects d → IsTrue (is_about e a d)
    → is_lt (value_cmp d.v v) ≡ false)

-- a member for each attribute
abbrev pub AreMembers : List Entry → Window → (Datom → Type 0) → ℕ → List ℕ → Tuple → Type 0
AreMembers h w Selects e [] [] = Unit {0}
AreMembers h w Selects e [] (member ∷ members) = ⊥
AreMembers h w Selects e (a ∷ attrs) [] = ⊥
AreMembers h w Selects e (a ∷ attrs) (member ∷ members) =
    IsMember h w Selects e a member × AreMembers h w Selects e attrs members

-- the tuple of an entity that has a value of at least one of the attributes
pub record IsTupleIn (h : List Entry) (w : Window) (Selects : Datom → Type 0) (attrs : List ℕ)
    (row : Row) : Type 0 where
  pub members : AreMembers h w Selects row.e attrs row.tuple
  pub some : IsTrue (list_any is_some row.tuple)

-- the one rising list of the tuples in the view that are in the range
pub record AreTuplesIn (h : List Entry) (w : Window) (Selects : Datom → Type 0) (attrs : List ℕ)
    (start end : Option Tuple) (rows : List Row) : Type 0 where
  pub rising : IsTrue (rows_rise rows)
  pub members : (row : Row) → Contains rows row
      ↔ (IsTupleIn h w Selects attrs row × IsTrue (is_in_range start end row))
