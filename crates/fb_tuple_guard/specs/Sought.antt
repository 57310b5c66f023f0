-- An entity whose tuple is whole, and the others that may share it.
-- This project's own choice.
use Rattle.std.specs.Prelude.{◌≡◌, ℕ, Bool, ◌&&◌, List, slice_get, IsTrue, Some}
use Rattle.std.specs.List.{list_any}
use Rattle.fb_values.specs.declared.facts.Datom.{Datom}
use Rattle.fb_values.specs.declared.facts.Value.{Value}
use Rattle.tuple_model.specs.Tuples.{Tuple, tuple_of}
use Rattle.tuple_model.specs.UniqueTuples.{is_whole, is_shared_by}
use Rattle.fb_tuple_guard.specs.declared.sharing.Sought.{Sought}
use Rattle.fb_tuple_guard.specs.declared.tuples.Tuples.{Tuples}
use Rattle.fb_tuple_guard.specs.Sharing.{facts_after, has_value}

-- some entity has the same whole tuple after the changes
abbrev pub is_shared_after : Tuples → ℕ → Bool
is_shared_after tuples e =
    list_any (λ fact. is_shared_by (facts_after tuples) tuples.attrs.now e fact.e)
    (facts_after tuples)

-- the value stands in the tuple at the attribute's place
abbrev pub IsMember : List ℕ → Tuple → ℕ → Value → Type 0
IsMember attrs tuple a v =
    (place : ℕ) × (slice_get attrs place ≡ Some a) × (slice_get tuple place ≡ Some (Some v))

-- the entity's tuple is whole, and the value is one of its members
pub record IsSought (tuples : Tuples) (sought : Sought) : Type 0 where
  pub tuple_is : sought.tuple.now ≡ tuple_of (facts_after tuples) tuples.attrs.now sought.e
  pub whole : IsTrue (is_whole sought.tuple.now)
  pub member : IsMember tuples.attrs.now sought.tuple.now sought.a sought.v.now

-- the datom has the member, and is of another entity with the tuple
abbrev pub is_met : Tuples → Sought → Datom → Bool
is_met tuples sought d =
    has_value sought.a sought.v.now d
    && is_shared_by (facts_after tuples) tuples.attrs.now sought.e d.e
