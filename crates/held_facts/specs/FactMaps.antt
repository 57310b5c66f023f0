-- What the three maps have: each triple that holds, with the t of the datom by which it holds.
-- This project's own choice.
use Rattle.std.specs.Prelude.{◌≡◌, ℕ, Bool, true, ◌&&◌, nat_eq, if◌then◌else◌, List, [], ◌∷◌, map}
use Rattle.std.specs.Prelude.{Option, Some, None}
use Rattle.std.specs.Ordering.{nat_cmp, ordering_then}
use Rattle.std.specs.declared.cmp.Ordering.{Ordering}
use Rattle.std.specs.BTreeMap.{IsOrdered, get}
use Rattle.fb_values.specs.Orders.{value_cmp}
use Rattle.fb_values.specs.declared.facts.Datom.{Datom}
use Rattle.fb_values.specs.declared.facts.Value.{Value}
use Rattle.fb_model.specs.Facts.{value_eq, is_of}
use Rattle.held_facts.specs.declared.fact_maps.FactMaps.{FactMaps}

-- by two numbers and a value
abbrev pub place_cmp : ℕ × ℕ × Value → ℕ × ℕ × Value → Ordering
place_cmp x y =
    ordering_then (ordering_then (nat_cmp x.0 y.0) (nat_cmp x.1 y.1)) (value_cmp x.2 y.2)

-- by a value and two numbers
abbrev pub content_cmp : Value × ℕ × ℕ → Value × ℕ × ℕ → Ordering
content_cmp x y =
    ordering_then (ordering_then (value_cmp x.0 y.0) (nat_cmp x.1 y.1)) (nat_cmp x.2 y.2)

-- what a datom leaves of its triple: its t, or nothing
abbrev pub left_by : Datom → Option ℕ
left_by d = if d.added then Some d.t else None

-- the t of the datom by which the triple holds after the datoms,
-- where `before` is that from before them
abbrev pub t_after : Option ℕ → List Datom → ℕ → ℕ → Value → Option ℕ
t_after before [] e a v = before
t_after before (d ∷ ds) e a v = t_after (if is_of e a v d then left_by d else before) ds e a v

-- each map has what holds after the datoms, in its order
pub record HasFacts (ds : List Datom) (kept : FactMaps) : Type 0 where
  pub by_entity : (e a : ℕ) (v : Value)
      → get place_cmp kept.by_entity (e, a, v) ≡ t_after None ds e a v
  pub by_attribute : (e a : ℕ) (v : Value)
      → get place_cmp kept.by_attribute (a, e, v) ≡ t_after None ds e a v
  pub by_value : (e a : ℕ) (v : Value)
      → get content_cmp kept.by_value (v, a, e) ≡ t_after None ds e a v
  pub entities_ordered : IsOrdered place_cmp kept.by_entity
  pub attributes_ordered : IsOrdered place_cmp kept.by_attribute
  pub values_ordered : IsOrdered content_cmp kept.by_value

-- ---- what the maps list

-- an entry of each map, as the fact that it is
abbrev pub fact_of_entity : (ℕ × ℕ × Value) × ℕ → Datom
fact_of_entity p = record { e = p.0.0; a = p.0.1; v = p.0.2; t = p.1; added = true }

abbrev pub fact_of_attribute : (ℕ × ℕ × Value) × ℕ → Datom
fact_of_attribute p = record { e = p.0.1; a = p.0.0; v = p.0.2; t = p.1; added = true }

abbrev pub fact_of_value : (Value × ℕ × ℕ) × ℕ → Datom
fact_of_value p = record { e = p.0.2; a = p.0.1; v = p.0.0; t = p.1; added = true }

abbrev pub facts_by_entity : FactMaps → List Datom
facts_by_entity kept = map fact_of_entity kept.by_entity.entries

abbrev pub facts_by_attribute : FactMaps → List Datom
facts_by_attribute kept = map fact_of_attribute kept.by_attribute.entries

abbrev pub facts_by_value : FactMaps → List Datom
facts_by_value kept = map fact_of_value kept.by_value.entries

-- the datom is one of the attribute and the value
abbrev pub is_with : ℕ → Value → Datom → Bool
is_with a v d = nat_eq d.a a && value_eq d.v v
