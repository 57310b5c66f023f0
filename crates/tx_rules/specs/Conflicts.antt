-- Triples of one transaction that cannot be recorded together.
-- Datomic, Transaction Data (cardinality).
use Rattle.std.specs.Prelude.{ℕ, Bool, not, ◌&&◌, ◌||◌, List, [], ◌∷◌, nat_eq, is_some}
use Rattle.std.specs.Prelude.{if◌then◌else◌, Option, Some, None}
use Rattle.std.specs.List.{list_any}
use Rattle.fb_values.specs.declared.facts.Datom.{Datom}
use Rattle.fb_model.specs.Facts.{value_eq}
use Rattle.fb_model.specs.Schema.{is_one}
use Rattle.tx_asks.specs.declared.triples.Triple.{Triple}
use Rattle.tx_rules.specs.Places.{earlier, asked_at, first_where}
use Rattle.tx_rules.specs.Neighbours.{are_of_one_entity}

abbrev pub is_addition : Triple → Bool
is_addition t = is_some t.added

-- a form retracts it, as a triple or by what it finds
abbrev pub is_withdrawn : Triple → Bool
is_withdrawn t = is_some t.retracted || is_some t.swept

-- the other one is an addition of another value of the same entity and attribute
abbrev pub is_another_value : Triple → Triple → Bool
is_another_value t other =
    is_addition other && nat_eq other.e t.e && nat_eq other.a t.a && not (value_eq other.v t.v)

-- it is added beside another value of cardinality one, or added and retracted
abbrev pub conflicts : List Datom → List Triple → Triple → Bool
conflicts facts triples t =
    is_addition t && ((is_one facts t.a && list_any (is_another_value t) triples) || is_withdrawn t)

abbrev pub first_conflict : List Datom → List Triple → Option ℕ
first_conflict facts triples = first_where (conflicts facts triples) asked_at triples

-- ---- one addition after the other

abbrev pub withdrawn_at : Triple → Option ℕ
withdrawn_at t = if is_withdrawn t then asked_at t else None

-- it is behind another value of its entity, which may have one
abbrev pub beside_at : List Datom → Option Triple → Triple → Option ℕ
beside_at facts None t = None
beside_at facts (Some last) t =
    if are_of_one_entity last t && is_one facts t.a then earlier (asked_at last) (asked_at t)
    else None

abbrev pub conflict_at : List Datom → Option Triple → Triple → Option ℕ
conflict_at facts last t = earlier (withdrawn_at t) (beside_at facts last t)

-- of additions behind the last one
abbrev pub first_behind : List Datom → Option Triple → List Triple → Option ℕ
first_behind facts last [] = None
first_behind facts last (t ∷ ts) =
    earlier (conflict_at facts last t) (first_behind facts (Some t) ts)
