-- Facts: which triples of an entity, an attribute and a value hold after a list of datoms.
-- Datomic, Transaction Data: an added datom asserts its triple, any other retracts it.
use Rattle.std.specs.Prelude.{ℕ, Bool, false, not, ◌&&◌, List, [], ◌∷◌, map, filter, min, ◌==◌}
use Rattle.std.specs.Prelude.{nat_eq, if◌then◌else◌, IsTrue, Option, Some, None}
use Rattle.std.specs.List.{list_any}
use Rattle.std.specs.Ordering.{is_eq}
use Rattle.fb_values.specs.Orders.{value_cmp}
use Rattle.fb_values.specs.declared.facts.Datom.{Datom}
use Rattle.fb_values.specs.declared.facts.Entry.{Entry}
use Rattle.fb_values.specs.declared.facts.Value.{Value}
use Rattle.fb_model.specs.History.{said}

-- values of one type that compare as equal
abbrev pub value_eq : Value → Value → Bool
value_eq v w = is_eq (value_cmp v w)

-- the datom asserts or retracts the triple
abbrev pub is_of : ℕ → ℕ → Value → Datom → Bool
is_of e a v d = nat_eq d.e e && nat_eq d.a a && value_eq d.v v

-- whether the triple holds after the datoms,
-- where `before` says whether it held before them: its last datom decides
abbrev pub holds_after : Bool → List Datom → ℕ → ℕ → Value → Bool
holds_after before [] e a v = before
holds_after before (d ∷ ds) e a v = holds_after (if is_of e a v d then d.added else before) ds e a v

-- whether the triple holds in the history: the last of its datoms is an addition
abbrev pub holds : List Entry → ℕ → ℕ → Value → Bool
holds h e a v = holds_after false (said h) e a v

abbrev pub Holds : List Entry → ℕ → ℕ → Value → Type 0
Holds h e a v = IsTrue (holds h e a v)

-- the datom asserts its triple, and none of the datoms after it is of that triple
abbrev pub is_last_assertion : Datom → List Datom → Bool
is_last_assertion d ds = d.added && not (list_any (is_of d.e d.a d.v) ds)

-- one datom for each triple that holds after the datoms: the last one of the triple
abbrev pub standing : List Datom → List Datom
standing [] = []
standing (d ∷ ds) = if is_last_assertion d ds then d ∷ standing ds else standing ds

-- the facts of a history
abbrev pub facts : List Entry → List Datom
facts h = standing (said h)

-- ---- what is read from a list of facts

abbrev pub values_of : List Datom → ℕ → ℕ → List Value
values_of facts e a = map (λ d. d.v) (filter (λ d. nat_eq d.e e && nat_eq d.a a) facts)

-- the one value, under an attribute that has one value of each entity
abbrev first_value : List Value → Option Value
first_value [] = None
first_value (v ∷ vs) = Some v

abbrev pub value_of : List Datom → ℕ → ℕ → Option Value
value_of facts e a = first_value (values_of facts e a)

-- the least entity that has the value
abbrev pub least : ℕ → Option ℕ → Option ℕ
least e None = Some e
least e (Some other) = Some (min e other)

abbrev pub holder : List Datom → ℕ → Value → Option ℕ
holder [] a v = None
holder (d ∷ facts) a v =
    if d.a == a && value_eq d.v v then least d.e (holder facts a v) else holder facts a v
