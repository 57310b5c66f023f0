-- Which additions of an entry have to differ, and in what.
-- Datomic, Schema (:db/cardinality, :db/unique).
use Rattle.std.specs.Prelude.{◌≡◌, ℕ, Bool, true, false, not, ◌&&◌, List, [], ◌∷◌, nat_eq}
use Rattle.std.specs.List.{list_any}
use Rattle.std.specs.Option.{option_map_or}
use Rattle.std.specs.Ordering.{nat_cmp, ordering_then}
use Rattle.std.specs.BTreeMap.{BTreeMap, get}
use Rattle.std.specs.BTreeSet.{BTreeSet, contains}
use Rattle.std.specs.declared.cmp.Ordering.{Ordering}
use Rattle.fb_values.specs.Orders.{value_cmp}
use Rattle.fb_values.specs.declared.facts.Datom.{Datom}
use Rattle.fb_values.specs.declared.facts.Entry.{Entry}
use Rattle.fb_values.specs.declared.facts.Value.{Value}
use Rattle.fb_model.specs.Facts.{is_of, value_eq, facts, holder}
use Rattle.fb_model.specs.Schema.{is_one, is_unique}
use Rattle.fb_facts.specs.FactLists.{values_of}
use Rattle.tx_laws.specs.declared.altered.Altered.{Altered}

-- an addition under an attribute of which an entity has one value before, and still has one
abbrev pub is_single : List Datom → BTreeMap ℕ Altered → Datom → Bool
is_single schema altered d =
    d.added && (is_one schema d.a && option_map_or (λ a. a.one) (get nat_cmp altered d.a) true)

-- an addition under an attribute that is unique before, and still is
abbrev pub is_sole : List Datom → BTreeMap ℕ Altered → Datom → Bool
is_sole schema altered d =
    d.added
    && (is_unique schema d.a && option_map_or (λ a. a.unique) (get nat_cmp altered d.a) true)

-- no two of the additions give one entity two values of an attribute
abbrev pub are_apart : (Datom → Bool) → List Datom → Bool
are_apart counts [] = true
are_apart counts (d ∷ ds) =
    not
    (counts d && list_any (λ other. counts other && (nat_eq other.e d.e && nat_eq other.a d.a)) ds)
    && are_apart counts ds

-- no two give one value of an attribute two holders
abbrev pub are_alone : (Datom → Bool) → List Datom → Bool
are_alone counts [] = true
are_alone counts (d ∷ ds) =
    not (counts d
    && list_any (λ other. counts other && (nat_eq other.a d.a && value_eq other.v d.v)) ds)
    && are_alone counts ds

-- a value from before stays beside the addition, since no datom of the entry is of its triple
abbrev pub meets_value : List Entry → List Datom → Datom → Bool
meets_value h ds d = list_any (λ v. not (list_any (is_of d.e d.a v) ds)) (values_of h d.e d.a)

-- a holder from before stays beside it
abbrev pub meets_holder : List Entry → List Datom → Datom → Bool
meets_holder h ds d =
    option_map_or (λ e. not (list_any (is_of e d.a d.v) ds)) (holder (facts h) d.a d.v) false

-- the sets of entities and attributes, and of attributes and values
abbrev pub place_cmp : ℕ × ℕ → ℕ × ℕ → Ordering
place_cmp x y = ordering_then (nat_cmp x.0 y.0) (nat_cmp x.1 y.1)

abbrev pub content_cmp : ℕ × Value → ℕ × Value → Ordering
content_cmp x y = ordering_then (nat_cmp x.0 y.0) (value_cmp x.1 y.1)

abbrev pub HasPlaces : BTreeSet (ℕ × ℕ) → (Datom → Bool) → List Datom → Type 0
HasPlaces met counts ds =
    (e a : ℕ)
    → contains place_cmp met (e, a) ≡ list_any (λ d. counts d && (nat_eq d.e e && nat_eq d.a a)) ds

abbrev pub HasContents : BTreeSet (ℕ × Value) → (Datom → Bool) → List Datom → Type 0
HasContents met counts ds =
    (a : ℕ) (v : Value)
    → contains content_cmp met (a, v)
    ≡ list_any (λ d. counts d && (nat_eq d.a a && value_eq d.v v)) ds
