-- What the forms of a command give: a composite by its names, and the bounds of a range of tuples.
-- This project's own choice. A member that is an entity is given by its number.
use Rattle.std.specs.Prelude.{ℕ, List, [], ◌∷◌, map, if◌then◌else◌, option_map, option_and_then}
use Rattle.std.specs.Prelude.{Option, Some, None}
use Rattle.std.specs.Option.{option_map_or}
use Rattle.edn_model.specs.Form as edn
use Rattle.edn_model.specs.Form.{Form, items}
use Rattle.fb_values.specs.declared.facts.Datom.{Datom}
use Rattle.fb_values.specs.declared.facts.Value.{Value}
use Rattle.fb_model.specs.Schema.{attribute_of}
use Rattle.tx_model.specs.Values.{if_of_type}
use Rattle.edn_values.specs.Values.{value_of_form}
use Rattle.tuple_model.specs.Composite.{is_composite, attributes_named}
use Rattle.tuple_model.specs.Tuples.{Tuple}

-- ---- a composite: a vector of the names of its attributes

abbrev pub names_in : List Form → Option (List (List ℕ))
names_in [] = Some []
names_in (edn.keyword name ∷ fs) = option_map (λ names. name ∷ names) (names_in fs)
names_in (f ∷ fs) = None

abbrev pub if_composite : List Datom → List ℕ → Option (List ℕ)
if_composite facts attrs = if is_composite facts attrs then Some attrs else None

abbrev pub composite_in : List Datom → Form → Option (List ℕ)
composite_in facts (edn.vector fs) =
    option_and_then (if_composite facts)
    (option_and_then (attributes_named facts) (names_in (items fs)))
composite_in facts f = None

-- ---- a bound: nil where the range is open, or a vector of as many members as the composite has
-- attributes

-- the type of each attribute: no value is of the type of what is no attribute
abbrev pub kinds_of : List Datom → List ℕ → List ℕ
kinds_of facts attrs =
    map (λ a. option_map_or (λ attribute. attribute.kind) (attribute_of facts a) 0) attrs

-- nil, or a value of the type
abbrev pub member_in : ℕ → Form → Option (Option Value)
member_in kind edn.nil = Some None
member_in kind f = option_map Some (option_and_then (if_of_type kind) (value_of_form kind f))

abbrev pub members_in : List ℕ → List Form → Option Tuple
members_in [] [] = Some []
members_in [] (f ∷ fs) = None
members_in (kind ∷ kinds) [] = None
members_in (kind ∷ kinds) (f ∷ fs) =
    option_and_then (λ member. option_map (λ members. member ∷ members) (members_in kinds fs))
    (member_in kind f)

abbrev pub bound_in : List ℕ → Form → Option (Option Tuple)
bound_in kinds edn.nil = Some None
bound_in kinds (edn.vector fs) = option_map Some (members_in kinds (items fs))
bound_in kinds f = None
