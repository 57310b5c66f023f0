-- Composites: lists of attributes whose values together are given as tuples.
-- Datomic, Schema (Composite tuples). That a composite is named by whoever asks, and is no
-- attribute, is this project's own choice. What is an attribute is said by the facts of the whole
-- history, also where a view shows fewer of them.
use Rattle.std.specs.Prelude.{ℕ, Bool, true, false, not, ◌&&◌, List, [], ◌∷◌, ◌++◌, length, nat_eq}
use Rattle.std.specs.Prelude.{nat_le, if◌then◌else◌, Option, Some, None, option_and_then}
use Rattle.std.specs.Prelude.{option_map}
use Rattle.std.specs.List.{list_any}
use Rattle.std.specs.Option.{option_map_or}
use Rattle.fb_values.specs.declared.facts.Datom.{Datom}
use Rattle.fb_model.specs.Schema.{is_one, attribute_named}

abbrev pub is_among : List ℕ → ℕ → Bool
is_among attrs a = list_any (nat_eq a) attrs

-- the place of the first attribute that is not installed, has several values, or was named
-- already
abbrev pub first_unfit : List Datom → List ℕ → List ℕ → Option ℕ
first_unfit facts before [] = None
first_unfit facts before (a ∷ rest) =
    if is_one facts a && not (is_among before a) then first_unfit facts (before ++ a ∷ []) rest
    else Some (length before)

-- the first place that is no composite's, counted from 0, and place 0 where there are not 2 to 8
-- attributes
abbrev pub bad_place : List Datom → List ℕ → Option ℕ
bad_place facts attrs =
    if nat_le 2 (length attrs) && nat_le (length attrs) 8 then first_unfit facts [] attrs
    else Some 0

abbrev pub is_composite : List Datom → List ℕ → Bool
is_composite facts attrs = option_map_or (λ place. false) (bad_place facts attrs) true

-- the attributes that keywords name, where each names one
abbrev pub attributes_named : List Datom → List (List ℕ) → Option (List ℕ)
attributes_named facts [] = Some []
attributes_named facts (name ∷ names) =
    option_and_then
    (λ attribute. option_map (λ rest. attribute.id ∷ rest) (attributes_named facts names))
    (attribute_named facts name)
