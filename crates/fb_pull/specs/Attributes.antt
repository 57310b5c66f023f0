-- Attributes in the order of their numbers, and in that of their names.
-- This project's own choice.
use denote.Ref.{Bor}
use Rattle.std.specs.Prelude.{◌≡◌, ℕ, ◌<◌, ◌≤◌, List, [], ◌∷◌, length, map, Option, Some, None}
use Rattle.std.specs.Prelude.{option_map, filter_map}
use Rattle.std.specs.List.{All, insert}
use Rattle.fb_values.specs.declared.facts.Datom.{Datom}
use Rattle.fb_model.specs.Schema.{attribute_of, attribute_named}
use Rattle.fb_schema.specs.declared.attribute.Attribute.{Attribute}
use Rattle.fb_schema.specs.Parts.{model_attribute}
use Rattle.pull_model.specs.Found.{put_name, names_in_order}

-- each number is below all after it
abbrev pub Rise : List ℕ → Type 0
Rise [] = Unit {0}
Rise (n ∷ ns) = All (λ m. n < m) ns × Rise ns

-- the name of an attribute
abbrev pub name_of : List Datom → ℕ → Option (List ℕ)
name_of facts a = option_map (λ attribute. attribute.name) (attribute_of facts a)

-- the names of the datoms' attributes
abbrev pub names_among : List Datom → List Datom → List (List ℕ)
names_among facts ds = names_in_order (filter_map (λ d. name_of facts d.a) ds)

-- the name in its place, where there is one
abbrev pub put : Option (List ℕ) → List (List ℕ) → List (List ℕ)
put None names = names
put (Some name) names = put_name name names

-- the place of the name among names in order, or none where it is there
abbrev pub IsPlace : List ℕ → List (List ℕ) → Option ℕ → Type 0
IsPlace name names None = put_name name names ≡ names
IsPlace name names (Some at) =
    (at ≤ length names) × (put_name name names ≡ insert names at name)

-- ---- attributes of a schema

-- it is the schema's
abbrev pub IsOfSchema : List Datom → Attribute → Type 0
IsOfSchema schema attribute = attribute_of schema attribute.id ≡ Some (model_attribute attribute)

-- it is the one that its name names
abbrev pub IsOwn : List Datom → Attribute → Type 0
IsOwn facts attribute =
    attribute_named facts attribute.ident ≡ Some (model_attribute attribute)

-- the names of attributes that are lent
abbrev pub names_of : List (Bor Attribute) → List (List ℕ)
names_of list = map (λ attribute. attribute.now.ident) list

-- the schema's attributes with the names
pub record HaveNames (schema : List Datom) (list : List (Bor Attribute)) (names : List (List ℕ))
    : Type 0 where
  pub named : names_of list ≡ names
  pub known : All (λ attribute. IsOfSchema schema attribute.now) list
