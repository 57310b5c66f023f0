-- How a composite and a bound are read, form by form.
-- This project's own choice.
use Rattle.std.specs.Prelude.{ℕ, List, [], ◌∷◌, Option, Some, None}
use Rattle.std.specs.Option.{option_map, option_and_then, option_map_or}
use Rattle.edn_model.specs.Form as edn
use Rattle.edn_model.specs.Form.{Form}
use Rattle.fb_values.specs.declared.facts.Datom.{Datom}
use Rattle.fb_model.specs.Schema.{attribute_named, attribute_of}

-- the attribute that the form names
abbrev pub id_named : List Datom → Form → Option ℕ
id_named facts (edn.keyword name) =
    option_map (λ attribute. attribute.id) (attribute_named facts name)
id_named facts f = None

abbrev pub ids_in : List Datom → List Form → Option (List ℕ)
ids_in facts [] = Some []
ids_in facts (f ∷ fs) =
    option_and_then (λ id. option_map (λ ids. id ∷ ids) (ids_in facts fs)) (id_named facts f)

-- the type of the attribute
abbrev pub kind_of : List Datom → ℕ → ℕ
kind_of facts a = option_map_or (λ attribute. attribute.kind) (attribute_of facts a) 0
