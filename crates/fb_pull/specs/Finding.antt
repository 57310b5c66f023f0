-- What a pull finds of what is sought: of values as many as may be given,
-- and of entities one more than the maps that may still be made, if the limit allows so many.
-- This project's own choice.
use Rattle.std.specs.Prelude.{◌≡◌, ℕ, true, false, ◌+◌, List, map, take, min, Option, Some, None}
use Rattle.std.specs.List.{slice_get}
use Rattle.std.specs.Option.{option_map}
use Rattle.edn_form.specs.View.{form_of, forms_of}
use Rattle.edn_values.specs.Values.{form_of_value}
use Rattle.fb_values.specs.declared.facts.Datom.{Datom}
use Rattle.pull_model.specs.Patterns as patterns
use Rattle.pull_model.specs.Found as model
use Rattle.pull_model.specs.Made.{limited}
use Rattle.pull_model.specs.Tree.{limit_for}
use Rattle.fb_pull.specs.declared.found.Found.{Found}
use Rattle.fb_pull.specs.declared.found.Found.TheVariants.{Absent, Value, Values, Entities}
use Rattle.fb_pull.specs.declared.found.Sought.{Sought}
use Rattle.fb_pull.specs.declared.found.Sought.TheVariants.{Named, Own}
use Rattle.fb_pull.specs.Attributes.{IsOwn}

-- ---- what is sought

-- the name of what is sought
abbrev pub name_sought : Sought → List ℕ
name_sought (Named name) = name.now
name_sought (Own attribute) = attribute.now.ident

-- an attribute is sought as such where its name means it
abbrev pub CanBeSought : List Datom → Sought → Type 0
CanBeSought facts (Named name) = Unit {0}
CanBeSought facts (Own attribute) =
    IsOwn facts attribute.now × (patterns.is_reversed attribute.now.ident ≡ false)

-- ---- what is found

abbrev pub Finds : model.Found → patterns.Options → ℕ → Found → Type 0
Finds model.absent options maps Absent = Unit {0}
Finds (model.values several vs) options maps (Value form) =
    (several ≡ false)
    × (option_map form_of form ≡ option_map form_of_value (slice_get vs 0))
Finds (model.values several vs) options maps (Values forms) =
    (several ≡ true)
    × (forms_of forms.items ≡ map form_of_value (limited (limit_for several options) vs))
Finds (model.entities several parts ns) options maps (Entities many components list) =
    (many ≡ several) × (components ≡ parts)
    × (list.items ≡ take (maps + 1) (limited (limit_for several options) ns))
Finds there options maps found = ⊥

-- the first of a list, where a number is given
abbrev pub upto : {T : Type 0} → Option ℕ → List T → List T
upto None list = list
upto (Some most) list = take most list

-- the number of values that a limit gives
abbrev pub most_in : patterns.Limit → Option ℕ
most_in (patterns.first n) = Some n
most_in patterns.all = None

-- the most entities under a limit, where so many maps may be made
abbrev pub most_entities : patterns.Limit → ℕ → ℕ
most_entities (patterns.first n) maps = min (maps + 1) n
most_entities patterns.all maps = maps + 1
