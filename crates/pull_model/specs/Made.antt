-- What a pull makes: a form or nothing, how many maps were made for it, and how deep they are.
-- This project's own choice; Datomic, Pull, has no such limits.
use Rattle.std.specs.Prelude.{ℕ, ◌+◌, Bool, true, false, List, [], ◌∷◌, ◌++◌, max, take, filter_map}
use Rattle.std.specs.Prelude.{Option, Some, None}
use Rattle.std.specs.Option.{option_or}
use Rattle.edn_model.specs.Form as edn
use Rattle.edn_model.specs.Form.{Form, forms, pairs}
use Rattle.edn_values.specs.Values.{form_of_value}
use Rattle.fb_values.specs.declared.facts.Value.TheVariants.{Ref}
use Rattle.pull_model.specs.Patterns.{own_name, Limit, first, all}

pub record Made : Type 0 where
  -- nothing where there is nothing to give
  pub form : Option Form
  -- the maps made, also those that were left out in the end
  pub maps : ℕ
  -- how many of them are one inside another at most
  pub depth : ℕ

abbrev pub nothing : Made
nothing = record { form = None; maps = 0; depth = 0 }

abbrev pub plain : Form → Made
plain f = record { form = Some f; maps = 0; depth = 0 }

-- `{:db/id n}`
abbrev pub stub_form : ℕ → Form
stub_form n = edn.map (pairs ((edn.keyword own_name, form_of_value (Ref n)) ∷ []))

abbrev pub stub : ℕ → Made
stub n = record { form = Some (stub_form n); maps = 1; depth = 1 }

-- the first members, as many as the limit says
abbrev pub limited : {T : Type 0} → Limit → List T → List T
limited (first n) list = take n list
limited all list = list

-- ---- several in one place

abbrev pub forms_made : List Made → List Form
forms_made list = filter_map (λ m. m.form) list

abbrev pub maps_made : List Made → ℕ
maps_made [] = 0
maps_made (m ∷ list) = m.maps + maps_made list

abbrev pub depth_made : List Made → ℕ
depth_made [] = 0
depth_made (m ∷ list) = max m.depth (depth_made list)

-- a vector, where there may be several, and else the one form
abbrev pub collected : Bool → List Form → Option Form
collected several [] = None
collected true (f ∷ fs) = Some (edn.vector (forms (f ∷ fs)))
collected false (f ∷ fs) = Some f

-- what came to nothing is left out; where none is left there is nothing
abbrev pub gathered : Bool → List Made → Made
gathered several list =
    record
    { form = collected several (forms_made list); maps = maps_made list; depth = depth_made list }

abbrev pub or_default : Option Form → Made → Made
or_default default made =
    record { form = option_or made.form default; maps = made.maps; depth = made.depth }

-- ---- a map

-- the pairs so far, and what was made inside them
pub record Inside : Type 0 where
  pub pairs : List (Form × Form)
  pub maps : ℕ
  pub depth : ℕ

abbrev pub no_pairs_yet : Inside
no_pairs_yet = record { pairs = []; maps = 0; depth = 0 }

abbrev pub pair_of : Form → Option Form → List (Form × Form)
pair_of key None = []
pair_of key (Some value) = (key, value) ∷ []

-- a pair more, where there is a value
abbrev pub with_pair : Inside → Form → Made → Inside
with_pair inside key made =
    record {
      pairs = inside.pairs ++ pair_of key made.form;
      maps = inside.maps + made.maps;
      depth = max inside.depth made.depth;
    }

-- a map without a pair is nothing, but it was made
abbrev pub map_of : List (Form × Form) → Option Form
map_of [] = None
map_of (p ∷ ps) = Some (edn.map (pairs (p ∷ ps)))

abbrev pub enclosed : Inside → Made
enclosed inside =
    record { form = map_of inside.pairs; maps = inside.maps + 1; depth = inside.depth + 1 }
