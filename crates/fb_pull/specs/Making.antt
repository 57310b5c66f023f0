-- What the steps of a pull answer:
-- what is to be made, where that stays within the limits, or that it does not.
-- This project's own choice.
use Rattle.std.specs.Prelude.{◌≡◌, ◌<◌, ◌≤◌, ◌⊎◌, ◌++◌, ℕ, List, [], ◌∷◌, option_map, if◌then◌else◌}
use Rattle.std.specs.Prelude.{Result, Ok, Err}
use Rattle.edn_model.specs.Form.{Form}
use Rattle.edn_form.specs.View.{form_of, forms_of, pairs_of}
use Rattle.edn_values.specs.Values.{form_of_value}
use Rattle.fb_values.specs.declared.facts.Value.TheVariants.{Ref}
use Rattle.pull_model.specs.Made as model
use Rattle.pull_model.specs.Made.{forms_made, maps_made, depth_made}
use Rattle.pull_model.specs.Patterns.{Options, own_name, key_of}
use Rattle.pull_model.specs.Tree.{has_key}
use Rattle.fb_pull.specs.declared.made.Pulled.{Pulled}
use Rattle.fb_pull.specs.declared.made.Several.{Several}
use Rattle.fb_pull.specs.declared.made.Inside.{Inside}
use Rattle.fb_pull.specs.declared.made.Limits.{Limits}
use Rattle.fb_pull.specs.declared.stops.Stop.{Stop}
use Rattle.fb_pull.specs.declared.stops.Stop.TheVariants.{TooLarge, Memory}

-- so many maps, so deep, are more than the limits allow
abbrev pub Exceed : ℕ → ℕ → Limits → Type 0
Exceed maps depth limits = (limits.maps < maps) ⊎ (limits.depth < depth)

-- ---- in one place

pub record IsMadeAs (made : model.Made) (limits : Limits) (told : Pulled) : Type 0 where
  pub form : option_map form_of told.form ≡ made.form
  pub maps : told.maps ≡ made.maps
  pub few : made.maps ≤ limits.maps
  pub shallow : made.depth ≤ limits.depth

abbrev pub Makes : model.Made → Limits → Result Pulled Stop → Type 0
Makes made limits (Ok told) = IsMadeAs made limits told
Makes made limits (Err TooLarge) = Exceed made.maps made.depth limits
Makes made limits (Err Memory) = Unit {0}

-- ---- of several entities

pub record AreMadeAs (list : List model.Made) (limits : Limits) (all : Several) : Type 0 where
  pub forms : forms_of all.forms.items ≡ forms_made list
  pub maps : all.maps ≡ maps_made list
  pub few : maps_made list ≤ limits.maps
  pub shallow : depth_made list ≤ limits.depth

abbrev pub MakesSeveral : List model.Made → Limits → Result Several Stop → Type 0
MakesSeveral list limits (Ok all) = AreMadeAs list limits all
MakesSeveral list limits (Err TooLarge) = Exceed (maps_made list) (depth_made list) limits
MakesSeveral list limits (Err Memory) = Unit {0}

-- ---- inside a map

pub record IsInside (m : model.Inside) (limits : Limits) (inside : Inside) : Type 0 where
  pub pairs : pairs_of inside.pairs.items ≡ m.pairs
  pub maps : inside.maps ≡ m.maps
  pub few : m.maps ≤ limits.maps
  pub shallow : m.depth ≤ limits.depth

abbrev pub MakesInside : model.Inside → Limits → Result Inside Stop → Type 0
MakesInside m limits (Ok inside) = IsInside m limits inside
MakesInside m limits (Err TooLarge) = Exceed m.maps m.depth limits
MakesInside m limits (Err Memory) = Unit {0}

-- a step that adds to the pairs gives what is inside the map, or exceeds the limits
abbrev pub Adds : model.Inside → Limits → Inside → Result (Unit {0}) Stop → Type 0
Adds m limits inside (Ok _) = IsInside m limits inside
Adds m limits inside (Err TooLarge) = Exceed m.maps m.depth limits
Adds m limits inside (Err Memory) = Unit {0}

-- the entity's number as one pair more, if the key is not there yet
abbrev pub with_own : List (Form × Form) → Options → ℕ → List (Form × Form)
with_own pairs options e =
    if has_key pairs (key_of own_name options) then pairs
    else pairs ++ (key_of own_name options, form_of_value (Ref e)) ∷ []
