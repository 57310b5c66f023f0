-- A form by its parts: a verb with its arguments, or the pairs of a map.
-- Datomic, Transaction Data (list forms, map forms, entity identifiers).
use Rattle.std.specs.Prelude.{◌≡◌, List, [], ◌∷◌, map, Option, Some, None}
use Rattle.edn_model.specs.Form as edn
use Rattle.edn_model.specs.Form.{Form, no_forms, form, Pairs, items}
use Rattle.edn_form.specs.View.{form_of, pairs_of, entries}
use Rattle.tx_model.specs.Shapes.{Verb, add, retract, cas, retract_entity, verb_in}
use Rattle.tx_forms.specs.declared.forms.EntityForm.{EntityForm}
use Rattle.tx_forms.specs.declared.forms.EntityForm.TheVariants.{Number, Ident, Tempid, Lookup}
use Rattle.tx_forms.specs.declared.forms.ListForm.{ListForm}
use Rattle.tx_forms.specs.declared.forms.ListForm.TheVariants.{Add, Retract, RetractAll, Cas}
use Rattle.tx_forms.specs.declared.forms.ListForm.TheVariants.{RetractEntity}
use Rattle.tx_forms.specs.declared.forms.TxForm.{TxForm}
use Rattle.tx_forms.specs.declared.forms.TxForm.TheVariants.{List as InList, Map}

pub data Parts : Type 0 where
  -- a verb, where the first member is one, and the members after it
  list_form : Option Verb → List Form → Parts
  map_form : Pairs → Parts
  no_form : Parts

abbrev pub list_parts_in : List Form → Parts
list_parts_in [] = list_form None []
list_parts_in (first ∷ arguments) = list_form (verb_in first) arguments

-- a vector and a list have the same parts, and so have the two names of a verb
abbrev pub parts_in : Form → Parts
parts_in (edn.vector fs) = list_parts_in (items fs)
parts_in (edn.list fs) = list_parts_in (items fs)
parts_in (edn.map ps) = map_form ps
parts_in f = no_form

-- ---- of forms that were parsed

-- the form that names the entity
abbrev pub entity_form : EntityForm → Form
entity_form (Number z) = edn.integer z
entity_form (Ident k) = edn.keyword k.now
entity_form (Tempid s) = edn.string s.now
entity_form (Lookup k v) =
    edn.vector (form (edn.keyword k.now) (form (form_of v.now) no_forms))

abbrev pub verb_of : ListForm → Verb
verb_of (Add e a v) = add
verb_of (Retract e a v) = retract
verb_of (RetractAll e a) = retract
verb_of (Cas e a old new) = cas
verb_of (RetractEntity e) = retract_entity

abbrev pub arguments_of : ListForm → List Form
arguments_of (Add e a v) = entity_form e ∷ edn.keyword a.now ∷ form_of v.now ∷ []
arguments_of (Retract e a v) = entity_form e ∷ edn.keyword a.now ∷ form_of v.now ∷ []
arguments_of (RetractAll e a) = entity_form e ∷ edn.keyword a.now ∷ []
arguments_of (Cas e a old new) =
    entity_form e ∷ edn.keyword a.now ∷ form_of old.now ∷ form_of new.now ∷ []
arguments_of (RetractEntity e) = entity_form e ∷ []

abbrev pub list_parts_of : ListForm → Parts
list_parts_of parsed = list_form (Some (verb_of parsed)) (arguments_of parsed)

abbrev pub parts_of : TxForm → Parts
parts_of (InList parsed) = list_parts_of parsed
parts_of (Map pairs) = map_form (edn.pairs (pairs_of (entries pairs.now)))

-- these were parsed from those forms
abbrev pub AreParsed : List TxForm → List Form → Type 0
AreParsed parsed forms = map parts_of parsed ≡ map parts_in forms
