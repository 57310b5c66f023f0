-- Shapes: which forms a transaction may be made of, before anything is looked up.
-- Datomic, Transaction Data (transaction structure, list forms, map forms).
use Rattle.std.specs.Prelude.{ℕ, Bool, true, false, ◌&&◌, ◌||◌, not, List, [], ◌∷◌, bytes_eq, codes}
use Rattle.std.specs.Prelude.{if◌then◌else◌, is_some, Option, Some, None}
use Rattle.edn_model.specs.Form as edn
use Rattle.edn_model.specs.Form.{Form, Forms, no_forms, form, Pairs, no_pairs, pair, items}
use Rattle.tx_model.specs.Asks.{name_in, Key, own, key_in}

-- what a list form asks
pub data Verb : Type 0 where
  add : Verb
  retract : Verb
  cas : Verb
  retract_entity : Verb

abbrev pub verb_of : List ℕ → Option Verb
verb_of k =
    if bytes_eq k (codes "db/add") then Some add
    else (if bytes_eq k (codes "db/retract") then Some retract
    else (if bytes_eq k (codes "db/cas") || bytes_eq k (codes "db.fn/cas") then Some cas
    else (if bytes_eq k (codes "db/retractEntity") || bytes_eq k (codes "db.fn/retractEntity")
    then Some retract_entity
    else None)))

abbrev pub verb_in : Form → Option Verb
verb_in (edn.keyword k) = verb_of k
verb_in f = None

abbrev pub is_keyword : Form → Bool
is_keyword (edn.keyword k) = true
is_keyword f = false

abbrev pub is_string : Form → Bool
is_string (edn.string s) = true
is_string f = false

-- an integer, a keyword, a vector of two whose first member is a keyword, or, where a tempid may
-- be, a string
abbrev pub names_an_entity : Form → Bool
names_an_entity f = is_some (name_in f)

abbrev pub names_an_old_entity : Form → Bool
names_an_old_entity f = names_an_entity f && not (is_string f)

-- [:db/add e a v], [:db/retract e a v], [:db/retract e a], [:db/cas e a old new] or
-- [:db/retractEntity e], without the verb
abbrev pub has_arguments : Option Verb → List Form → Bool
has_arguments (Some add) (e ∷ a ∷ v ∷ []) = names_an_entity e && is_keyword a
has_arguments (Some retract) (e ∷ a ∷ v ∷ []) = names_an_old_entity e && is_keyword a
has_arguments (Some retract) (e ∷ a ∷ []) = names_an_old_entity e && is_keyword a
has_arguments (Some cas) (e ∷ a ∷ old ∷ new ∷ []) = names_an_old_entity e && is_keyword a
has_arguments (Some retract_entity) (e ∷ []) = names_an_old_entity e
has_arguments verb arguments = false

abbrev pub has_list_shape : List Form → Bool
has_list_shape [] = false
has_list_shape (verb ∷ arguments) = has_arguments (verb_in verb) arguments

abbrev pub is_named_by : Key → Form → Bool
is_named_by own value = names_an_entity value
is_named_by key value = true

-- a key is a keyword, and the value of `:db/id` names an entity
abbrev pub has_pair_shape : Form → Form → Bool
has_pair_shape key value = is_keyword key && is_named_by (key_in key) value

abbrev mutual
  -- an empty map is not a form
  pub has_map_shape : Pairs → Bool
  has_map_shape no_pairs = false
  has_map_shape (pair key value no_pairs) = has_pair_shape key value && has_value_shape value
  has_map_shape (pair key value (pair k v rest)) =
      has_pair_shape key value && has_value_shape value && has_map_shape (pair k v rest)

  -- a map that is a value, or a member of a value, has the shape of a map form
  pub has_value_shape : Form → Bool
  has_value_shape (edn.map ps) = has_map_shape ps
  has_value_shape (edn.vector fs) = have_member_shape fs
  has_value_shape (edn.list fs) = have_member_shape fs
  has_value_shape (edn.set fs) = have_member_shape fs
  has_value_shape f = true

  pub have_member_shape : Forms → Bool
  have_member_shape no_forms = true
  have_member_shape (form f fs) = has_member_shape f && have_member_shape fs

  pub has_member_shape : Form → Bool
  has_member_shape (edn.map ps) = has_map_shape ps
  has_member_shape f = true

-- a vector or a list of one of the five shapes, or a map
abbrev pub has_shape : Form → Bool
has_shape (edn.vector fs) = has_list_shape (items fs)
has_shape (edn.list fs) = has_list_shape (items fs)
has_shape (edn.map ps) = has_map_shape ps
has_shape f = false

-- the forms of a transaction: the members of a vector or a list
abbrev pub forms_of : Form → Option (List Form)
forms_of (edn.vector fs) = Some (items fs)
forms_of (edn.list fs) = Some (items fs)
forms_of f = None
