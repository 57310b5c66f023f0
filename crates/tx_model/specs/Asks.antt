-- What a transaction asks, with entities still by their names.
-- Datomic, Transaction Data (list forms, map forms, entity identifiers, temporary ids).
use Rattle.std.specs.Prelude.{ℕ, ℤ, Bool, true, false, List, [], ◌∷◌, ◌++◌, bytes_eq, codes}
use Rattle.std.specs.Prelude.{if◌then◌else◌, drop, Option, Some, None}
use Rattle.edn_model.specs.Form as edn
use Rattle.edn_model.specs.Form.{Form, Forms, no_forms, form}
use Rattle.fb_model.specs.Words.{slash, underscore, has_namespace, namespace, local_name}
use Rattle.fb_model.specs.Words.{begins_with_one_of}

-- how a transaction names an entity
pub data Name : Type 0 where
  number : ℤ → Name
  -- a keyword, without its colon
  ident : List ℕ → Name
  -- a unique attribute, by its keyword, and its value
  lookup : List ℕ → Form → Name
  tempid : List ℕ → Name
  -- a map without `:db/id`: its place among the forms, pairs and members, from the inside out
  nameless : List ℕ → Name

-- what is given in the place of a value
pub data Operand : Type 0 where
  -- a value, to be read by the attribute's type
  plain : Form → Operand
  -- an entity, under an attribute whose values are entities
  entity : Name → Operand

pub data Ask : Type 0 where
  adds : Name → List ℕ → Operand → Ask
  retracts : Name → List ℕ → Operand → Ask
  -- every value
  retracts_all : Name → List ℕ → Ask
  -- the old value and the new one
  compares : Name → List ℕ → Operand → Operand → Ask
  retracts_entity : Name → Ask
  -- there is a map of this entity
  meets : Name → Ask
  -- an attribute is a key of a map
  mentions : List ℕ → Ask
  -- a map inside another lacks what it needs
  lacks_id : Ask

-- a vector of two of which the first is a keyword
abbrev pub lookup_in : Forms → Option (List ℕ × Form)
lookup_in (form (edn.keyword attribute) (form value no_forms)) = Some (attribute, value)
lookup_in _ = None

abbrev pub name_of_pair : Option (List ℕ × Form) → Option Name
name_of_pair None = None
name_of_pair (Some pair) = Some (lookup pair.0 pair.1)

-- the entity that a form names, in a place where a tempid may be
abbrev pub name_in : Form → Option Name
name_in (edn.integer z) = Some (number z)
name_in (edn.keyword k) = Some (ident k)
name_in (edn.string s) = Some (tempid s)
name_in (edn.vector fs) = name_of_pair (lookup_in fs)
name_in f = None

-- the tempid that names the transaction itself
abbrev pub own_tempid : List ℕ
own_tempid = codes "datomic.tx"

-- a tempid, or the place of a nameless map; the transaction's own is none
abbrev pub is_tempid : Name → Bool
is_tempid (tempid s) = if bytes_eq s own_tempid then false else true
is_tempid (nameless path) = true
is_tempid name = false

abbrev pub is_same_tempid : Name → Name → Bool
is_same_tempid (tempid s) (tempid other) = bytes_eq s other
is_same_tempid (nameless path) (nameless other) = bytes_eq path other
is_same_tempid name other = false

-- ---- the keys of maps

pub data Key : Type 0 where
  -- `:db/id`
  own : Key
  -- an attribute of the map's entity
  forward : List ℕ → Key
  -- an attribute whose value is the map's entity: a name that begins with `_`, here without it
  backward : List ℕ → Key

abbrev pub without_underscore : List ℕ → List ℕ
without_underscore k =
    if has_namespace k then namespace k ++ (slash ∷ drop 1 (local_name k))
    else drop 1 (local_name k)

abbrev pub key_in : Form → Key
key_in (edn.keyword k) =
    if bytes_eq k (codes "db/id") then own
    else (if begins_with_one_of (underscore ∷ []) (local_name k)
    then backward (without_underscore k)
    else forward k)
key_in f = forward []

-- ---- what is read from an ask

abbrev pub name_of_part : Operand → List Name
name_of_part (plain f) = []
name_of_part (entity name) = name ∷ []

-- the names of an ask in the order in which it meets them
abbrev pub names_of : Ask → List Name
names_of (adds name attribute part) = name ∷ name_of_part part
names_of (retracts name attribute part) = name ∷ name_of_part part
names_of (retracts_all name attribute) = name ∷ []
names_of (compares name attribute old new) = name ∷ (name_of_part old ++ name_of_part new)
names_of (retracts_entity name) = name ∷ []
names_of (meets name) = name ∷ []
names_of (mentions attribute) = []
names_of lacks_id = []

-- the keyword in its attribute's place
abbrev pub attribute_of_ask : Ask → Option (List ℕ)
attribute_of_ask (adds name attribute part) = Some attribute
attribute_of_ask (retracts name attribute part) = Some attribute
attribute_of_ask (retracts_all name attribute) = Some attribute
attribute_of_ask (compares name attribute old new) = Some attribute
attribute_of_ask (mentions attribute) = Some attribute
attribute_of_ask ask = None

abbrev pub parts_of : Ask → List Operand
parts_of (adds name attribute part) = part ∷ []
parts_of (retracts name attribute part) = part ∷ []
parts_of (compares name attribute old new) = old ∷ new ∷ []
parts_of ask = []
