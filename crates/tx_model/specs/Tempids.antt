-- Names of entities in a transaction, and the entities that tempids stand for.
-- Datomic, Transaction Data (temporary ids, unique identities). That user numbers have no gap is
-- this project's own choice.
use Rattle.std.specs.Prelude.{ℕ, ◌+◌, pos, Bool, true, ◌&&◌, not, List, [], ◌∷◌, flat_map}
use Rattle.std.specs.Prelude.{filter_map, bytes_eq, if◌then◌else◌, Option, Some, None}
use Rattle.std.specs.Prelude.{option_and_then}
use Rattle.std.specs.List.{list_any}
use Rattle.std.specs.Ordering.{is_lt}
use Rattle.edn_model.specs.Form.{Form}
use Rattle.fb_values.specs.declared.facts.Datom.{Datom}
use Rattle.fb_values.specs.declared.facts.Entry.{Entry}
use Rattle.fb_values.specs.Orders.{text_cmp}
use Rattle.fb_numbers.specs.Numbers.{transaction_of, user_entity}
use Rattle.fb_model.specs.History.{basis, users_issued, is_issued}
use Rattle.fb_model.specs.Facts.{holder, facts}
use Rattle.fb_model.specs.Schema.{Attribute, attribute_named, named, is_identity}
use Rattle.tx_model.specs.Asks.{Name, number, ident, lookup, tempid, nameless, plain, Ask, adds}
use Rattle.tx_model.specs.Asks.{own_tempid, is_tempid, is_same_tempid, names_of}
use Rattle.tx_model.specs.Values.{value_in}

-- the database before the transaction: a history with its facts
pub record Db : Type 0 where
  pub history : List Entry
  pub facts : List Datom

abbrev pub db_of : List Entry → Db
db_of h = record { history = h; facts = facts h }

-- ---- names in the database

-- the holder of the value, read by the type of the attribute
abbrev pub find_by : Db → Form → Attribute → Option ℕ
find_by db value attribute =
    option_and_then (holder db.facts attribute.id) (value_in attribute.kind value)

-- the entity that a name has in the database: a number has to be issued; a lookup ref finds one by
-- a plain value alone, since no attribute whose values are entities is unique; a tempid has none
abbrev pub found : Db → Name → Option ℕ
found db (number (pos n)) = if is_issued db.history n then Some n else None
found db (ident k) = named db.facts k
found db (lookup k value) = option_and_then (find_by db value) (attribute_named db.facts k)
found db name = None

-- ---- tempids

-- the tempids in the order in which the walk first meets them
abbrev pub is_among : List Name → Name → Bool
is_among names name = list_any (is_same_tempid name) names

abbrev pub met_after : List Name → List Name → List Name
met_after before [] = []
met_after before (name ∷ names) =
    if is_tempid name && not (is_among before name) then name ∷ met_after (name ∷ before) names
    else met_after before names

abbrev pub tempids_in : List Ask → List Name
tempids_in asks = met_after [] (flat_map names_of asks)

-- the holder of the value, where the attribute identifies entities
abbrev pub identity_holder : Db → Form → Attribute → Option ℕ
identity_holder db f attribute =
    if is_identity db.facts attribute.id then find_by db f attribute else None

-- the entity that an addition makes of the tempid: the holder of the identity value that it gives
abbrev pub identified : Db → Name → Ask → Option ℕ
identified db name (adds other attribute (plain f)) =
    if is_same_tempid name other
    then option_and_then (identity_holder db f) (attribute_named db.facts attribute)
    else None
identified db name ask = None

abbrev pub holders : Db → List Ask → Name → List ℕ
holders db asks name = filter_map (identified db name) asks

-- each tempid with its entity: the holder of an identity value, or else the next user entity
abbrev pub number_next : Name → ℕ → List ℕ → (ℕ → List (Name × ℕ)) → List (Name × ℕ)
number_next name n [] rest = (name, user_entity (n + 1)) ∷ rest (n + 1)
number_next name n (e ∷ es) rest = (name, e) ∷ rest n

abbrev pub number_from : Db → List Ask → List Name → ℕ → List (Name × ℕ)
number_from db asks [] n = []
number_from db asks (name ∷ names) n =
    number_next name n (holders db asks name) (λ next. number_from db asks names next)

abbrev pub assigned : Db → List Ask → List (Name × ℕ)
assigned db asks = number_from db asks (tempids_in asks) (users_issued db.history)

-- the entity of a name under an assignment
abbrev pub assigned_to : List (Name × ℕ) → Name → Option ℕ
assigned_to [] name = None
assigned_to (pair ∷ pairs) name =
    if is_same_tempid pair.0 name then Some pair.1 else assigned_to pairs name

abbrev pub entity_of : Db → List (Name × ℕ) → Name → Option ℕ
entity_of db names (tempid s) =
    if bytes_eq s own_tempid then Some (transaction_of (basis db.history + 1))
    else assigned_to names (tempid s)
entity_of db names (nameless path) = assigned_to names (nameless path)
entity_of db names name = found db name

-- ---- what is answered of them

abbrev pub with_text : Name → ℕ → Option (List ℕ × ℕ)
with_text (tempid s) e = Some (s, e)
with_text name e = None

-- the tempids with a name, in the order in which they are met
abbrev pub with_texts : List (Name × ℕ) → List (List ℕ × ℕ)
with_texts pairs = filter_map (λ (pair : Name × ℕ). with_text pair.0 pair.1) pairs

-- by the bytes of the texts
abbrev pub put_by_text : List ℕ × ℕ → List (List ℕ × ℕ) → List (List ℕ × ℕ)
put_by_text pair [] = pair ∷ []
put_by_text pair (first ∷ rest) =
    if is_lt (text_cmp first.0 pair.0) then first ∷ put_by_text pair rest else pair ∷ first ∷ rest

abbrev pub by_text : List (List ℕ × ℕ) → List (List ℕ × ℕ)
by_text [] = []
by_text (pair ∷ pairs) = put_by_text pair (by_text pairs)

-- each text is below the next one
abbrev pub rises_by_text : List (List ℕ × ℕ) → Bool
rises_by_text [] = true
rises_by_text (pair ∷ []) = true
rises_by_text (pair ∷ next ∷ rest) = is_lt (text_cmp pair.0 next.0) && rises_by_text (next ∷ rest)

-- the tempids with a name, for the answer
abbrev pub named_tempids : List (Name × ℕ) → List (List ℕ × ℕ)
named_tempids pairs = by_text (with_texts pairs)
