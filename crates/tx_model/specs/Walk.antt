-- The walk over a transaction: what each form asks, in the order in which a reader meets it.
-- Datomic, Transaction Data (list forms, map forms, nested maps, cardinality-many values, reverse
-- attribute names).
use Rattle.std.specs.Prelude.{ℕ, ◌+◌, pos, Bool, true, false, not, ◌&&◌, ◌||◌, List, [], ◌∷◌, ◌++◌}
use Rattle.std.specs.Prelude.{if◌then◌else◌, Option, Some, None, unwrap_or, nat_eq}
use Rattle.std.specs.Option.{option_map_or}
use Rattle.edn_model.specs.Form as edn
use Rattle.edn_model.specs.Form.{Form, Forms, no_forms, form, Pairs, no_pairs, pair, items}
use Rattle.fb_values.specs.declared.facts.Datom.{Datom}
use Rattle.fb_numbers.specs.Numbers.{type_ref}
use Rattle.fb_model.specs.Schema.{attribute_named}
use Rattle.tx_model.specs.Asks.{Name, number, ident, lookup, tempid, nameless, Operand, plain}
use Rattle.tx_model.specs.Asks.{entity, Ask, adds, retracts, retracts_all, compares}
use Rattle.tx_model.specs.Asks.{retracts_entity, meets, mentions, lacks_id, lookup_in, name_in, Key}
use Rattle.tx_model.specs.Asks.{own, forward, backward, key_in}
use Rattle.tx_model.specs.Shapes.{Verb, add, retract, cas, retract_entity, verb_in}

-- ---- what the facts before say of a keyword in an attribute's place

abbrev pub has_ref : List Datom → List ℕ → Bool
has_ref facts name =
    option_map_or (λ attribute. nat_eq attribute.kind type_ref) (attribute_named facts name) false

abbrev pub has_many : List Datom → List ℕ → Bool
has_many facts name = option_map_or (λ attribute. attribute.many) (attribute_named facts name) false

abbrev pub has_parts : List Datom → List ℕ → Bool
has_parts facts name =
    option_map_or (λ attribute. attribute.component) (attribute_named facts name) false

abbrev pub has_uniqueness : List Datom → List ℕ → Bool
has_uniqueness facts name =
    option_map_or (λ attribute. not (nat_eq attribute.uniqueness 0))
    (attribute_named facts name) false

-- ---- values

-- a number, an ident or a tempid under an attribute whose values are entities, and else a plain
-- value
abbrev pub scalar : Bool → Form → Operand
scalar true (edn.integer (pos n)) = entity (number (pos n))
scalar true (edn.keyword k) = entity (ident k)
scalar true (edn.string s) = entity (tempid s)
scalar is_ref f = plain f

abbrev pub lookup_or : Option (List ℕ × Form) → Operand → Operand
lookup_or None part = part
lookup_or (Some found) part = entity (lookup found.0 found.1)

-- the value of a list form: a lookup ref too, and a tempid only where the verb adds
abbrev pub value_part : Bool → Form → Operand
value_part true (edn.vector fs) = lookup_or (lookup_in fs) (plain (edn.vector fs))
value_part is_ref f = scalar is_ref f

abbrev pub old_value_part : Bool → Form → Operand
old_value_part is_ref (edn.string s) = plain (edn.string s)
old_value_part is_ref f = value_part is_ref f

-- ---- list forms

abbrev pub keyword_in : Form → List ℕ
keyword_in (edn.keyword k) = k
keyword_in f = []

abbrev pub entity_in : Form → Name
entity_in f = unwrap_or (name_in f) (nameless [])

abbrev pub list_asks : List Datom → Option Verb → List Form → List Ask
list_asks facts (Some add) (e ∷ a ∷ v ∷ []) =
    adds (entity_in e) (keyword_in a) (value_part (has_ref facts (keyword_in a)) v) ∷ []
list_asks facts (Some retract) (e ∷ a ∷ v ∷ []) =
    retracts (entity_in e) (keyword_in a) (old_value_part (has_ref facts (keyword_in a)) v) ∷ []
list_asks facts (Some retract) (e ∷ a ∷ []) = retracts_all (entity_in e) (keyword_in a) ∷ []
list_asks facts (Some cas) (e ∷ a ∷ old ∷ new ∷ []) =
    compares (entity_in e) (keyword_in a)
    (old_value_part (has_ref facts (keyword_in a)) old)
    (old_value_part (has_ref facts (keyword_in a)) new)
    ∷ []
list_asks facts (Some retract_entity) (e ∷ []) = retracts_entity (entity_in e) ∷ []
list_asks facts verb arguments = []

abbrev pub verb_asks : List Datom → List Form → List Ask
verb_asks facts [] = []
verb_asks facts (verb ∷ arguments) = list_asks facts (verb_in verb) arguments

-- ---- maps

-- the entity that the map names by `:db/id`, or its place
abbrev pub named_by : Key → Form → Name → Name
named_by own value other = unwrap_or (name_in value) other
named_by key value other = other

abbrev pub name_of_map : List ℕ → Pairs → Name
name_of_map path no_pairs = nameless path
name_of_map path (pair key value rest) = named_by (key_in key) value (name_of_map path rest)

-- the map has `:db/id` or a unique attribute among its keys
abbrev pub identifies : List Datom → Key → Bool
identifies facts own = true
identifies facts (forward name) = has_uniqueness facts name
identifies facts (backward name) = false

abbrev pub has_identity : List Datom → Pairs → Bool
has_identity facts no_pairs = false
has_identity facts (pair key value rest) = identifies facts (key_in key) || has_identity facts rest

-- one value under a key: the map's entity has it, or the entity that is the value has the map's
abbrev pub links : Name → Key → Operand → List Ask
links self own part = []
links self (forward name) part = adds self name part ∷ []
links self (backward name) (entity other) = adds other name (entity self) ∷ []
links self (backward name) (plain f) = adds self name (plain f) ∷ []

-- a map inside another: the link, what it lacks, and then its own pairs
abbrev pub need : Bool → List Ask
need lacks = if lacks then lacks_id ∷ [] else []

abbrev pub nested_asks : List Datom → Name → Key → Name → Pairs → List Ask → List Ask
nested_asks facts self own name ps inner = []
nested_asks facts self (forward attribute) name ps inner =
    if has_ref facts attribute
    then adds self attribute (entity name)
    ∷ (need (not (has_parts facts attribute || has_identity facts ps)) ++ inner)
    else adds self attribute (plain (edn.map ps)) ∷ []
nested_asks facts self (backward attribute) name ps inner =
    adds name attribute (entity self) ∷ (need (not (has_identity facts ps)) ++ inner)

-- a number, an ident, a tempid or a plain value
abbrev pub scalar_asks : List Datom → Name → Key → Form → List Ask
scalar_asks facts self own f = []
scalar_asks facts self (forward name) f = links self (forward name) (scalar (has_ref facts name) f)
scalar_asks facts self (backward name) (edn.integer z) =
    links self (backward name) (entity (number z))
scalar_asks facts self (backward name) f = links self (backward name) (scalar true f)

-- a vector is a lookup ref where its first member names a unique attribute and values are entities;
-- else it is a collection, where there may be several values; else it is a lookup ref that
-- finds no unique attribute, or for no value
abbrev pub vector_asks : List Datom → Name → Key → Forms → Option (List ℕ × Form) → List Ask
    → List Ask
vector_asks facts self own fs found members = []
vector_asks facts self (forward name) fs None members =
    if has_many facts name then members else adds self name (plain (edn.vector fs)) ∷ []
vector_asks facts self (forward name) fs (Some found) members =
    if has_ref facts name && has_uniqueness facts found.0
    then adds self name (entity (lookup found.0 found.1)) ∷ []
    else (if has_many facts name then members
    else adds self name
    (if has_ref facts name then entity (lookup found.0 found.1) else plain (edn.vector fs))
    ∷ [])
vector_asks facts self (backward name) fs None members = members
vector_asks facts self (backward name) fs (Some found) members =
    if has_uniqueness facts found.0
    then links self (backward name) (entity (lookup found.0 found.1))
    else members

-- a list is a collection, where there may be several values
abbrev pub sequence_asks : List Datom → Name → Key → Form → List Ask → List Ask
sequence_asks facts self own f members = []
sequence_asks facts self (forward name) f members =
    if has_many facts name then members else adds self name (plain f) ∷ []
sequence_asks facts self (backward name) f members = members

-- what a pair asks beside its values: it mentions the attribute; under a reversed name the values
-- of the attribute have to be entities
abbrev pub pair_asks : List Datom → Name → Key → List Ask → List Ask
pair_asks facts self own values = []
pair_asks facts self (forward name) values = mentions name ∷ values
pair_asks facts self (backward name) values =
    mentions name ∷ (if has_ref facts name then values else adds self name (entity self) ∷ [])

abbrev mutual
  pub map_asks : List Datom → Name → List ℕ → ℕ → Pairs → List Ask
  map_asks facts self path n no_pairs = []
  map_asks facts self path n (pair key value rest) =
      pair_asks facts self (key_in key) (value_asks facts self (key_in key) (n ∷ path) value)
      ++ map_asks facts self path (n + 1) rest

  -- a set is a collection
  pub value_asks : List Datom → Name → Key → List ℕ → Form → List Ask
  value_asks facts self key path (edn.map ps) =
      nested_asks facts self key (name_of_map path ps) ps
      (map_asks facts (name_of_map path ps) path 0 ps)
  value_asks facts self key path (edn.set fs) = members_asks facts self key path 0 fs
  value_asks facts self key path (edn.vector fs) =
      vector_asks facts self key fs (lookup_in fs) (members_asks facts self key path 0 fs)
  value_asks facts self key path (edn.list fs) =
      sequence_asks facts self key (edn.list fs) (members_asks facts self key path 0 fs)
  value_asks facts self key path f = scalar_asks facts self key f

  pub members_asks : List Datom → Name → Key → List ℕ → ℕ → Forms → List Ask
  members_asks facts self key path n no_forms = []
  members_asks facts self key path n (form f fs) =
      member_asks facts self key (n ∷ path) f ++ members_asks facts self key path (n + 1) fs

  -- a collection in a collection is no value
  pub member_asks : List Datom → Name → Key → List ℕ → Form → List Ask
  member_asks facts self key path (edn.map ps) =
      nested_asks facts self key (name_of_map path ps) ps
      (map_asks facts (name_of_map path ps) path 0 ps)
  member_asks facts self key path (edn.vector fs) =
      vector_asks facts self key fs (lookup_in fs) (links self key (plain (edn.vector fs)))
  member_asks facts self key path f = scalar_asks facts self key f

-- ---- forms

-- what the form at the place asks, by the facts before the transaction
abbrev pub form_asks : List Datom → ℕ → Form → List Ask
form_asks facts place (edn.vector fs) = verb_asks facts (items fs)
form_asks facts place (edn.list fs) = verb_asks facts (items fs)
form_asks facts place (edn.map ps) =
    meets (name_of_map (place ∷ []) ps)
    ∷ map_asks facts (name_of_map (place ∷ []) ps) (place ∷ []) 0 ps
form_asks facts place f = []

-- the same for each form of a transaction, of which the first has the place n
abbrev pub asks_from : List Datom → ℕ → List Form → List (List Ask)
asks_from facts n [] = []
asks_from facts n (f ∷ fs) = form_asks facts n f ∷ asks_from facts (n + 1) fs

abbrev pub flat : List Datom → List Form → List (List Ask)
flat facts fs = asks_from facts 0 fs
