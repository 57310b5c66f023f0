-- How the examples write a transaction, and what they say of it. This project's own choice.
use Rattle.std.specs.Prelude.{ℕ, ℤ, pos, Bool, true, false, map, List, [], ◌∷◌, ◌++◌, codes, Option}
use Rattle.std.specs.Prelude.{Some, None}
use Rattle.edn_model.specs.Form as edn
use Rattle.edn_model.specs.Form.{Form, forms, pairs}
use Rattle.fb_values.specs.declared.facts.Datom.{Datom}
use Rattle.fb_values.specs.declared.facts.Entry.{Entry}
use Rattle.fb_values.specs.declared.facts.Value.{Value}
use Rattle.fb_values.specs.declared.facts.Value.TheVariants.{Str}
use Rattle.fb_numbers.specs.Numbers as numbers
use Rattle.fb_model.specs.FirstEntry.{first_entry}
use Rattle.tx_model.specs.Transaction.{transaction}
use Rattle.tx_refusals.specs.declared.reasons.Reason.{Reason}
use Rattle.tx_model.specs.Step.{Decision, refused, accepted, step, no_guard}

-- ---- forms

abbrev pub keyword : List ℕ → Form
keyword k = edn.keyword k

abbrev pub string : List ℕ → Form
string s = edn.string s

abbrev pub number : ℕ → Form
number n = edn.integer (pos n)

abbrev pub vector : List Form → Form
vector fs = edn.vector (forms fs)

abbrev pub list_of : List Form → Form
list_of fs = edn.list (forms fs)

abbrev pub map_of : List (Form × Form) → Form
map_of ps = edn.map (pairs ps)

-- ---- how a form names an entity

-- a string in an entity's place
abbrev pub tempid : List ℕ → Form
tempid name = string name

-- the transaction itself
abbrev pub this_transaction : Form
this_transaction = tempid (codes "datomic.tx")

-- the n-th user entity, and the entity of transaction t, by their numbers
abbrev pub user : ℕ → Form
user n = number (numbers.user_entity n)

abbrev pub recorded_transaction : ℕ → Form
recorded_transaction t = number (numbers.transaction_of t)

-- [attribute value]
abbrev pub lookup_ref : List ℕ → Form → Form
lookup_ref attribute value = vector (keyword attribute ∷ value ∷ [])

-- ---- what a form asks

-- [:db/add e a v]
abbrev pub add : Form → List ℕ → Form → Form
add e a v = vector (keyword (codes "db/add") ∷ e ∷ keyword a ∷ v ∷ [])

-- [:db/retract e a v]
abbrev pub retract : Form → List ℕ → Form → Form
retract e a v = vector (keyword (codes "db/retract") ∷ e ∷ keyword a ∷ v ∷ [])

-- [:db/retract e a]
abbrev pub retract_all : Form → List ℕ → Form
retract_all e a = vector (keyword (codes "db/retract") ∷ e ∷ keyword a ∷ [])

-- [:db/cas e a old new]
abbrev pub cas : Form → List ℕ → Form → Form → Form
cas e a old new = vector (keyword (codes "db/cas") ∷ e ∷ keyword a ∷ old ∷ new ∷ [])

-- [:db/retractEntity e]
abbrev pub retract_entity : Form → Form
retract_entity e = vector (keyword (codes "db/retractEntity") ∷ e ∷ [])

-- ---- the built-in attributes, and the entities that are their values

abbrev pub id : Form
id = keyword (codes "db/id")

abbrev pub doc : List ℕ
doc = codes "db/doc"

abbrev pub ident : List ℕ
ident = codes "db/ident"

abbrev pub value_type : List ℕ
value_type = codes "db/valueType"

abbrev pub cardinality : List ℕ
cardinality = codes "db/cardinality"

abbrev pub unique : List ℕ
unique = codes "db/unique"

abbrev pub index : List ℕ
index = codes "db/index"

abbrev pub is_component : List ℕ
is_component = codes "db/isComponent"

abbrev pub tx_instant : List ℕ
tx_instant = codes "db/txInstant"

abbrev pub type_string : Form
type_string = keyword (codes "db.type/string")

abbrev pub type_long : Form
type_long = keyword (codes "db.type/long")

abbrev pub type_ref : Form
type_ref = keyword (codes "db.type/ref")

abbrev pub type_symbol : Form
type_symbol = keyword (codes "db.type/symbol")

abbrev pub type_uri : Form
type_uri = keyword (codes "db.type/uri")

abbrev pub cardinality_one : Form
cardinality_one = keyword (codes "db.cardinality/one")

abbrev pub cardinality_many : Form
cardinality_many = keyword (codes "db.cardinality/many")

abbrev pub unique_identity : Form
unique_identity = keyword (codes "db.unique/identity")

abbrev pub unique_value : Form
unique_value = keyword (codes "db.unique/value")

-- {:db/ident name :db/valueType type :db/cardinality count}, and more pairs of the attribute
abbrev pub install : List ℕ → Form → Form → List (Form × Form) → Form
install name type count more =
    map_of ((keyword ident, keyword name)
    ∷ (keyword value_type, type)
    ∷ (keyword cardinality, count)
    ∷ more)

-- ---- what is decided

-- the clock always reads the beginning of 2024
abbrev pub clock : ℤ
clock = pos 1704067200000

-- what is decided of the transaction of these forms
abbrev pub decision : List Entry → List Form → Decision
decision h fs = step h (vector fs) clock no_guard

abbrev with_decision : List Entry → Decision → List Entry
with_decision h (accepted entry tempids) = h ++ entry ∷ []
with_decision h (refused refusal) = h

-- the history with these transactions, as far as they are accepted
abbrev pub after_from : List Entry → List (List Form) → List Entry
after_from h [] = h
after_from h (fs ∷ rest) = after_from (with_decision h (decision h fs)) rest

abbrev pub after : List (List Form) → List Entry
after txs = after_from (first_entry ∷ []) txs

-- refused for the reason, at the form of this place, counted from 0
abbrev pub refusal_at : Reason → ℕ → Decision
refusal_at reason place = refused (record { reason = reason; at = place })

-- what an accepted transaction answers: its t, and the entities of its tempids
abbrev summary_of : Decision → Option (ℕ × List (List ℕ × ℕ))
summary_of (accepted entry tempids) = Some (entry.t, tempids)
summary_of (refused refusal) = None

abbrev pub decided : List Entry → List Form → Option (ℕ × List (List ℕ × ℕ))
decided h fs = summary_of (decision h fs)

-- accepted as transaction t, with these entities for its tempids
abbrev pub accepted_at : ℕ → List (List ℕ × ℕ) → Option (ℕ × List (List ℕ × ℕ))
accepted_at t tempids = Some (t, tempids)

-- the changes of a transaction, each as its entity, its text, if it has one, and whether it is
-- added
abbrev text_in : Value → List ℕ
text_in (Str text) = text
text_in v = []

abbrev pub changed : List Entry → List Form → List (ℕ × List ℕ × Bool)
changed h fs =
    map (λ (d : Datom). (d.e, text_in d.v, d.added)) (transaction h fs).changes

-- a text is added to an entity, or retracted
abbrev pub addition : ℕ → List ℕ → ℕ × List ℕ × Bool
addition e text = (e, text, true)

abbrev pub retraction : ℕ → List ℕ → ℕ × List ℕ × Bool
retraction e text = (e, text, false)
