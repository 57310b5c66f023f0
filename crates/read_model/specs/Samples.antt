-- Forms and a history for the examples. This project's own choice.
use Rattle.std.specs.Prelude.{ℕ, pos, Bool, true, List, [], ◌∷◌, codes, Some, None}
use Rattle.edn_model.specs.Form as edn
use Rattle.edn_model.specs.Form.{Form, forms}
use Rattle.fb_values.specs.declared.facts.Datom.{Datom}
use Rattle.fb_values.specs.declared.facts.Entry.{Entry}
use Rattle.fb_values.specs.declared.facts.Value.{Value}
use Rattle.fb_values.specs.declared.facts.Value.TheVariants.{Keyword, Str, Ref}
use Rattle.fb_values.specs.declared.indexes.Order.{Order}
use Rattle.fb_values.specs.declared.indexes.Probe.{Probe}
use Rattle.fb_numbers.specs.Numbers.{user_entity, ident, value_type, cardinality, doc, type_ref}
use Rattle.fb_numbers.specs.Numbers.{cardinality_one}
use Rattle.fb_model.specs.FirstEntry.{first_entry}
use Rattle.view_model.specs.Samples.{datom, entry_at, minus_one, hides_attribute}

abbrev pub number : ℕ → Form
number n = edn.integer (pos n)

abbrev pub lookup : Form → Form → Form
lookup a v = edn.vector (forms (a ∷ v ∷ []))

-- ---- names of attributes, and entities named by an email

-- :p/age
abbrev pub age_word : Form
age_word = edn.keyword (codes "p/age")

-- :person/email
abbrev pub email_word : Form
email_word = edn.keyword (codes "person/email")

-- :p/friend
abbrev pub friend_word : Form
friend_word = edn.keyword (codes "p/friend")

-- :db/doc
abbrev pub doc_word : Form
doc_word = edn.keyword (codes "db/doc")

-- the name of no attribute
abbrev pub unknown_word : Form
unknown_word = edn.keyword (codes "no/such")

-- [:person/email address]
abbrev pub by_email_form : List ℕ → Form
by_email_form address = lookup email_word (edn.string address)

-- -1
abbrev pub minus_one_form : Form
minus_one_form = edn.integer minus_one

-- a filter that hides what entities are called
abbrev pub idents_hidden : List (Datom → Bool)
idents_hidden = hides_attribute ident ∷ []

-- ---- probes

-- no component is given
abbrev pub whole_index : Order → Probe
whole_index order = record { order = order; e = None; a = None; v = None; t = None }

-- an entity, an attribute and a value are given
abbrev pub probe_of_three : Order → ℕ → ℕ → Value → Probe
probe_of_three order e a v = record { order = order; e = Some e; a = Some a; v = Some v; t = None }

-- ---- friends

-- the attribute `:p/friend`
abbrev pub friend : ℕ
friend = user_entity 1

-- who has a friend
abbrev pub somebody : ℕ
somebody = user_entity 2

-- who is that friend
abbrev pub the_friend : ℕ
the_friend = user_entity 3

-- `:p/friend` is installed, and somebody has a friend, Ann
abbrev pub friends : List Entry
friends =
    first_entry
    ∷ entry_at 1 1000 (
    datom friend ident (Keyword (codes "p/friend")) 1 true
    ∷ datom friend value_type (Ref type_ref) 1 true
    ∷ datom friend cardinality (Ref cardinality_one) 1 true
    ∷ [])
    ∷ entry_at 2 2000 (
    datom somebody friend (Ref the_friend) 2 true
    ∷ datom the_friend doc (Str (codes "Ann")) 2 true
    ∷ [])
    ∷ []
