-- Histories for the examples. This project's own choice.
use Rattle.std.specs.Prelude.{ℕ, ℤ, pos, ◌-ℤ◌, Bool, true, false, not, nat_eq, nat_lt, List, []}
use Rattle.std.specs.Prelude.{◌∷◌, ◌++◌, codes, Some, None}
use Rattle.fb_values.specs.declared.facts.Datom.{Datom}
use Rattle.fb_values.specs.declared.facts.Entry.{Entry}
use Rattle.fb_values.specs.declared.facts.Value.{Value}
use Rattle.fb_values.specs.declared.facts.Value.TheVariants.{Keyword, Str, Ref, Long, Instant}
use Rattle.fb_values.specs.declared.indexes.Order.{Order}
use Rattle.fb_values.specs.declared.indexes.Order.TheVariants.{Eavt, Aevt}
use Rattle.fb_values.specs.declared.indexes.Probe.{Probe}
use Rattle.fb_numbers.specs.Numbers.{transaction_of, user_entity, ident, value_type, cardinality}
use Rattle.fb_numbers.specs.Numbers.{unique, tx_instant, doc, type_long, type_string}
use Rattle.fb_numbers.specs.Numbers.{cardinality_one, unique_identity}
use Rattle.fb_model.specs.FirstEntry.{first_entry}
use Rattle.view_model.specs.Window.{Window}
use Rattle.view_model.specs.Names.{Id, lookup}
use Rattle.view_model.specs.Scan.{scan, leading}

abbrev pub datom : ℕ → ℕ → Value → ℕ → Bool → Datom
datom e a v t added = record { e = e; a = a; v = v; t = t; added = added }

-- transaction t was recorded at the instant
abbrev pub recorded_at : ℕ → ℕ → Datom
recorded_at t instant = datom (transaction_of t) tx_instant (Instant (pos instant)) t true

-- transaction t at an instant
abbrev pub entry_at : ℕ → ℕ → List Datom → Entry
entry_at t instant ds =
    record {
      t = t;
      instant = pos instant;
      datoms = recorded_at t instant ∷ ds;
    }

-- the first transaction installs an attribute as the first user entity
abbrev installs : List ℕ → ℕ → List Datom
installs name kind =
    datom (user_entity 1) ident (Keyword name) 1 true
    ∷ datom (user_entity 1) value_type (Ref kind) 1 true
    ∷ datom (user_entity 1) cardinality (Ref cardinality_one) 1 true
    ∷ []

-- ---- a person's age

-- the attribute `:p/age`
abbrev pub age : ℕ
age = user_entity 1

-- who has the age
abbrev pub person : ℕ
person = user_entity 2

-- transaction t adds that the person is so many years old
abbrev pub age_added : ℕ → ℕ → Datom
age_added years t = datom person age (Long (pos years)) t true

-- transaction t retracts it
abbrev pub age_retracted : ℕ → ℕ → Datom
age_retracted years t = datom person age (Long (pos years)) t false

-- `:p/age` is installed, and then the person is 1, then 2, and then of no age
abbrev pub ages : List Entry
ages =
    first_entry
    ∷ entry_at 1 1000 (installs (codes "p/age") type_long)
    ∷ entry_at 2 2000 (age_added 1 2 ∷ [])
    ∷ entry_at 3 3000 (age_retracted 1 3 ∷ age_added 2 3 ∷ [])
    ∷ entry_at 4 4000 (age_retracted 2 4 ∷ [])
    ∷ []

-- ---- three people's emails

-- the attribute `:person/email`
abbrev pub email : ℕ
email = user_entity 1

-- who has `a@x`
abbrev pub ann : ℕ
ann = user_entity 2

-- who has `b@x`
abbrev pub ben : ℕ
ben = user_entity 3

-- who has `c@x`
abbrev pub cleo : ℕ
cleo = user_entity 4

-- the entity has the email
abbrev pub has_email : ℕ → List ℕ → Datom
has_email e address = datom e email (Str address) 2 true

-- `:person/email`, which is unique, is installed, and each of the three has one
abbrev pub emails : List Entry
emails =
    first_entry
    ∷ entry_at 1 1000 (
    installs (codes "person/email") type_string
    ++ datom email unique (Ref unique_identity) 1 true
    ∷ [])
    ∷ entry_at 2 2000
    (has_email ann (codes "a@x") ∷ has_email ben (codes "b@x") ∷ has_email cleo (codes "c@x") ∷ [])
    ∷ []

-- ---- instants, and a text

-- two transactions that say nothing of their own
abbrev pub instants : List Entry
instants = first_entry ∷ entry_at 1 1000 [] ∷ entry_at 2 2000 [] ∷ []

-- the first user entity has the text `hi`
abbrev pub hi : Datom
hi = datom (user_entity 1) doc (Str (codes "hi")) 1 true

abbrev pub texts : List Entry
texts = first_entry ∷ entry_at 1 1000 (hi ∷ []) ∷ []

-- one millisecond before the instant of the first entry
abbrev pub minus_one : ℤ
minus_one = pos 0 -ℤ pos 1

-- ---- filters

-- no datom of the attribute
abbrev pub hides_attribute : ℕ → Datom → Bool
hides_attribute a = λ d. not (nat_eq d.a a)

-- no datom of the entity
abbrev pub hides_entity : ℕ → Datom → Bool
hides_entity e = λ d. not (nat_eq d.e e)

-- the datoms of the entity alone
abbrev pub shows_entity : ℕ → Datom → Bool
shows_entity e = λ d. nat_eq d.e e

-- additions alone
abbrev pub shows_additions : Datom → Bool
shows_additions = λ d. d.added

-- the entities that users made
abbrev pub shows_users : Datom → Bool
shows_users = λ d. nat_lt (user_entity 0) d.e

-- ---- what is scanned

-- the probe of an order that gives an entity alone, an attribute alone, or an attribute and a value
abbrev pub entity_probe : Order → ℕ → Probe
entity_probe order e = record { order = order; e = Some e; a = None; v = None; t = None }

abbrev pub attribute_probe : Order → ℕ → Probe
attribute_probe order a = record { order = order; e = None; a = Some a; v = None; t = None }

abbrev pub value_probe : Order → ℕ → Value → Probe
value_probe order a v = record { order = order; e = None; a = Some a; v = Some v; t = None }

-- the datoms of an entity in a view, by EAVT
abbrev pub datoms_of : List Entry → Window → List (Datom → Bool) → ℕ → List Datom
datoms_of h w filters e = scan h w filters Eavt (leading (entity_probe Eavt e))

-- the instants of the transactions in a view, by AEVT
abbrev pub instants_of : List Entry → Window → List Datom
instants_of h w = scan h w [] Aevt (leading (attribute_probe Aevt tx_instant))

-- what is seen of the person's age
abbrev pub age_seen : Window → List Datom
age_seen w = datoms_of ages w [] person

-- the name of who has the email
abbrev pub by_email : List ℕ → Id
by_email address = lookup email (Str address)
