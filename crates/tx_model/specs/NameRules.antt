-- The rules on what a transaction names: each as a test of one form, which breaks the rule where
-- the test passes. A rule is read where no lower rule is broken.
-- Datomic, Transaction Data and Schema (lookup refs, unique identities).
use Rattle.std.specs.Prelude.{ℕ, Bool, true, false, not, ◌&&◌, ◌||◌, List, [], ◌∷◌, nat_eq}
use Rattle.std.specs.Prelude.{if◌then◌else◌, is_none, Option, None}
use Rattle.std.specs.List.{list_any}
use Rattle.std.specs.Option.{option_map_or}
use Rattle.edn_model.specs.Form as edn
use Rattle.edn_model.specs.Form.{Form, no_forms, form}
use Rattle.fb_values.specs.declared.facts.Datom.{Datom}
use Rattle.fb_numbers.specs.Numbers.{tx_instant, ident as ident_attribute, type_ref}
use Rattle.fb_model.specs.Words.{is_reserved}
use Rattle.fb_model.specs.Schema.{Attribute, attribute_named}
use Rattle.tx_model.specs.Asks.{Name, lookup, tempid, nameless, Operand, plain, entity, Ask, adds}
use Rattle.tx_model.specs.Asks.{compares, lacks_id, is_tempid, is_same_tempid, names_of, parts_of}
use Rattle.tx_model.specs.Asks.{attribute_of_ask}
use Rattle.tx_model.specs.Values.{value_in}
use Rattle.tx_model.specs.Walk.{has_ref, old_value_part}
use Rattle.tx_model.specs.Tempids.{Db, found, identified, holders}

-- ---- the lookup refs in a name

-- from the outside in: where the values of the attribute are entities, the value may be a lookup
-- ref itself
abbrev pub lookups_from : List Datom → List ℕ → Form → List (List ℕ × Form)
lookups_from facts k (edn.vector (form (edn.keyword inner) (form value no_forms))) =
    (k, edn.vector (form (edn.keyword inner) (form value no_forms)))
    ∷ (if has_ref facts k then lookups_from facts inner value else [])
lookups_from facts k value = (k, value) ∷ []

abbrev pub lookups_in : List Datom → Name → List (List ℕ × Form)
lookups_in facts (lookup k value) = lookups_from facts k value
lookups_in facts name = []

-- ---- not an attribute: a name in an attribute's place, in a key or in a lookup ref is no
-- installed attribute

abbrev pub is_unknown : List Datom → List ℕ → Bool
is_unknown facts k = is_none (attribute_named facts k)

abbrev pub has_unknown_lookup : List Datom → Name → Bool
has_unknown_lookup facts name =
    list_any (λ (ref : List ℕ × Form). is_unknown facts ref.0) (lookups_in facts name)

abbrev pub names_no_attribute : List Datom → Ask → Bool
names_no_attribute facts ask =
    option_map_or (is_unknown facts) (attribute_of_ask ask) false
    || list_any (has_unknown_lookup facts) (names_of ask)

abbrev pub breaks_not_an_attribute : Db → List Ask → Bool
breaks_not_an_attribute db asks = list_any (names_no_attribute db.facts) asks

-- ---- protected attribute: the attribute is `:db/txInstant`, or an ident is added that is kept for
-- the database itself

abbrev pub is_protected : List Datom → List ℕ → Bool
is_protected facts k =
    option_map_or (λ attribute. nat_eq attribute.id tx_instant) (attribute_named facts k) false

abbrev pub is_ident : List Datom → List ℕ → Bool
is_ident facts k =
    option_map_or (λ attribute. nat_eq attribute.id ident_attribute) (attribute_named facts k) false

abbrev pub is_reserved_part : Operand → Bool
is_reserved_part (plain (edn.keyword k)) = is_reserved k
is_reserved_part part = false

abbrev pub adds_reserved_ident : List Datom → Ask → Bool
adds_reserved_ident facts (adds name attribute part) =
    is_ident facts attribute && is_reserved_part part
adds_reserved_ident facts (compares name attribute old new) =
    is_ident facts attribute && is_reserved_part new
adds_reserved_ident facts ask = false

abbrev pub breaks_protected_attribute : Db → List Ask → Bool
breaks_protected_attribute db asks =
    list_any
    (λ ask. option_map_or (is_protected db.facts) (attribute_of_ask ask) false
    || adds_reserved_ident db.facts ask)
    asks

-- ---- wrong type: a value is not of its attribute's type, or too long; an entity is given for an
-- attribute that is no ref

abbrev pub is_wrong_part : Attribute → Operand → Bool
is_wrong_part attribute (plain f) = is_none (value_in attribute.kind f)
is_wrong_part attribute (entity name) = not (nat_eq attribute.kind type_ref)

-- nil is the old value of an entity that has none
abbrev pub is_wrong_old_part : Attribute → Operand → Bool
is_wrong_old_part attribute (plain edn.nil) = false
is_wrong_old_part attribute part = is_wrong_part attribute part

abbrev pub has_wrong_part : Ask → Attribute → Bool
has_wrong_part (compares name k old new) attribute =
    is_wrong_old_part attribute old || is_wrong_part attribute new
has_wrong_part ask attribute = list_any (is_wrong_part attribute) (parts_of ask)

abbrev pub attribute_in : List Datom → Ask → Option Attribute
attribute_in facts ask = option_map_or (attribute_named facts) (attribute_of_ask ask) None

-- the value of a lookup ref is read as that of a retraction: by the type, and as an entity with a
-- name of its own where values are entities
abbrev pub is_wrong_lookup : Form → Attribute → Bool
is_wrong_lookup value attribute =
    is_wrong_part attribute (old_value_part (nat_eq attribute.kind type_ref) value)

abbrev pub has_wrong_lookup : List Datom → Name → Bool
has_wrong_lookup facts name =
    list_any
    (λ (ref : List ℕ × Form).
    option_map_or (is_wrong_lookup ref.1) (attribute_named facts ref.0) false)
    (lookups_in facts name)

abbrev pub breaks_wrong_type : Db → List Ask → Bool
breaks_wrong_type db asks =
    list_any
    (λ ask. option_map_or (has_wrong_part ask) (attribute_in db.facts ask) false
    || list_any (has_wrong_lookup db.facts) (names_of ask))
    asks

-- ---- not a unique lookup: the attribute of a lookup ref is not unique

abbrev pub has_other_lookup : List Datom → Name → Bool
has_other_lookup facts name =
    list_any
    (λ (ref : List ℕ × Form).
    option_map_or (λ attribute. nat_eq attribute.uniqueness 0) (attribute_named facts ref.0) false)
    (lookups_in facts name)

abbrev pub breaks_not_unique_lookup : Db → List Ask → Bool
breaks_not_unique_lookup db asks =
    list_any (λ ask. list_any (has_other_lookup db.facts) (names_of ask)) asks

-- ---- not an entity: a number is not issued, or an ident or a lookup ref finds no entity

abbrev pub finds_none : Db → Name → Bool
finds_none db (tempid s) = false
finds_none db (nameless path) = false
finds_none db name = is_none (found db name)

abbrev pub breaks_not_an_entity : Db → List Ask → Bool
breaks_not_an_entity db asks = list_any (λ ask. list_any (finds_none db) (names_of ask)) asks

-- ---- nested without an id: a map inside another lacks what it needs

abbrev pub is_lacking : Ask → Bool
is_lacking lacks_id = true
is_lacking ask = false

abbrev pub breaks_nested_without_id : Db → List Ask → Bool
breaks_nested_without_id db asks = list_any is_lacking asks

-- ---- tempid conflict: it gives an identity value with a holder to a tempid that has identity
-- values of two holders; the transaction's own entity is no tempid

abbrev pub gives_one_of_two : Db → List Ask → Ask → Name → Bool
gives_one_of_two db all ask name =
    is_tempid name
    && option_map_or (λ e. list_any (λ other. not (nat_eq other e)) (holders db all name))
    (identified db name ask) false

abbrev pub breaks_tempid_conflict : Db → List Ask → List Ask → Bool
breaks_tempid_conflict db all asks =
    list_any (λ ask. list_any (gives_one_of_two db all ask) (names_of ask)) asks

-- ---- tempid of no entity: it uses a tempid that is the entity of no addition

abbrev pub adds_to : Name → Ask → Bool
adds_to name (adds other attribute part) = is_same_tempid name other
adds_to name ask = false

abbrev pub is_added_to_by_none : List Ask → Name → Bool
is_added_to_by_none all name = is_tempid name && not (list_any (adds_to name) all)

abbrev pub breaks_tempid_not_an_entity : List Ask → List Ask → Bool
breaks_tempid_not_an_entity all asks =
    list_any (λ ask. list_any (is_added_to_by_none all) (names_of ask)) asks
