-- The rules on what a transaction changes: each as a test of one form, which breaks the rule where
-- the test passes. A rule is read where no lower rule is broken. What a form asks includes what it
-- finds and what its additions imply.
-- Datomic, Transaction Data (:db/cas, cardinality, unique values) and Schema (altering attributes).
use Rattle.std.specs.Prelude.{ℕ, ◌+◌, Bool, true, false, not, ◌&&◌, ◌||◌, List, [], ◌++◌, length}
use Rattle.std.specs.Prelude.{nat_eq, nat_le, nat_lt, int_lt, max, Option, Some, None}
use Rattle.std.specs.Prelude.{slice_index_or}
use Rattle.std.specs.List.{list_any, list_all}
use Rattle.std.specs.Option.{option_map_or}
use Rattle.edn_model.specs.Form as edn
use Rattle.fb_values.specs.declared.facts.Datom.{Datom}
use Rattle.fb_values.specs.declared.facts.Value.{Value}
use Rattle.fb_numbers.specs.Numbers.{ident, cardinality, unique, index, greatest_t}
use Rattle.fb_numbers.specs.Numbers.{greatest_instant, most_datoms, most_users}
use Rattle.fb_model.specs.History.{basis, last_instant, said, users_issued, users_in}
use Rattle.fb_model.specs.Facts.{is_of, value_eq, value_of, values_of}
use Rattle.fb_model.specs.Schema.{Attribute, attribute_named, is_attribute, is_one, is_unique}
use Rattle.fb_model.specs.Schema.{is_whole}
use Rattle.fb_model.specs.Laws.{has_no_other_holder, says_attribute, is_alteration, is_forbidden}
use Rattle.tx_model.specs.Asks.{Operand, plain, Ask, compares}
use Rattle.tx_model.specs.Tempids.{Db, entity_of}
use Rattle.tx_model.specs.Changes.{value_of_part}
use Rattle.tx_model.specs.Size.{entry_size, most_bytes, instant_size}
use Rattle.tx_model.specs.Transaction.{Transaction, joined, is_change}

-- ---- what one form asks

abbrev pub at : {A : Type 0} → List (List A) → ℕ → List A
at lists place = slice_index_or lists place []

-- as triples
abbrev pub asked_triples : Transaction → ℕ → List Datom
asked_triples tx place = at tx.added place ++ at tx.retracted place

abbrev pub asked : Transaction → ℕ → List Datom
asked tx place =
    at tx.added place ++ at tx.retracted place ++ at tx.swept place ++ at tx.replaced place

-- the change is recorded
abbrev pub is_recorded : Transaction → Datom → Bool
is_recorded tx d = is_change (said tx.db.history) d

-- ---- cas of many: a cas of an attribute of cardinality many

abbrev pub compares_many : Db → Ask → Bool
compares_many db (compares name attribute old new) =
    option_map_or (λ a. a.many) (attribute_named db.facts attribute) false
compares_many db ask = false

abbrev pub breaks_cas_many : Transaction → ℕ → Bool
breaks_cas_many tx place = list_any (compares_many tx.db) (at tx.asks place)

-- ---- cas failed: the present value differs from the old one of a cas;
-- nil means that there is none

abbrev pub is_value : Option Value → Option Value → Bool
is_value None None = true
is_value (Some v) (Some w) = value_eq v w
is_value None (Some w) = false
is_value (Some v) None = false

abbrev pub old_value : Transaction → Attribute → Operand → Option Value
old_value tx attribute (plain edn.nil) = None
old_value tx attribute part = value_of_part tx.db tx.names attribute part

abbrev pub is_present : Transaction → ℕ → Operand → Attribute → Bool
is_present tx e old attribute =
    is_value (value_of tx.db.facts e attribute.id) (old_value tx attribute old)

abbrev pub compares_another : Transaction → Ask → Bool
compares_another tx (compares name k old new) =
    option_map_or
    (λ e. option_map_or (λ attribute. not (is_present tx e old attribute))
    (attribute_named tx.db.facts k) false)
    (entity_of tx.db tx.names name) false
compares_another tx ask = false

abbrev pub breaks_cas_failed : Transaction → ℕ → Bool
breaks_cas_failed tx place = list_any (compares_another tx) (at tx.asks place)

-- ---- datoms conflict: it asks a triple that is added beside another value of cardinality one, or
-- that is both added and retracted

abbrev pub is_asked_in : List Datom → Datom → Bool
is_asked_in ds d = list_any (is_of d.e d.a d.v) ds

abbrev pub has_another_value : List Datom → Datom → Bool
has_another_value added d =
    list_any (λ other. nat_eq other.e d.e && nat_eq other.a d.a && not (value_eq other.v d.v)) added

abbrev pub conflicts : Transaction → Datom → Bool
conflicts tx d =
    is_asked_in (joined tx.added) d
    && ((is_one tx.db.facts d.a && has_another_value (joined tx.added) d)
    || is_asked_in (joined tx.retracted ++ joined tx.swept) d)

abbrev pub breaks_datoms_conflict : Transaction → ℕ → Bool
breaks_datoms_conflict tx place = list_any (conflicts tx) (asked tx place)

-- ---- unique conflict: it adds a value of a unique attribute that two entities have after the
-- transaction

abbrev pub breaks_unique_conflict : Transaction → ℕ → Bool
breaks_unique_conflict tx place =
    list_any (λ d. is_unique tx.db.facts d.a && not (has_no_other_holder tx.after d))
    (at tx.added place)

-- ---- incomplete attribute: it asks something of a new attribute that is not whole, or changes an
-- attribute so that it is not whole

abbrev pub describes : Datom → Bool
describes d = nat_le ident d.a && nat_le d.a index

-- the entity is described as an attribute after the transaction, and was none before
abbrev pub is_new_attribute : Transaction → ℕ → Bool
is_new_attribute tx e =
    not (is_attribute tx.db.facts e) && list_any (λ d. nat_eq d.e e && says_attribute d) tx.after

abbrev pub breaks_incomplete_attribute : Transaction → ℕ → Bool
breaks_incomplete_attribute tx place =
    list_any (λ d. describes d && is_new_attribute tx d.e && not (is_whole tx.after d.e))
    (asked_triples tx place)
    || list_any
    (λ d. is_recorded tx d
    && is_alteration d
    && is_attribute tx.db.facts d.e
    && not (is_whole tx.after d.e))
    (asked tx place)

-- ---- attribute fixed: it changes what stays as it is

abbrev pub breaks_attribute_fixed : Transaction → ℕ → Bool
breaks_attribute_fixed tx place =
    list_any (λ d. is_recorded tx d && is_forbidden tx.db.facts d) (asked tx place)

-- ---- too large: with the datom of its instant it would record too many datoms, or too many bytes

abbrev pub breaks_too_large : Transaction → Bool
breaks_too_large tx =
    nat_lt most_datoms (length tx.changes + 1)
    || nat_lt most_bytes (entry_size tx.changes + instant_size)

-- ---- full: t, the user entities or the instant would pass their greatest value

abbrev pub breaks_full : Transaction → Bool
breaks_full tx =
    nat_lt greatest_t (basis tx.db.history + 1)
    || nat_lt most_users (max (users_issued tx.db.history) (users_in tx.changes))
    || not (int_lt (last_instant tx.db.history) greatest_instant)

-- ---- alteration conflict: it alters the cardinality or the uniqueness of an attribute against its
-- facts after the transaction

abbrev pub keeps_its_promise : List Datom → ℕ → Bool
keeps_its_promise facts a =
    list_all
    (λ d. not (nat_eq d.a a)
    || ((not (is_one facts a) || nat_le (length (values_of facts d.e a)) 1)
    && (not (is_unique facts a) || has_no_other_holder facts d)))
    facts

abbrev pub alters_a_promise : Datom → Bool
alters_a_promise d = nat_eq d.a cardinality || nat_eq d.a unique

abbrev pub breaks_alteration_conflict : Transaction → ℕ → Bool
breaks_alteration_conflict tx place =
    list_any
    (λ d. is_recorded tx d
    && alters_a_promise d
    && is_attribute tx.db.facts d.e
    && not (keeps_its_promise tx.after d.e))
    (asked tx place)
