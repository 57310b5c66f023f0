-- The laws that an entry keeps where it may follow a history.
-- One test for each part of a law, in the order of the laws.
-- Datomic, Transaction Data and Schema, for whoever reads a log:
-- this project's own choice of what an entry may record.
use Rattle.std.specs.Prelude.{ℕ, ◌+◌, Bool, true, false, not, ◌&&◌, ◌||◌, List, [], ◌∷◌, ◌++◌}
use Rattle.std.specs.Prelude.{nat_eq, nat_le, int_lt, length, if◌then◌else◌}
use Rattle.std.specs.List.{list_all, list_any}
use Rattle.std.specs.Option.{option_map_or}
use Rattle.fb_values.specs.declared.facts.Datom.{Datom}
use Rattle.fb_values.specs.declared.facts.Entry.{Entry}
use Rattle.fb_values.specs.declared.facts.Value.{Value}
use Rattle.fb_values.specs.declared.facts.Value.TheVariants.{Keyword, Ref, Instant}
use Rattle.fb_values.specs.declared.indexes.Order.TheVariants.{Eavt}
use Rattle.fb_values.specs.Rising.{rises}
use Rattle.fb_numbers.specs.Numbers.{transaction_of, user_entity, tx_instant, ident, value_type}
use Rattle.fb_numbers.specs.Numbers.{cardinality, unique, is_component, index, is_builtin}
use Rattle.fb_numbers.specs.Numbers.{greatest_t, is_instant, most_datoms}
use Rattle.fb_model.specs.Words.{is_reserved}
use Rattle.fb_model.specs.History.{basis, last_instant, said, users_issued, is_issued}
use Rattle.fb_model.specs.Facts.{holds, is_of, value_eq, values_of, standing, facts}
use Rattle.fb_model.specs.Types.{is_of_type}
use Rattle.fb_model.specs.Schema.{attribute_of, is_attribute, is_one, is_unique, is_whole}

-- the facts of the history with the entry
abbrev pub facts_with : List Entry → Entry → List Datom
facts_with h entry = standing (said h ++ entry.datoms)

-- ---- 1: t is the next one, and not too large

abbrev pub has_next_t : List Entry → Entry → Bool
has_next_t h entry = nat_eq entry.t (basis h + 1) && nat_le entry.t greatest_t

-- ---- 2: the instant is above the last one, and in its range

abbrev pub has_later_instant : List Entry → Entry → Bool
has_later_instant h entry = int_lt (last_instant h) entry.instant && is_instant entry.instant

-- ---- 3: each number is that of an entity, and each attribute is installed

-- the entity is that of an addition among the datoms
abbrev pub is_asserted : List Datom → ℕ → Bool
is_asserted ds e = list_any (λ d. nat_eq d.e e && d.added) ds

-- how far the user numbers after n go on without a gap, each that of an asserted entity;
-- the first list is as long as the second, and only bounds how many are looked for
abbrev pub users_behind : List Datom → List Datom → ℕ → ℕ
users_behind [] ds n = n
users_behind (_ ∷ more) ds n =
    if is_asserted ds (user_entity (n + 1)) then users_behind more ds (n + 1) else n

-- the greatest user number in use after the entry
abbrev pub users_after : List Entry → Entry → ℕ
users_after h entry = users_behind entry.datoms entry.datoms (users_issued h)

-- the number is issued, or this transaction's, or that of one of the new user entities
abbrev pub is_known : List Entry → Entry → ℕ → Bool
is_known h entry n =
    is_issued h n || nat_eq n (transaction_of entry.t)
    || (nat_le (user_entity 1) n && nat_le n (user_entity (users_after h entry)))

-- a value that is an entity's number is known where that number is
abbrev pub is_known_value : List Entry → Entry → Value → Bool
is_known_value h entry (Ref n) = is_known h entry n
is_known_value h entry _ = true

abbrev pub has_known_numbers : List Entry → Entry → Bool
has_known_numbers h entry =
    list_all (λ d. is_known h entry d.e && is_known_value h entry d.v) entry.datoms

-- the attributes of the datoms are among the facts before
abbrev pub are_installed : List Datom → List Datom → Bool
are_installed facts ds = list_all (λ d. is_attribute facts d.a) ds

abbrev pub has_installed_attributes : List Entry → Entry → Bool
has_installed_attributes h entry = are_installed (facts h) entry.datoms

-- ---- 4: each value is of its attribute's type, and not too long

abbrev pub are_typed : List Datom → List Datom → Bool
are_typed facts ds =
    list_all
    (λ d. option_map_or (λ attribute. is_of_type attribute.kind d.v) (attribute_of facts d.a) false)
    ds

abbrev pub has_typed_values : List Entry → Entry → Bool
has_typed_values h entry = are_typed (facts h) entry.datoms

-- ---- 5: the datoms are of this transaction,
-- strictly rise by entity, attribute, value and t, and are not too many

abbrev pub has_datoms_in_order : List Entry → Entry → Bool
has_datoms_in_order h entry =
    list_all (λ d. nat_eq d.t entry.t) entry.datoms
    && rises Eavt entry.datoms
    && nat_le (length entry.datoms) most_datoms

-- ---- 6: each addition is of a triple that did not hold, and each retraction of one that held

abbrev pub has_changes_alone : List Entry → Entry → Bool
has_changes_alone h entry =
    list_all (λ d. if d.added then not (holds h d.e d.a d.v) else holds h d.e d.a d.v) entry.datoms

-- ---- 7: an entity has at most one value of an attribute of cardinality one

abbrev pub keeps_one_value : List Datom → Bool
keeps_one_value facts =
    list_all (λ d. not (is_one facts d.a) || nat_le (length (values_of facts d.e d.a)) 1) facts

abbrev pub has_one_value_each : List Entry → Entry → Bool
has_one_value_each h entry = keeps_one_value (facts_with h entry)

-- ---- 8: at most one entity has a value of a unique attribute

abbrev pub has_no_other_holder : List Datom → Datom → Bool
has_no_other_holder facts d =
    list_all (λ other. not (nat_eq other.a d.a && value_eq other.v d.v) || nat_eq other.e d.e) facts

abbrev pub keeps_one_holder : List Datom → Bool
keeps_one_holder facts =
    list_all (λ d. not (is_unique facts d.a) || has_no_other_holder facts d) facts

abbrev pub has_one_holder_each : List Entry → Entry → Bool
has_one_holder_each h entry = keeps_one_holder (facts_with h entry)

-- ---- 9: attributes are whole, and change only in what may change;
-- names are not the database's own; the instant is recorded

-- the datom says something that only an attribute has
abbrev pub says_attribute : Datom → Bool
says_attribute d = nat_le value_type d.a && nat_le d.a index

-- the datom is about what an installed attribute may change:
-- its cardinality, its uniqueness, its index
abbrev pub is_alteration : Datom → Bool
is_alteration d = nat_eq d.a cardinality || nat_eq d.a unique || nat_eq d.a index

-- an entity that is described as an attribute, and was none before, is whole
abbrev pub are_new_ones_whole : List Datom → List Datom → Bool
are_new_ones_whole before after =
    list_all (λ d. not (says_attribute d) || is_attribute before d.e || is_whole after d.e) after

-- an attribute that is altered is whole afterwards
abbrev pub are_altered_ones_whole : List Datom → List Datom → List Datom → Bool
are_altered_ones_whole before after ds =
    list_all (λ d. not (is_alteration d && is_attribute before d.e) || is_whole after d.e) ds

abbrev pub has_whole_attributes : List Entry → Entry → Bool
has_whole_attributes h entry =
    are_new_ones_whole (facts h) (facts_with h entry)
    && are_altered_ones_whole (facts h) (facts_with h entry) entry.datoms

-- the datom changes what stays as it is: the name,
-- the type or the part of an attribute, a built-in entity, or the instant of a transaction
abbrev pub is_forbidden : List Datom → Datom → Bool
is_forbidden before d =
    ((nat_eq d.a ident || nat_eq d.a value_type || nat_eq d.a is_component)
    && is_attribute before d.e)
    || (nat_le ident d.a && nat_le d.a index && is_builtin d.e)
    || (nat_eq d.a tx_instant && not d.added)

abbrev pub are_allowed : List Datom → List Datom → Bool
are_allowed before ds = list_all (λ d. not (is_forbidden before d)) ds

abbrev pub has_allowed_changes : List Entry → Entry → Bool
has_allowed_changes h entry = are_allowed (facts h) entry.datoms

abbrev pub is_reserved_value : Value → Bool
is_reserved_value (Keyword text) = is_reserved text
is_reserved_value v = false

-- a user entity that has a name of the database itself
abbrev pub has_reserved_name : Datom → Bool
has_reserved_name d = nat_eq d.a ident && nat_le (user_entity 1) d.e && is_reserved_value d.v

abbrev pub keeps_reserved_names : List Datom → Bool
keeps_reserved_names facts = list_all (λ d. not (has_reserved_name d)) facts

abbrev pub has_no_reserved_names : List Entry → Entry → Bool
has_no_reserved_names h entry = keeps_reserved_names (facts_with h entry)

-- the datom records the entry's instant on its transaction
abbrev pub is_own_instant : Entry → Datom → Bool
is_own_instant entry d =
    is_of (transaction_of entry.t) tx_instant (Instant entry.instant) d && d.added

-- the entry records its own instant, and no other one
abbrev pub has_own_instant_alone : List Entry → Entry → Bool
has_own_instant_alone h entry =
    list_any (is_own_instant entry) entry.datoms
    && list_all (λ d. not (nat_eq d.a tx_instant) || is_own_instant entry d) entry.datoms
