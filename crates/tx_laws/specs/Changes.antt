-- Which datoms of an entry ask that their entity is whole.
-- Datomic, Schema (installing and altering attributes).
use Rattle.std.specs.Prelude.{ℕ, Bool, true, not, ◌&&◌, ◌||◌, List, nat_eq}
use Rattle.std.specs.List.{list_all, list_any}
use Rattle.std.specs.Option.{option_map_or}
use Rattle.std.specs.Ordering.{nat_cmp}
use Rattle.std.specs.BTreeMap.{BTreeMap, get}
use Rattle.fb_values.specs.declared.facts.Datom.{Datom}
use Rattle.fb_values.specs.declared.facts.Entry.{Entry}
use Rattle.fb_model.specs.Laws.{says_attribute, is_alteration, has_reserved_name, are_allowed}
use Rattle.fb_model.specs.Laws.{is_own_instant}
use Rattle.fb_numbers.specs.Numbers.{tx_instant}
use Rattle.fb_model.specs.Schema.{is_attribute}
use Rattle.tx_laws.specs.declared.altered.Altered.{Altered}

-- it begins an attribute, or alters one
abbrev pub asks_whole : List Datom → Datom → Bool
asks_whole before d =
    (d.added && (says_attribute d && not (is_attribute before d.e)))
    || (is_alteration d && is_attribute before d.e)

abbrev pub are_whole : List Datom → BTreeMap ℕ Altered → List Datom → Bool
are_whole before altered ds =
    list_all
    (λ d. not (asks_whole before d) || option_map_or (λ a. a.whole) (get nat_cmp altered d.e) true)
    ds

-- none gives a user entity a name of the database's own
abbrev pub add_no_reserved_names : List Datom → Bool
add_no_reserved_names ds = list_all (λ d. not (d.added && has_reserved_name d)) ds

-- the attributes are whole, and change only in what may change
abbrev pub keeps_schema : List Datom → BTreeMap ℕ Altered → List Datom → Bool
keeps_schema schema altered ds = are_whole schema altered ds && are_allowed schema ds

abbrev pub own_instant_alone : Entry → List Datom → Bool
own_instant_alone entry ds =
    list_any (is_own_instant entry) ds
    && list_all (λ d. not (nat_eq d.a tx_instant) || is_own_instant entry d) ds

abbrev pub keeps_names_and_instants : Entry → List Datom → Bool
keeps_names_and_instants entry ds = add_no_reserved_names ds && own_instant_alone entry ds

-- what law 9 asks of the entry's datoms,
-- under the schema before and what becomes of the entities that they describe
abbrev pub keeps_attributes : List Datom → BTreeMap ℕ Altered → Entry → Bool
keeps_attributes schema altered entry =
    keeps_schema schema altered entry.datoms && keeps_names_and_instants entry entry.datoms
