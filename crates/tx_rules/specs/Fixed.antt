-- Triples that change what stays as it is. Datomic, Schema (what may be altered).
use Rattle.std.specs.Prelude.{ℕ, Bool, ◌&&◌, ◌||◌, List, nat_eq, nat_le, Option}
use Rattle.fb_values.specs.declared.facts.Datom.{Datom}
use Rattle.fb_numbers.specs.Numbers.{ident, value_type, is_component, index, tx_instant, is_builtin}
use Rattle.fb_model.specs.Schema.{is_attribute}
use Rattle.tx_asks.specs.declared.triples.Triple.{Triple}
use Rattle.tx_rules.specs.Places.{recorded_at, first_where}

-- to record it is to change the name,
-- the type or the part of an attribute, a built-in entity, or the instant of a transaction
abbrev pub is_fixed : List Datom → Triple → Bool
is_fixed facts t =
    ((nat_eq t.a ident || nat_eq t.a value_type || nat_eq t.a is_component)
    && is_attribute facts t.e)
    || (nat_le ident t.a && nat_le t.a index && is_builtin t.e)
    || (nat_eq t.a tx_instant && t.holds)

abbrev pub first_fixed : List Datom → List Triple → Option ℕ
first_fixed facts triples = first_where (is_fixed facts) recorded_at triples
