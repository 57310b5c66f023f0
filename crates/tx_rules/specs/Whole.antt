-- Attributes that lack something after the changes.
-- Datomic, Schema (required and altered attributes).
use Rattle.std.specs.Prelude.{ℕ, Bool, not, ◌&&◌, ◌||◌, List, nat_eq, nat_le, if◌then◌else◌, Option}
use Rattle.std.specs.Prelude.{None}
use Rattle.std.specs.List.{list_any}
use Rattle.fb_values.specs.declared.facts.Datom.{Datom}
use Rattle.fb_numbers.specs.Numbers.{ident, cardinality, unique, index}
use Rattle.fb_model.specs.Schema.{is_attribute, is_whole}
use Rattle.fb_model.specs.Laws.{says_attribute}
use Rattle.tx_asks.specs.declared.triples.Triple.{Triple}
use Rattle.tx_rules.specs.declared.whole.Lack.{Lack}
use Rattle.tx_rules.specs.Places.{earlier, named_at, recorded_at, first_where}

-- it says something of its entity as an attribute
abbrev pub describes : Triple → Bool
describes t = nat_le ident t.a && nat_le t.a index

-- it is about what may be altered
abbrev pub alters : Triple → Bool
alters t = nat_eq t.a cardinality || nat_eq t.a unique || nat_eq t.a index

abbrev pub is_of_new_attribute : List Datom → List Datom → ℕ → Bool
is_of_new_attribute schema after e =
    not (is_attribute schema e) && list_any (λ d. nat_eq d.e e && says_attribute d) after

abbrev pub lack_of : List Datom → List Datom → ℕ → Lack
lack_of schema after e =
    record {
      e = e;
      as_new = is_of_new_attribute schema after e && not (is_whole after e);
      as_altered = is_attribute schema e && not (is_whole after e);
    }

-- the first form that asks something of an attribute which lacks something
abbrev pub lack_at : Lack → Triple → Option ℕ
lack_at lack t =
    earlier (if lack.as_new then named_at t else None)
    (if alters t && lack.as_altered then recorded_at t else None)

abbrev pub first_incomplete : List Datom → List Datom → List Triple → Option ℕ
first_incomplete schema after triples =
    first_where describes (λ t. lack_at (lack_of schema after t.e) t) triples
