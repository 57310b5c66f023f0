-- What becomes of the entities that an entry describes as attributes.
-- Datomic, Schema (altering attributes).
use Rattle.std.specs.Prelude.{◌≡◌, ℕ, Bool, not, ◌&&◌, ◌||◌, List, nat_eq, if◌then◌else◌, Some}
use Rattle.std.specs.Prelude.{None}
use Rattle.std.specs.List.{list_any}
use Rattle.std.specs.Ordering.{nat_cmp}
use Rattle.std.specs.BTreeMap.{BTreeMap, get}
use Rattle.fb_values.specs.declared.facts.Datom.{Datom}
use Rattle.fb_model.specs.Schema.{is_one, is_unique, is_whole}
use Rattle.fb_schema.specs.Described.{describes}
use Rattle.tx_after.specs.After.{after}
use Rattle.tx_after.specs.Promises.{gives_one_value, gives_one_holder}
use Rattle.tx_laws.specs.declared.altered.Altered.{Altered}

-- one of the datoms describes the entity
abbrev pub is_described : ℕ → List Datom → Bool
is_described e ds = list_any (λ d. nat_eq d.e e && describes d) ds

-- where it comes to promise more, all its facts are to keep it
abbrev pub keeps_values : List Datom → List Datom → ℕ → Bool
keeps_values before after e = is_one before e || not (is_one after e) || gives_one_value after e

abbrev pub keeps_holders : List Datom → List Datom → ℕ → Bool
keeps_holders before after e =
    is_unique before e || not (is_unique after e) || gives_one_holder after e

-- the entity under the facts before and after
abbrev pub altered : List Datom → List Datom → ℕ → Altered
altered before after e =
    record {
      one = is_one after e;
      unique = is_unique after e;
      whole = is_whole after e;
      keeps_values = keeps_values before after e;
      keeps_holders = keeps_holders before after e;
    }

-- the entities that the datoms describe, and no others
abbrev pub HasAltered : BTreeMap ℕ Altered → List Datom → List Datom → List Datom → Type 0
HasAltered map before after ds =
    (e : ℕ)
    → get nat_cmp map e ≡ (if is_described e ds then Some (altered before after e) else None)
