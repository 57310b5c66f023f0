-- Attributes whose facts break what is promised anew.
-- Datomic, Schema (altering :db/cardinality and :db/unique).
use Rattle.std.specs.Prelude.{ℕ, Bool, not, ◌&&◌, ◌||◌, List, nat_eq, is_some, if◌then◌else◌}
use Rattle.std.specs.Prelude.{Option, None}
use Rattle.fb_values.specs.declared.facts.Datom.{Datom}
use Rattle.fb_numbers.specs.Numbers.{cardinality, unique}
use Rattle.fb_model.specs.Schema.{is_attribute}
use Rattle.tx_model.specs.ChangeRules.{keeps_its_promise}
use Rattle.tx_asks.specs.declared.triples.Triple.{Triple}
use Rattle.tx_rules.specs.declared.promises.Verdict.{Verdict}
use Rattle.tx_rules.specs.Places.{recorded_at, first_where}

-- it is recorded, and about the cardinality or the uniqueness of its entity
abbrev pub promises_anew : Triple → Bool
promises_anew t = (nat_eq t.a cardinality || nat_eq t.a unique) && is_some (recorded_at t)

abbrev pub verdict_of : List Datom → List Datom → ℕ → Verdict
verdict_of schema after e =
    record { e = e; broken = is_attribute schema e && not (keeps_its_promise after e) }

abbrev pub broken_at : Verdict → Triple → Option ℕ
broken_at verdict t = if verdict.broken then recorded_at t else None

abbrev pub first_broken : List Datom → List Datom → List Triple → Option ℕ
first_broken schema after triples =
    first_where promises_anew (λ t. broken_at (verdict_of schema after t.e) t) triples
