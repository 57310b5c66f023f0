-- Filters by name: which filter a name finds, and which datoms it selects.
-- Datomic, Database Filters (d/filter).
-- Which filters a table begins with is this project's own choice.
use Rattle.std.specs.Prelude.{ℕ, ◌+◌, negsuc, Bool, true, false, not, List, [], ◌∷◌, nat_eq, nat_lt}
use Rattle.std.specs.Prelude.{bytes_eq, if◌then◌else◌, slice_get, Option, Some, None, IsTrue}
use Rattle.std.specs.Prelude.{MatchOption, codes}
use Rattle.std.specs.Option.{option_map_or}
use Rattle.fb_values.specs.declared.facts.Datom.{Datom}
use Rattle.fb_values.specs.declared.facts.Value.{Value}
use Rattle.fb_values.specs.declared.facts.Value.TheVariants.{Long}
use Rattle.fb_numbers.specs.Numbers.{user_entity, doc}
use Rattle.fb_preds.specs.declared.filters.Filter.{Filter}
use Rattle.fb_preds.specs.declared.filters.Filter.TheVariants.{Users, NoDoc, Positive, Stored}
use Rattle.fb_preds.specs.declared.filters.Filter.TheVariants.{Closure}
use Rattle.fb_preds.specs.declared.filters.NamedFilter.{NamedFilter}

-- the last place of the name
abbrev pub last_place : {S K : Type 0} → List ℕ → List (NamedFilter S K) → Option ℕ
last_place name [] = None
last_place name (named ∷ rest) =
    option_map_or (λ place. Some (place + 1)) (last_place name rest)
    (if bytes_eq named.name name then Some 0 else None)

-- the name at a place
abbrev pub name_at : {S K : Type 0} → List (NamedFilter S K) → ℕ → List ℕ
name_at filters place = option_map_or (λ named. named.name) (slice_get filters place) []

-- a long below zero
abbrev pub is_negative : Value → Bool
is_negative (Long (negsuc n)) = true
is_negative v = false

-- what a filter selects, where it is given of what callers have stored and of closures
abbrev pub Selects : {S K : Type 0} → (S → Datom → Type 0) → (K → Datom → Type 0) → Filter S K
    → Datom → Type 0
Selects stored kept Users d = IsTrue (nat_lt (user_entity 0) d.e)
Selects stored kept NoDoc d = IsTrue (not (nat_eq d.a doc))
Selects stored kept Positive d = IsTrue (not (is_negative d.v))
Selects stored kept (Stored s) d = stored s d
Selects stored kept (Closure k) d = kept k d

-- the filter at the place selects the datom
abbrev pub selected_at : {S K : Type 0} → (S → Datom → Type 0) → (K → Datom → Type 0)
    → List (NamedFilter S K) → ℕ → Datom → Type 0
selected_at stored kept filters place d =
    MatchOption (slice_get filters place) ⊥ (λ named. Selects stored kept named.filter d)

-- the filters that a table begins with
abbrev pub shipped_filters : {S K : Type 0} → List (NamedFilter S K)
shipped_filters =
    record { name = codes "users"; filter = Users }
    ∷ record { name = codes "no-doc"; filter = NoDoc }
    ∷ record { name = codes "positive"; filter = Positive }
    ∷ []
