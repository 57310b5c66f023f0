-- Filters by their names, in a table that finds a place by a name,
-- has a name at a place, and a filter there.
-- Datomic, Database Filters (d/filter). That filters have names is this project's own choice.
use Rattle.std.specs.Prelude.{◌≡◌, ℕ, List, [], ◌∷◌, ◌++◌, nat_eq, if◌then◌else◌, Option, Some}
use Rattle.std.specs.Prelude.{MatchOption}
use Rattle.std.specs.List.{AllByRecursion, AllByRecursion-prop, list_any}
use Rattle.std.proofs.Props.{props}
use Rattle.fb_values.specs.declared.facts.Datom.{Datom}

-- the place is the one that its own name finds
abbrev pub IsFound : (List ℕ → Option ℕ) → (ℕ → List ℕ) → ℕ → Type 0
IsFound place_of name_at place = place_of (name_at place) ≡ Some place

abbrev pub AreFound : (List ℕ → Option ℕ) → (ℕ → List ℕ) → List ℕ → Type 0
AreFound place_of name_at places = AllByRecursion (IsFound place_of name_at) places

pub IsFound-prop : (place_of : List ℕ → Option ℕ) (name_at : ℕ → List ℕ) (place : ℕ)
    → IsProp (IsFound place_of name_at place)
IsFound-prop place_of name_at place = hlevel props

pub AreFound-prop : (place_of : List ℕ → Option ℕ) (name_at : ℕ → List ℕ) (places : List ℕ)
    → IsProp (AreFound place_of name_at places)
AreFound-prop place_of name_at places =
    AllByRecursion-prop (IsFound place_of name_at) (IsFound-prop place_of name_at) places

-- the places with one more, where it is not there yet
abbrev pub with_place : List ℕ → ℕ → List ℕ
with_place places place =
    if list_any (nat_eq place) places then places
    else places ++ place ∷ []

-- the filter that the name finds selects the datom
abbrev pub selected_by : (List ℕ → Option ℕ) → (ℕ → Datom → Type 0) → List ℕ → Datom → Type 0
selected_by place_of selects_at name d = MatchOption (place_of name) ⊥ (λ place. selects_at place d)
