-- Places that their names find: what a name finds, and what filters select together.
use Rattle.std.proofs.Common.{◌≡◌, ℕ, suc, zero, ◌+◌, ◌<◌, Bool, true, false, List, [], ◌∷◌, length, bytes_eq, cond, get_or, map, Option}
use Rattle.std.proofs.Common.{Some, None, refl, sym, subst, arith, add-one}
use Rattle.std.specs.Prelude.{MatchOption, IfSome, ◌↔◌}
use Rattle.std.specs.Option.{option_map_or}
use Rattle.std.proofs.lemmas.Slice.Eq.{bytes_eq-Decides}
use Rattle.fb_values.specs.declared.facts.Datom.{Datom}
use Rattle.fb_preds.specs.declared.filters.NamedFilter.{NamedFilter}
use Rattle.fb_preds.specs.Naming.{IsFound, AreFound, selected_by}
use Rattle.fb_preds.specs.Selecting.{SelectedByAll}
use Rattle.fb_preds.specs.Table.{last_place, name_at}

-- ---- what a name finds in a table

first_name : {S K : Type 0} (name : List ℕ) (y : NamedFilter S K) (xs : List (NamedFilter S K)) (b : Bool) (p : ℕ)
    → bytes_eq y.name name ≡ b → cond b (Some 0) None ≡ Some p
    → (name_at (y ∷ xs) p ≡ name) × (p < length (y ∷ xs))
first_name name y xs true p same e =
    let here : 0 ≡ p = cc in
    subst (λ p. (name_at (y ∷ xs) p ≡ name) × (p < length (y ∷ xs))) here ((bytes_eq-Decides y.name name).0 same, omega arith)
first_name name y xs false p same e = absurd (cc)

later_name : {S K : Type 0} (name : List ℕ) (y : NamedFilter S K) (xs : List (NamedFilter S K)) (o : Option ℕ) (p : ℕ)
    → ((q : ℕ) → o ≡ Some q → (name_at xs q ≡ name) × (q < length xs))
    → option_map_or (λ place. Some (place + 1)) o (cond (bytes_eq y.name name) (Some 0) None) ≡ Some p
    → (name_at (y ∷ xs) p ≡ name) × (p < length (y ∷ xs))
later_name name y xs (Some q) p found e =
    let next : q + 1 ≡ p = cc in
    let here = found q refl in
    subst (λ p. (name_at (y ∷ xs) p ≡ name) × (p < length (y ∷ xs))) next (rw add-one here.0, omega (arith, here.1))
later_name name y xs None p found e = first_name name y xs (bytes_eq y.name name) p refl e

-- the place that a name finds has the name
pub last_place-name : {S K : Type 0} (name : List ℕ) (xs : List (NamedFilter S K)) (p : ℕ) → last_place name xs ≡ Some p
    → (name_at xs p ≡ name) × (p < length xs)
last_place-name name [] p e = absurd (cc)
last_place-name name (y ∷ xs) p e = later_name name y xs (last_place name xs) p (last_place-name name xs) e

pub found_named : {S K : Type 0} (name : List ℕ) (xs : List (NamedFilter S K)) (o : Option ℕ) → o ≡ last_place name xs
    → IfSome o (λ place. name_at xs place ≡ name)
found_named name xs None is = tt
found_named name xs (Some p) is = (last_place-name name xs p (sym is)).0

-- ---- several places

pub AreFound-at : (place_of : List ℕ → Option ℕ) (name_at : ℕ → List ℕ) (places : List ℕ) (k d : ℕ) → AreFound place_of name_at places
    → k < length places → IsFound place_of name_at (get_or places k d)
AreFound-at place_of name_at [] k d are below = absurd (omega arith)
AreFound-at place_of name_at (p ∷ places) zero d are below = are.0
AreFound-at place_of name_at (p ∷ places) (suc k) d are below = AreFound-at place_of name_at places k d are.1 (omega arith)

-- what the filters at the places select is what those that their names find select
same_selected : (place_of : List ℕ → Option ℕ) (name_at : ℕ → List ℕ) (selects_at : ℕ → Datom → Type 0) (places : List ℕ) (d : Datom)
    → AreFound place_of name_at places
    → SelectedByAll selects_at places d ≡ SelectedByAll (selected_by place_of selects_at) (map name_at places) d
same_selected place_of name_at selects_at [] d are = refl
same_selected place_of name_at selects_at (p ∷ places) d are =
    λ i. MatchOption (sym are.0 i) ⊥ (λ place. selects_at place d) × same_selected place_of name_at selects_at places d are.1 i

pub selected_by_names : (place_of : List ℕ → Option ℕ) (name_at : ℕ → List ℕ) (selects_at : ℕ → Datom → Type 0) (places : List ℕ)
    (d : Datom) (P : Type 0)
    → AreFound place_of name_at places
    → P ↔ SelectedByAll selects_at places d → P ↔ SelectedByAll (selected_by place_of selects_at) (map name_at places) d
selected_by_names place_of name_at selects_at places d P are same =
    subst (λ (Q : Type 0). P ↔ Q) (same_selected place_of name_at selects_at places d are) same
