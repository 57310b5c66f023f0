-- A schema's facts with numbers that rise, and the numbers by entity.
-- This project's own choice.
use Rattle.std.specs.Prelude.{◌≡◌, ℕ, ◌<◌, Bool, false, List, [], ◌∷◌, filter, nat_eq, Vec}
use Rattle.std.specs.Option.{option_map_or}
use Rattle.std.specs.Map.{keys_of, values_of}
use Rattle.std.specs.Ordering.{nat_cmp}
use Rattle.std.specs.declared.alloc.Global.{Global}
use Rattle.shared_map.specs.Entries.{get, IsRising}
use Rattle.fb_values.specs.declared.facts.Datom.{Datom}
use Rattle.fb_model.specs.Facts.{is_of, standing}

-- those of an entity
abbrev pub of_entity : ℕ → List (ℕ × Datom) → List (ℕ × Datom)
of_entity e facts = filter (λ x. nat_eq x.1.e e) facts

-- the numbers that are kept of an entity
abbrev pub numbers_at : List (ℕ × Vec ℕ Global) → ℕ → List ℕ
numbers_at numbers e = option_map_or (λ own. own.items) (get nat_cmp numbers e) []

-- the datom is of the triple of the fact with the number
abbrev pub is_number_of : Datom → List (ℕ × Datom) → ℕ → Bool
is_number_of d facts number =
    option_map_or (λ x. is_of x.e x.a x.v d) (get nat_cmp facts number) false

-- all are of lesser numbers
abbrev pub AreBelow : ℕ → List (ℕ × Datom) → Type 0
AreBelow next [] = Unit {0}
AreBelow next (x ∷ facts) = (x.0 < next) × AreBelow next facts

-- each entity's numbers are those of its facts that hold, and are less than the next
pub record IsKept (next : ℕ) (facts : List (ℕ × Datom)) (numbers : List (ℕ × Vec ℕ Global))
    : Type 0 where
  pub own : (e : ℕ) → numbers_at numbers e ≡ keys_of (of_entity e facts)
  pub below : AreBelow next facts
  pub rising : IsRising nat_cmp facts
  pub stands : standing (values_of facts) ≡ values_of facts
