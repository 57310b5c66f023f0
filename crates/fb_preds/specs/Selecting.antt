-- Which datoms several filters select together.
-- Datomic, Database Filters (filters compose).
use Rattle.std.specs.Prelude.{List, [], ◌∷◌}
use Rattle.fb_values.specs.declared.facts.Datom.{Datom}

-- each of them selects the datom
abbrev pub SelectedByAll : {P : Type 0} → (P → Datom → Type 0) → List P → Datom → Type 0
SelectedByAll Selects [] d = Unit {0}
SelectedByAll Selects (pick ∷ picks) d = Selects pick d × SelectedByAll Selects picks d
