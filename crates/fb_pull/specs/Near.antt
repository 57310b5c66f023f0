-- What is at hand of an entity.
-- This project's own choice.
use denote.Ref.{Bor}
use Rattle.std.specs.Prelude.{◌≡◌, ℕ, nat_eq, List, filter, map}
use Rattle.fb_values.specs.declared.facts.Datom.{Datom}
use Rattle.fb_db.specs.declared.db.Db.{Db}
use Rattle.pull_model.specs.Found as model
use Rattle.fb_pull.specs.declared.near.Near.{Near}
use Rattle.fb_pull.specs.declared.near.Near.TheVariants.{Few, Nothing}
use Rattle.fb_pull.specs.Views.{Sees}

-- the datoms that are lent
abbrev pub lent : List (Bor Datom) → List Datom
lent ds = map (λ d. d.now) ds

-- nothing, or all that the view has of the entity
abbrev pub IsNear : {S : Type 0} → Db S → (Datom → Type 0) → ℕ → Near → Type 0
IsNear db Selects e Nothing = Unit {0}
IsNear db Selects e (Few ds) =
    (facts : model.Db) → Sees db Selects facts
    → lent ds.items ≡ filter (λ d. nat_eq d.e e) facts.seen
