-- When merged trees stand for the first entries of a history.
-- Restates Indexes of Datomic's documentation (the merging of recent datoms).
-- That coverage may change is this project's own choice.
use Rattle.std.specs.Prelude.{◌≡◌, ◌≤◌, ℕ, List, Contains}
use Rattle.fb_values.specs.declared.facts.Datom.{Datom}
use Rattle.fb_values.specs.declared.facts.Entry.{Entry}
use Rattle.fb_values.specs.declared.indexes.Order.{Order}
use Rattle.fb_values.specs.Lists.{Lists}
use Rattle.fb_model.specs.History.{basis, upto, said}
use Rattle.fb_model.specs.Facts.{facts}
use Rattle.fb_model.specs.Schema.{covers}
use Rattle.fb_model.specs.Lawful.{IsLawful}
use Rattle.fb_covers.specs.Coverage.{Coverage, covers as holds}
use Rattle.view_model.specs.Stands.{RootStands, LiveStands}

-- the coverage is that of the schema after the entry c
abbrev pub IsCoverageAfter : Coverage → List Entry → ℕ → Type 0
IsCoverageAfter coverage h c =
    (order : Order) (a : ℕ) → holds coverage order a ≡ covers (facts (upto h c)) order a

-- no attribute of a datom up to c is held
-- by one alone of the schemas after the entry c and at the end
abbrev pub IsStillCovered : List Entry → ℕ → Type 0
IsStillCovered h c =
    (order : Order) (d : Datom) → Contains (said h) d → d.t ≤ c
    → covers (facts (upto h c)) order d.a ≡ covers (facts h) order d.a

-- trees for the entries up to the first number,
-- and live lists, may be merged to trees for the entries up to the second
pub record CanMerge (h : List Entry) (old c : ℕ) (coverage : Coverage) (roots live : Lists)
    : Type 0 where
  pub lawful : IsLawful h
  pub roots_stand : RootStands roots h old
  pub live_stands : LiveStands live h old
  pub later : old ≤ c
  pub bound : c ≤ basis h
  pub coverage_is : IsCoverageAfter coverage h c
  pub still_covered : IsStillCovered h c
