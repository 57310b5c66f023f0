-- What an entry makes of live lists that stand for a history.
-- Restates Indexes of Datomic's documentation.
-- That AVET is refilled where an attribute gets an index is this project's own choice.
use Rattle.std.specs.Prelude.{◌≡◌, ◌≤◌, ℕ, List, [], ◌∷◌, ◌++◌, Contains}
use Rattle.fb_values.specs.declared.facts.Datom.{Datom}
use Rattle.fb_values.specs.declared.facts.Entry.{Entry}
use Rattle.fb_values.specs.declared.indexes.Order.{Order}
use Rattle.fb_values.specs.declared.indexes.Order.TheVariants.{Avet}
use Rattle.fb_covers.specs.Coverage.{Coverage, covers as held}
use Rattle.fb_model.specs.Rising.{IsRisingListOf}
use Rattle.fb_model.specs.History.{basis, said}
use Rattle.fb_model.specs.Facts.{facts}
use Rattle.fb_model.specs.Schema.{covers}
use Rattle.fb_model.specs.Lawful.{IsLawful, IsLawfulAfter}
use Rattle.view_model.specs.Stands.{IsIndexed, IsLive}

-- the datom belongs to the live list of the order, where trees stand for the entries up to c
abbrev pub IsDemanded : List Entry → ℕ → Order → Datom → Type 0
IsDemanded h c order d = IsIndexed h order d × IsLive h c order d

-- the coverage says of each attribute what the facts say of it
abbrev pub IsCoverageOf : Coverage → List Datom → Type 0
IsCoverageOf coverage facts = (order : Order) (a : ℕ) → held coverage order a ≡ covers facts order a

-- The entry comes next in the history, with the coverage after it,
-- and with the older datoms that AVET demands with it and did not demand before
pub record IsNext (h : List Entry) (c : ℕ) (entry : Entry) (coverage : Coverage)
    (refill : List Datom) : Type 0 where
  pub lawful : IsLawful h
  pub bound : c ≤ basis h
  pub next : IsLawfulAfter h entry
  pub coverage_is : IsCoverageOf coverage (facts (h ++ entry ∷ []))
  pub refill_is : IsRisingListOf Avet refill (λ d. Contains (said h) d
      × IsDemanded (h ++ entry ∷ []) c Avet d
      × (IsDemanded h c Avet d → ⊥))
