-- What the lists of datoms that a database keeps stand for: trees for the entries up to a coverage,
-- live lists for what came later, and a snapshot for a whole history. This project's own choice;
-- Datomic, Indexes, describes the merging.
use Rattle.std.specs.Prelude.{◌≡◌, ◌≤◌, ◌<◌, ◌⊎◌, ℕ, List, Contains, IsTrue, IsFalse}
use Rattle.fb_values.specs.declared.facts.Datom.{Datom}
use Rattle.fb_values.specs.declared.facts.Entry.{Entry}
use Rattle.fb_values.specs.declared.indexes.Order.{Order}
use Rattle.fb_values.specs.Lists.{Lists, list_in}
use Rattle.fb_model.specs.Rising.{IsRisingListOf}
use Rattle.fb_model.specs.History.{basis, upto, said}
use Rattle.fb_model.specs.Facts.{facts}
use Rattle.fb_model.specs.Schema.{Schema, covers, schema_of}
use Rattle.fb_model.specs.Lawful.{IsLawful}

-- the datom is recorded, and the index holds its attribute
pub record IsIndexed (h : List Entry) (order : Order) (d : Datom) : Type 0 where
  pub is_said : Contains (said h) d
  pub is_covered : IsTrue (covers (facts h) order d.a)

-- the trees, read from left to right, are the indexes of the entries up to c
pub record RootStands (roots : Lists) (h : List Entry) (c : ℕ) : Type 0 where
  pub bound : c ≤ basis h
  pub trees : (order : Order)
      → IsRisingListOf order (list_in roots order) (IsIndexed (upto h c) order)

-- the datom is not in the trees for the entries up to c: it is later, or its attribute was not held
-- then
abbrev pub IsLive : List Entry → ℕ → Order → Datom → Type 0
IsLive h c order d = (c < d.t) ⊎ IsFalse (covers (facts (upto h c)) order d.a)

-- the live lists are what the indexes of the whole history have besides
abbrev pub LiveStands : Lists → List Entry → ℕ → Type 0
LiveStands live h c =
    (order : Order)
    → IsRisingListOf order (list_in live order) (λ d. IsIndexed h order d × IsLive h c order d)

-- entries, schema, trees with their coverage, and live lists together stand for the history
pub record SnapshotStands (entries : List Entry) (schema : Schema) (roots live : Lists)
    (covered : ℕ) (h : List Entry) : Type 0 where
  pub entries_are : entries ≡ h
  pub lawful : IsLawful h
  pub schema_is : schema ≡ schema_of h
  pub roots_stand : RootStands roots h covered
  pub live_stands : LiveStands live h covered
