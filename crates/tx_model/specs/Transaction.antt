-- A transaction at a history: what each of its forms asks, what would be recorded, and what would
-- hold then.
-- Datomic, Transaction Data.
use Rattle.std.specs.Prelude.{◌≡◌, ◌↔◌, Contains, ℕ, ◌+◌, ℤ, Bool, true, false, not, List, ◌∷◌}
use Rattle.std.specs.Prelude.{◌++◌, map, filter, flat_map, if◌then◌else◌}
use Rattle.edn_model.specs.Form.{Form}
use Rattle.fb_values.specs.declared.facts.Datom.{Datom}
use Rattle.fb_values.specs.declared.facts.Entry.{Entry}
use Rattle.fb_values.specs.declared.facts.Value.TheVariants.{Instant}
use Rattle.fb_values.specs.declared.indexes.Order.TheVariants.{Eavt}
use Rattle.fb_numbers.specs.Numbers.{transaction_of, tx_instant}
use Rattle.fb_model.specs.Rising.{in_order}
use Rattle.fb_model.specs.History.{basis, said}
use Rattle.fb_model.specs.Facts.{holds_after, standing}
use Rattle.tx_model.specs.Asks.{Name, Ask}
use Rattle.tx_model.specs.Walk.{flat}
use Rattle.tx_model.specs.Tempids.{Db, db_of, assigned, assigned_to}
use Rattle.tx_model.specs.Changes.{additions, retractions, sweeps, implied}

-- the members of all lists, one after another
abbrev pub joined : {A : Type 0} → List (List A) → List A
joined lists = flat_map (λ list. list) lists

pub record Transaction : Type 0 where
  pub db : Db
  -- in the walk's order, for each form
  pub asks : List (List Ask)
  -- the entities of tempids
  pub names : List (Name × ℕ)
  -- for each form: what it asks to add, to retract as triples, and to retract by what it finds, and
  -- what its additions imply
  pub added : List (List Datom)
  pub retracted : List (List Datom)
  pub swept : List (List Datom)
  pub replaced : List (List Datom)
  -- the changes, in order, without the instant of the transaction
  pub changes : List Datom
  -- the facts after them
  pub after : List Datom

-- an addition of what does not hold, or a retraction of what holds
abbrev pub is_change : List Datom → Datom → Bool
is_change ds d =
    if d.added then not (holds_after false ds d.e d.a d.v) else holds_after false ds d.e d.a d.v

abbrev pub changes_in : List Datom → List Datom → List Datom
changes_in ds asked = in_order Eavt (filter (is_change ds) asked)

abbrev pub with_changes : Db → List (List Ask) → List (Name × ℕ) → List (List Datom)
    → List (List Datom) → List (List Datom) → List (List Datom) → Transaction
with_changes db asks names added retracted swept replaced =
    let recorded =
    changes_in (said db.history)
    (joined added ++ joined retracted ++ joined swept ++ joined replaced) in
    record {
      db = db;
      asks = asks;
      names = names;
      added = added;
      retracted = retracted;
      swept = swept;
      replaced = replaced;
      changes = recorded;
      after = standing (said db.history ++ recorded);
    }

abbrev pub with_names : Db → List (List Ask) → List (Name × ℕ) → Transaction
with_names db asks names =
    let added = map (flat_map (additions db names)) asks in
    with_changes db asks names added
    (map (flat_map (retractions db names)) asks)
    (map (flat_map (sweeps db names)) asks)
    (map (implied db) added)

abbrev pub with_asks : Db → List (List Ask) → Transaction
with_asks db asks = with_names db asks (assigned db (joined asks))

-- the transaction of these forms at the history
abbrev pub transaction : List Entry → List Form → Transaction
transaction h fs = let db = db_of h in with_asks db (flat db.facts fs)

-- ---- transactions with the same forms

-- the same forms, each by what it asks, in whatever order and number
abbrev pub SameForms : List (List Ask) → List (List Ask) → Type 0
SameForms asks other = (form : List Ask) → Contains asks form ↔ Contains other form

-- in either order each tempid is the same entity
abbrev pub SameEntities : Db → List (List Ask) → List (List Ask) → Type 0
SameEntities db asks other =
    (name : Name)
    → assigned_to (assigned db (joined asks)) name ≡ assigned_to (assigned db (joined other)) name

-- ---- what is recorded

-- the instant of the transaction, among its changes
abbrev pub recorded : Transaction → ℤ → List Datom
recorded tx instant =
    let t = basis tx.db.history + 1 in
    in_order Eavt
    (record { e = transaction_of t; a = tx_instant; v = Instant instant; t = t; added = true }
    ∷ tx.changes)
