-- The trees that the worker makes and starts from, and when it has to merge, or cannot.
-- This project's own choice.
use Rattle.std.specs.Prelude.{◌≡◌, ◌⊎◌, ◌<◌, ◌+◌, ◌^◌, ℕ, Bool, List, Option, None, Some, IfSome}
use Rattle.std.specs.Prelude.{IsTrue, max, nat_le}
use Rattle.fb_values.specs.declared.facts.Entry.{Entry}
use Rattle.seg_tree.specs.Ids.{next_above}
use Rattle.seg_tree.specs.Indexes.{root_ids}
use Rattle.fb_view.specs.SnapshotModel.{SnapshotModel}
use Rattle.fb_core.specs.Cores.{live_datoms}
use Rattle.board_rule.specs.declared.view.Code.{Code}
use Rattle.board_rule.specs.declared.view.View.{View}
use Rattle.fb_roots.specs.declared.bases.Base.{Base}
use Rattle.fb_roots.specs.Bases.{IsBaseOf}

-- trees of the old history's first entries are of the new one's too
abbrev pub AreStill : List Entry → List Entry → Type 0
AreStill old new = (trees : Base) (c : ℕ) → IsBaseOf trees old c → IsBaseOf trees new c

-- the trees are those from before, or the store has them
abbrev pub IsOldOrKept : {S : Type 0} → (Base → S → Type 0) → Base → S → Base → Type 0
IsOldOrKept keeps old store new = (new ≡ old) ⊎ keeps new store

-- ---- trees that are not adopted

-- if there are any, they are of the history's entries up to their c
abbrev pub AreAhead : Option Base → List Entry → Type 0
AreAhead ahead h = IfSome ahead (λ trees. IsBaseOf trees h trees.c)

-- the trees are those from before, or the store has them
abbrev pub AreOldOrKept : {S : Type 0} → (Base → S → Type 0) → Option Base → S → Option Base
    → Type 0
AreOldOrKept keeps old store new = (new ≡ old) ⊎ IfSome new (λ trees. keeps trees store)

-- the trees from which the next merge starts: those that are not adopted, if there are any
abbrev pub start_of : Base → Option Base → Base
start_of base None = base
start_of base (Some ahead) = ahead

-- ---- merges

-- the number of the first new node: neither the store nor the older trees have it, or a greater one
abbrev pub first_id : ℕ → Base → ℕ
first_id next start = max next (next_above (root_ids start.roots))

-- so many of its datoms are live that they are to be merged
abbrev pub is_due : ℕ → SnapshotModel → Bool
is_due merge_at snapshot = nat_le merge_at (live_datoms snapshot.live)

-- the first new node of a merge would have too great a number
abbrev pub IsOutOfIds : ℕ → Base → Type 0
IsOutOfIds next start = 2 ^ 61 < first_id next start

-- a round takes two turns at least of the 4,294,967,296 that a seat has
abbrev pub IsOutOfTurns : View Code → Type 0
IsOutOfTurns v = 4294967296 < v.draws + 2

-- there are no turns for a round, or no numbers for the merge that is due
abbrev pub IsSpent : ℕ → View Code → SnapshotModel → ℕ → Base → Type 0
IsSpent merge_at v last next start =
    IsOutOfTurns v ⊎ (IsTrue (is_due merge_at last) × IsOutOfIds next start)

-- the seat was opened with the same board, and has the same sessions beside it
abbrev pub IsSameWorker : View Code → View Code → Type 0
IsSameWorker v w = (w.given ≡ v.given) × (w.start ≡ v.start)
