-- What a core stands for, and what the drafts and the newer trees are that it takes.
-- This project's own choice.
use Rattle.std.specs.Prelude.{◌≡◌, ◌≤◌, ℕ, ◌+◌, List, [], ◌∷◌, ◌++◌, length, fold}
use Rattle.fb_values.specs.declared.facts.Entry.{Entry}
use Rattle.fb_values.specs.Lists.{Lists}
use Rattle.fb_model.specs.FirstEntry.{first_entry}
use Rattle.fb_model.specs.History.{basis}
use Rattle.fb_model.specs.Lawful.{IsLawfulAfter}
use Rattle.fb_view.specs.SnapshotModel.{Stands}
use Rattle.fb_core.specs.declared.shared.CoreParts.{CoreParts}
use Rattle.fb_core.specs.declared.accepting.Draft.{Draft}
use Rattle.fb_core.specs.declared.adopting.Rebased.{Rebased}

-- the snapshot stands for its history,
-- and of its entries but the first one each has at most one author
pub record CoreStands (core : CoreParts) : Type 0 where
  pub snapshot : Stands core.snapshot
  pub authors : length core.authors ≤ basis core.snapshot.entries

-- how many datoms the live lists have together
abbrev pub live_datoms : Lists → ℕ
live_datoms live = length live.eavt + length live.aevt + length live.avet + length live.vaet

abbrev pub last_of : List Entry → Entry
last_of h = fold (λ _ entry. entry) first_entry h

-- the entry that the draft adds
abbrev pub entry_of : Draft → Entry
entry_of draft = last_of draft.after.entries

-- the core with one entry more, of the author's, over the same trees
pub record IsDraftOf (core : CoreParts) (author : ℕ) (draft : Draft) : Type 0 where
  pub next : IsLawfulAfter core.snapshot.entries (entry_of draft)
  pub entries : draft.after.entries ≡ core.snapshot.entries ++ entry_of draft ∷ []
  pub roots : draft.after.roots ≡ core.snapshot.roots
  pub covered : draft.after.covered ≡ core.snapshot.covered
  pub authors : draft.authors ≡ core.authors ++ author ∷ []
  pub stands : Stands draft.after

-- the core's history over other trees
pub record IsRebaseOf (core : CoreParts) (rebased : Rebased) : Type 0 where
  pub entries : rebased.snapshot.entries ≡ core.snapshot.entries
  pub stands : Stands rebased.snapshot
