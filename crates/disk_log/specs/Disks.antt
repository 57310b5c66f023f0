-- What became of the disk of a log since it was `begun`, the log having had entries
-- of t 1 to r then: what a crash leaves of it now, and what it might have left at any moment since.
-- This project's own choice.
use Rattle.std.specs.Prelude.{◌≡◌, ◌≤◌, ◌⊎◌, ℕ, List, [], ◌∷◌, ◌++◌, Option}
use Rattle.io_faults.specs.Faults.{Rose}
use Rattle.fb_values.specs.declared.facts.Entry.{Entry}
use Rattle.fb_model.specs.History.{basis, upto}
use Rattle.disk_model.specs.Disk.{IfKnown, LeavesOnly}
use Rattle.log_model.specs.Log.{IsLogOf}
use Rattle.fb_journal.specs.Journals.{StaysKnown}

-- the image is the log of the entries 0 to n of the history, for some n from r on
abbrev pub IsLogFrom : ℕ → List Entry → List ℕ → Type 0
IsLogFrom r h image = (n : ℕ) × (r ≤ n) × (n ≤ basis h) × IsLogOf image (upto h n)

-- The log kept this history: a crash leaves it, and at each earlier moment left a beginning of it.
pub record HasKept {D : Type 0} (bytes : D → Option (List ℕ)) (images : D → List ℕ → Type 0)
    (faults moment : D → ℕ) (since : D → ℕ → List ℕ → Type 0)
    (r : ℕ) (begun : D) (h : List Entry) (now : D) : Type 0 where
  pub unfailed : faults now ≡ faults begun
  pub known : StaysKnown (bytes begun) (bytes now)
  pub left : IfKnown (bytes begun) (λ _. (image : List ℕ) → images now image → IsLogOf image h)
  pub any_moment : IfKnown (bytes begun)
      (λ _. LeavesOnly moment since begun now (IsLogFrom r h))

-- It kept this history until it failed at this entry,
-- which a crash leaves as the last one, or does not leave.
pub record HasBroken {D : Type 0} (bytes : D → Option (List ℕ)) (images : D → List ℕ → Type 0)
    (faults moment : D → ℕ) (since : D → ℕ → List ℕ → Type 0)
    (r : ℕ) (begun : D) (h : List Entry) (entry : Entry) (now : D) : Type 0 where
  pub failed : Rose (faults begun) (faults now)
  pub left : IfKnown (bytes begun)
      (λ _. (image : List ℕ) → images now image → IsLogOf image h ⊎ IsLogOf image (h ++ entry ∷ []))
  pub any_moment : IfKnown (bytes begun)
      (λ _. LeavesOnly moment since begun now (IsLogFrom r (h ++ entry ∷ [])))
