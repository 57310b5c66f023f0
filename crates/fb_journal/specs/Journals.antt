-- A journal and the records on its disk.
-- This project's own choice.
use Rattle.std.specs.Prelude.{◌≡◌, ◌⊎◌, ◌+◌, ℕ, List, [], ◌∷◌, ◌++◌, length, Option, None, Some}
use Rattle.disk_model.specs.Disk.{Only, IfKnown}
use Rattle.disk_model.specs.Journal.{opened, Holds, JournalStands}
use Rattle.fb_journal.specs.Marks.{mark_bytes}
use Rattle.fb_journal.specs.declared.journals.Journal.{Journal}

-- the disk that it writes to
abbrev pub disk_of : {D : Type 0} {g : _} → Journal D g → D
disk_of j = j.disk

-- its first bytes
abbrev pub mark_of : {D : Type 0} {g : _} → Journal D g → List ℕ
mark_of j = mark_bytes j.mark

-- the record at which it stopped
abbrev pub stop_of : {D : Type 0} {g : _} → Journal D g → Option ℕ
stop_of j = j.stopped

-- how many records it has
abbrev pub count_of : {D : Type 0} {g : _} → Journal D g → ℕ
count_of j = j.records

-- The journal goes on and has these records. Where the bytes of its disk are known,
-- the records are in the file, and a crash leaves nothing else.
pub record Keeps {D : Type 0} {g : _} (bytes : D → Option (List ℕ)) (images : D → List ℕ → Type 0)
    (records : List (List ℕ)) (j : Journal D g) : Type 0 where
  pub goes_on : j.stopped ≡ None
  pub count : j.records ≡ length records
  pub gate : j.gate ≡ length (mark_bytes j.mark) + length (opened records)
  pub file : IfKnown (bytes j.disk)
      (λ file. Holds (mark_bytes j.mark) records file × Only file (images j.disk))

-- a file stands for these records, or for them with one more
abbrev pub IsBeforeOrAfter : List ℕ → List (List ℕ) → List ℕ → List ℕ → Type 0
IsBeforeOrAfter mark records payload image =
    JournalStands mark records image ⊎ JournalStands mark (records ++ payload ∷ []) image

-- a disk whose bytes were known has known bytes still
abbrev pub StaysKnown : Option (List ℕ) → Option (List ℕ) → Type 0
StaysKnown old new = (file : List ℕ) → old ≡ Some file → (later : List ℕ) × (new ≡ Some later)
