-- A journal that is read record by record.
-- This project's own choice.
use Rattle.std.specs.Prelude.{◌≡◌, ◌⊎◌, ◌≤◌, ◌<◌, ◌+◌, ◌-◌, ◌++◌, ℕ, List, length, take, drop, Option}
use Rattle.std.specs.Prelude.{Some, ⊤}
use Rattle.disk_model.specs.Disk.{Only, IfKnown, LeavesOnly}
use Rattle.disk_model.specs.Journal.{new_journal, opened, HaveLengths, Holds, JournalStands}
use Rattle.disk_model.specs.Journal.{JournalBreaks}
use Rattle.fb_journal.specs.Marks.{mark_bytes}
use Rattle.fb_journal.specs.Windows.{Shows}
use Rattle.fb_journal.specs.Gates.{IsAheadAt}
use Rattle.fb_journal.specs.declared.gates.Ahead.TheVariants.{Record}
use Rattle.fb_journal.specs.declared.readings.Next.{Next}
use Rattle.fb_journal.specs.declared.readings.Reading.{Reading}
use Rattle.fb_journal.specs.declared.starts.StartFault.{StartFault}
use Rattle.fb_journal.specs.declared.starts.StartFault.TheVariants.{Disk, BadLog, Memory}

-- the disk that it reads from
abbrev pub disk_from : {D : Type 0} {g : _} → Reading D g → D
disk_from r = r.disk

-- how many bytes there are after the records that were read
abbrev pub left_in : {D : Type 0} {g : _} → Reading D g → ℕ
left_in r = r.window.len - r.gate

-- a file of at most sixteen bytes is a new journal now, and any other is as it was
abbrev pub IsBegun : List ℕ → List ℕ → List ℕ → Type 0
IsBegun mark was now =
    ((length was ≤ 16) × (now ≡ new_journal mark)) ⊎ ((16 < length was) × (now ≡ was))

-- a crash since the disk was that one leaves an image from then,
-- or a new journal where the file was one
abbrev pub LeavesBegun : {D : Type 0} → (D → Option (List ℕ)) → (D → List ℕ → Type 0) → (D → ℕ)
    → (D → ℕ → List ℕ → Type 0) → D → D → Type 0
LeavesBegun bytes images moment since disk now = IfKnown (bytes disk) (λ file.
    LeavesOnly moment since disk now
    (λ image. images disk image ⊎ ((length file ≤ 16) × (length image ≤ 16))))

-- The journal of this disk was opened, and these records of it were read. Where the disk's
-- bytes are known, they are the first of its file, and a crash leaves nothing else than the file.
pub record HasRead {D : Type 0} {g : _} (bytes : D → Option (List ℕ)) (images : D → List ℕ → Type 0)
    (moment : D → ℕ) (since : D → ℕ → List ℕ → Type 0) (mark : List ℕ) (disk : D)
    (records : List (List ℕ)) (r : Reading D g) : Type 0 where
  pub marked : mark_bytes r.mark ≡ mark
  pub count : r.records ≡ length records
  pub gate : r.gate ≡ length mark + length (opened records)
  pub lengths : HaveLengths records
  pub begun : IfKnown (bytes disk)
      (λ was. (now : List ℕ) × (bytes r.disk ≡ Some now) × IsBegun mark was now)
  pub file : IfKnown (bytes r.disk) (λ file. (take r.gate file ≡ mark ++ opened records)
      × Shows file r.window × Only file (images r.disk))
  pub any_moment : LeavesBegun bytes images moment since disk r.disk

-- They are all that the file stands for.
-- What a crash meanwhile leaves stands for them too, or is an image from before.
pub record HasReadAll {D : Type 0} {g : _} (bytes : D → Option (List ℕ))
    (images : D → List ℕ → Type 0)
    (moment : D → ℕ) (since : D → ℕ → List ℕ → Type 0) (mark : List ℕ) (disk : D)
    (records : List (List ℕ)) (r : Reading D g) : Type 0 where
  pub read : HasRead bytes images moment since mark disk records r
  pub stands : IfKnown (bytes disk) (λ file. JournalStands mark records file)
  pub closed : IfKnown (bytes r.disk) (λ file. Holds mark records file)
  pub any_moment : IfKnown (bytes disk) (λ _. LeavesOnly moment since disk r.disk
      (λ image. images disk image ⊎ JournalStands mark records image))

-- the file's first fault, after these records, where it is one of the file
abbrev pub IsFirstFault : List ℕ → Option (List ℕ) → List (List ℕ) → StartFault → Type 0
IsFirstFault mark known records (BadLog nth at) =
    IfKnown known (λ file. JournalBreaks mark records file nth at)
IsFirstFault mark known records Disk = ⊤
IsFirstFault mark known records Memory = ⊤

-- There is room for this record where the next one lies, and for the front in its payload.
pub record HasPlace {D : Type 0} {g : _} (r : Reading D g) (next : Next) (front : List ℕ) : Type 0 where
  pub place : next.place.at ≡ r.gate + 9
  pub room : next.place.at + next.len < r.window.len
  pub within : length front ≤ next.len

-- this record comes next in the file, and its payload begins with the front
abbrev pub IsFront : {D : Type 0} {g : _} → (D → Option (List ℕ)) → Reading D g → Next → List ℕ
    → Type 0
IsFront bytes r next front = IfKnown (bytes r.disk) (λ file.
    IsAheadAt file r.gate (Record next.len)
    × (front ≡ take (length front) (drop next.place.at file)))

-- no record of more than n bytes comes next in the file
abbrev pub HasNoLonger : {D : Type 0} {g : _} → (D → Option (List ℕ)) → Reading D g → ℕ → Type 0
HasNoLonger bytes r n = IfKnown (bytes r.disk) (λ file. (len : ℕ)
    → IsAheadAt file r.gate (Record len)
    → len ≤ n)
