-- A disk as the record of what was done to it:
-- what a read gives, and which images a crash may leave.
-- This project's own choice.
use Rattle.std.specs.Prelude.{◌≡◌, ◌≤◌, ℕ, List, [], ◌∷◌, length, take}
use Rattle.disk_model.specs.Disk.{written, Torn, TornCut}

-- a write at a place, a cut to a length, and a sync
pub data Change : Type 0 where
  wrote : ℕ → List ℕ → Change
  cut_to : ℕ → Change
  synced : Change

-- what a read gives after a change
abbrev pub changed : Change → List ℕ → List ℕ
changed (wrote at piece) file = written at piece file
changed (cut_to n) file = take n file
changed synced file = file

-- what a read gives after all of these changes, the first of them first
abbrev pub replayed : List Change → List ℕ → List ℕ
replayed [] file = file
replayed (change ∷ changes) file = replayed changes (changed change file)

-- What a crash may make of an image in a change and after it, where a read gave this file before:
-- until a sync the range of a write or a cut may hold anything,
-- and a sync leaves what a read gives.
abbrev pub MayMake : Change → List ℕ → List ℕ → List ℕ → Type 0
MayMake (wrote at piece) file old new = Torn at (length piece) old new
MayMake (cut_to n) file old new = TornCut n old new
MayMake synced file old new = new ≡ file

-- What a crash after these changes may make of an image.
abbrev pub MayLeaveFrom : List Change → List ℕ → List ℕ → List ℕ → Type 0
MayLeaveFrom [] file from image = image ≡ from
MayLeaveFrom (change ∷ changes) file from image =
    (next : List ℕ)
    × MayMake change file from next
    × MayLeaveFrom changes (changed change file) next image

-- What a crash after these changes may leave of a file that was on the disk before them.
abbrev pub MayLeave : List ℕ → List Change → List ℕ → Type 0
MayLeave file changes image = MayLeaveFrom changes file file image

-- What a crash may have left at some moment since there were so many changes.
abbrev pub MayHaveLeft : List ℕ → List Change → ℕ → List ℕ → Type 0
MayHaveLeft file changes since image =
    (moment : ℕ)
    × (since ≤ moment)
    × (moment ≤ length changes)
    × MayLeave file (take moment changes) image
