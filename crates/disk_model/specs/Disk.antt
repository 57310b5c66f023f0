-- What the calls of a disk do to what a read gives, and to the images that a crash may leave.
-- This project's own choice.
use Rattle.std.specs.Prelude.{◌≡◌, ◌⊎◌, ◌<◌, ◌≤◌, ◌+◌, ◌-◌, ℕ, List, ◌++◌, length, take, drop}
use Rattle.std.specs.Prelude.{replicate, min, max, Option, Some}

-- A write puts its bytes at this place, over what is there and past the end.
-- A gap after the old end reads as zeros.
abbrev pub written : ℕ → List ℕ → List ℕ → List ℕ
written at piece file =
    take at file ++ replicate (at - length file) 0 ++ piece ++ drop (at + length piece) file

-- What a crash may make of an image while n bytes are written at this place, and until a sync:
-- any bytes in the written range and past the old end,
-- some length between, and every other byte as it was.
pub record Torn (at n : ℕ) (old new : List ℕ) : Type 0 where
  pub before : take (min at (length old)) new ≡ take at old
  pub behind : drop (at + n) new ≡ drop (at + n) old
  pub no_shorter : length old ≤ length new
  pub no_longer : length new ≤ max (length old) (at + n)

-- The same of a cut to n bytes:
-- any bytes in the range that was cut off, some length between, and every other byte as it was.
pub record TornCut (n : ℕ) (old new : List ℕ) : Type 0 where
  pub before : take n new ≡ take n old
  pub no_shorter : min n (length old) ≤ length new
  pub no_longer : length new ≤ length old

-- each image afterwards is one from before, after such a step
abbrev pub Follows : (List ℕ → List ℕ → Type 0) → (List ℕ → Type 0) → (List ℕ → Type 0) → Type 0
Follows step old new = (image : List ℕ) → new image → (from : List ℕ) × old from × step from image

-- each image afterwards is one from before
abbrev pub Within : (List ℕ → Type 0) → (List ℕ → Type 0) → Type 0
Within old new = (image : List ℕ) → new image → old image

-- a crash leaves this and nothing else
abbrev pub Only : List ℕ → (List ℕ → Type 0) → Type 0
Only file images = (image : List ℕ) → images image → image ≡ file

-- where the bytes of a disk are known, this holds of them
abbrev pub IfKnown : Option (List ℕ) → (List ℕ → Type 0) → Type 0
IfKnown known P = (file : List ℕ) → known ≡ Some file → P file

-- A read at this place, with room for so many bytes, placed so many:
-- bytes of the file from there on, and at least one where there is one and room for it.
pub record Reads (file : List ℕ) (at room count : ℕ) (placed : List ℕ) : Type 0 where
  pub within : count ≤ length (drop at file)
  pub bytes : placed ≡ take count (drop at file)
  pub some : 0 < room → at < length file → 0 < count

-- Time goes on over a call: a crash since a moment before it leaves what a crash
-- since then could leave before the call, or what a crash may leave after it.
pub record Elapses (before now : ℕ) (past since : ℕ → List ℕ → Type 0) (images : List ℕ → Type 0)
    : Type 0 where
  pub later : before ≤ now
  pub nothing_else : (t : ℕ) (image : List ℕ) → t ≤ before → since t image
      → past t image ⊎ images image
  pub keeps : (t : ℕ) (image : List ℕ) → t ≤ before → past t image → since t image

-- Over any number of calls: a crash at any moment since the old state leaves an image that has P.
pub record LeavesOnly {D : Type 0} (moment : D → ℕ) (since : D → ℕ → List ℕ → Type 0) (old new : D)
    (P : List ℕ → Type 0) : Type 0 where
  pub later : moment old ≤ moment new
  pub each : (image : List ℕ) → since new (moment old) image → P image
  -- for a run that began earlier
  pub before : (t : ℕ) (image : List ℕ) → t ≤ moment old → since new t image
      → since old t image ⊎ P image
