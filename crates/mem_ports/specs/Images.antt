-- The image of a disk in memory in which the writes since the last sync are cut short.
-- This project's own choice.
use Rattle.std.specs.Prelude.{◌+◌, ◌-◌, ℕ, List, [], ◌∷◌, ◌++◌, length, take, replicate, min}
use Rattle.std.specs.Prelude.{slice_get}
use Rattle.std.specs.Option.{option_map_or}
use Rattle.disk_model.specs.Disk.{written}
use Rattle.disk_model.specs.Record.{Change, wrote, cut_to, synced}

-- how much of the n-th write is kept: as much as its number says, and all of it without a number
abbrev pub kept_of : List ℕ → ℕ → ℕ → ℕ
kept_of cuts n len = option_map_or (λ kept. min len kept) (slice_get cuts n) len

-- the front of a piece, and then zeros
abbrev pub torn_to : ℕ → List ℕ → List ℕ
torn_to kept piece = take kept piece ++ replicate (length piece - kept) 0

-- What these changes make of an image, n writes after the last sync:
-- a write is cut short, and a sync leaves what a read gives.
abbrev pub image_from : List ℕ → ℕ → List Change → List ℕ → List ℕ → List ℕ
image_from cuts n [] file image = image
image_from cuts n (wrote at piece ∷ changes) file image =
    image_from cuts (n + 1) changes (written at piece file)
    (written at (torn_to (kept_of cuts n (length piece)) piece) image)
image_from cuts n (cut_to len ∷ changes) file image =
    image_from cuts n changes (take len file) (take len image)
image_from cuts n (synced ∷ changes) file image = image_from cuts 0 changes file file
