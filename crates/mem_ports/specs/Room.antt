-- The record of a disk in memory and the room that it takes.
-- This project's own choice.
use Rattle.std.specs.Prelude.{◌+◌, ℕ, List, [], ◌∷◌, length}
use Rattle.disk_model.specs.Record.{Change, wrote, cut_to, synced}

-- what was done, the first of it first, and the bytes that the record has room for
pub record Kept : Type 0 where
  pub changes : List Change
  pub room : ℕ

-- each entry takes 24 bytes and those that it writes
abbrev pub entry_size : Change → ℕ
entry_size (wrote at piece) = 24 + length piece
entry_size (cut_to n) = 24
entry_size synced = 24

abbrev pub room_taken : List Change → ℕ
room_taken [] = 0
room_taken (change ∷ changes) = entry_size change + room_taken changes
