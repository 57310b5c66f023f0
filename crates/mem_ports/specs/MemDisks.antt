-- A disk in memory.
-- This project's own choice.
use Rattle.std.specs.Prelude.{◌||◌, ◌+◌, ℕ, Bool, List, length, nat_lt, Option, Some}
use Rattle.mem_ports.specs.Calls.{Calls, fails_next}
use Rattle.disk_model.specs.Record.{Change, replayed, MayLeave, MayHaveLeft}
use Rattle.mem_ports.specs.Room.{room_taken}

-- the bytes as its record began,
-- all of them on the disk, and what was done since, the first of it first
pub record Past : Type 0 where
  pub first : List ℕ
  pub changes : List Change
  pub room : ℕ
  pub calls : Calls

-- what a read gives
abbrev pub file_of : Past → List ℕ
file_of d = replayed d.changes d.first

-- its bytes, which are known
abbrev pub known_bytes : Past → Option (List ℕ)
known_bytes d = Some (file_of d)

-- what a crash now may leave
abbrev pub images_of : Past → List ℕ → Type 0
images_of d = MayLeave d.first d.changes

-- how much was done
abbrev pub moment_of : Past → ℕ
moment_of d = length d.changes

-- what a crash since then might have left
abbrev pub images_since_of : Past → ℕ → List ℕ → Type 0
images_since_of d = MayHaveLeft d.first d.changes

-- whether the record has no room for one more entry that writes n bytes
abbrev pub is_full : Past → ℕ → Bool
is_full d n = nat_lt d.room (room_taken d.changes + 24 + n)

-- whether a write of n bytes at this place fails:
-- it is made to, it would end past the room, or the record is full
abbrev pub fails_write : Past → ℕ → ℕ → Bool
fails_write d at n = fails_next d.calls || (nat_lt d.room (at + n) || is_full d n)

-- whether a cut or a sync fails: it is made to, or the record is full
abbrev pub fails_change : Past → Bool
fails_change d = fails_next d.calls || is_full d 0
