-- What a source and a sink in memory hold.
-- This project's own choice.
use Rattle.std.specs.Prelude.{◌||◌, ◌&&◌, ℕ, Bool, List, length, nat_lt, nat_le}
use Rattle.mem_ports.specs.Calls.{Calls, fails_next}

-- the bytes still to be read
pub record Supply : Type 0 where
  pub left : List ℕ
  pub calls : Calls

-- the bytes that were taken, and how many there may be
pub record Store : Type 0 where
  pub bytes : List ℕ
  pub room : ℕ
  pub calls : Calls

-- whether a write of a piece of n bytes fails: it is made to, or no room is left for its first byte
abbrev pub fails_write : Store → ℕ → Bool
fails_write s n = fails_next s.calls || (nat_lt 0 n && nat_le s.room (length s.bytes))
