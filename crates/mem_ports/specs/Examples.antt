-- Worked examples of the objects in memory, each closed by computation.
-- This project's own choice.
use Rattle.std.specs.Prelude.{◌≡◌, [], ◌∷◌, ℕ, List, true, false, refl}
use Rattle.mem_ports.specs.Calls.{no_calls, fails_next, after_call, after_fault}
use Rattle.mem_ports.specs.InMemory.{Store, fails_write}

-- a sink with room for two bytes
abbrev pub small_sink : List ℕ → Store
small_sink bytes = record { bytes = bytes; room = 2; calls = no_calls [] }

-- it takes a part of a piece that does not fit, and fails where not one byte fits
pub fails_write-partly_full : fails_write (small_sink (7 ∷ [])) 5 ≡ false
fails_write-partly_full = refl

pub fails_write-full : fails_write (small_sink (7 ∷ 8 ∷ [])) 1 ≡ true
fails_write-full = refl

-- nothing always fits
pub fails_write-nothing : fails_write (small_sink (7 ∷ 8 ∷ [])) 0 ≡ false
fails_write-nothing = refl

-- of the calls 1, 2 and 3 the first and the third are made to fail
pub fails_next-first : fails_next (no_calls (1 ∷ 3 ∷ [])) ≡ true
fails_next-first = refl

pub fails_next-second : fails_next (after_fault (no_calls (1 ∷ 3 ∷ []))) ≡ false
fails_next-second = refl

pub fails_next-third : fails_next (after_call (after_fault (no_calls (1 ∷ 3 ∷ [])))) ≡ true
fails_next-third = refl
