-- Worked examples of the counts, each closed by computation.
-- This project's own choice.
use Rattle.std.specs.Prelude.{◌≡◌, ◌-◌, ◌^◌, refl}
use Rattle.io_faults.specs.Faults.{raised}

-- a count rises by one, but for its last value
pub raised-seven : raised 7 ≡ 8
raised-seven = refl

pub raised-last : raised (2 ^ 64 - 1) ≡ 2 ^ 64 - 1
raised-last = refl
