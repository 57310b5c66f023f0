-- How much a seek may cost.
-- This project's own choice.
use Rattle.std.specs.Prelude.{ℕ, ◌+◌, ◌/◌}

-- how many blocks of 256 datoms a list of a length would have
abbrev pub blocks_at_least : ℕ → ℕ
blocks_at_least len = (len + 255) / 256
