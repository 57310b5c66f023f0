-- How often who waits for a turn looks before it sleeps.
-- This project's own choice.
use Rattle.std.specs.Prelude.{ℕ, nat_lt, if◌then◌else◌}

-- the rounds of looks, by how many threads can run at once
abbrev pub rounds_on : ℕ → ℕ
rounds_on processors = if nat_lt processors 2 then 1 else 16
