-- Fronts: the first bytes of a payload, and when they tell what the whole payload says.
-- This project's own choice.
use Rattle.std.specs.Prelude.{ℕ, ◌+◌, ◌-◌, Bool, ◌&&◌, ◌||◌, List, length, take, drop, nat_le, nat_lt}
use Rattle.log_model.specs.Fields.{number_in}

-- the field that begins at this byte ends within the front: a number has at most 16 bytes, and a
-- text has as many as the four bytes before it say
abbrev pub has_whole_field : List ℕ → ℕ → Bool
has_whole_field front at =
    nat_le (at + 16) (length front)
    && (nat_lt at 4 || nat_le (at + number_in (take 4 (drop (at - 4) front))) (length front))
