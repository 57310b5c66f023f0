-- The payload in the bytes of a record.
-- This project's own choice.
use Rattle.std.specs.Prelude.{◌-◌, ℕ, List, length, take, drop}

-- what lies between the length in front and the gate after
abbrev pub payload_in : List ℕ → List ℕ
payload_in bytes = take (length bytes - 9) (drop 8 bytes)
