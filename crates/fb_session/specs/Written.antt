-- What a line leaves in a sink that did not take it whole.
-- This project's own choice.
use Rattle.std.specs.Prelude.{◌≡◌, ℕ, ◌<◌, List, ◌++◌, length, Option}
use Rattle.std.specs.Io.KnownBytes.{append_known}

-- a prefix of the line, short of its whole
pub record TakesPart (line : List ℕ) (old new : Option (List ℕ)) : Type 0 where
  pub out : List ℕ
  pub kept : List ℕ
  pub parts : line ≡ out ++ kept
  pub short : 0 < length kept
  pub taken : new ≡ append_known old out
