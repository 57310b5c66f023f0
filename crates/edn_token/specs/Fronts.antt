-- Runs of characters at the front of some bytes.
-- This project's own choice.
use Rattle.std.specs.Prelude.{◌≡◌, ℕ, ◌<◌, Bool, if◌then◌else◌, IsUtf8, List, ◌++◌, length, take}
use Rattle.std.specs.Prelude.{drop}
use Rattle.edn_model.specs.Bytes.{Each, is_token_byte, begins_no_token, TokenEnds, NoCharacter}

-- characters whose bytes pass a test, and the bytes after them
pub record RunAt (test : ℕ → Bool) (here run rest : List ℕ) : Type 0 where
  pub is : here ≡ run ++ rest
  pub each : Each test run
  pub utf8 : IsUtf8 run

-- characters that may be a token, and where it ends
pub record TokenFront (here token rest : List ℕ) : Type 0 where
  pub run : RunAt is_token_byte here token rest
  pub ends : TokenEnds rest

-- after so many bytes of a run comes one with which no character begins
pub record BrokenRun (test : ℕ → Bool) (here : List ℕ) (n : ℕ) : Type 0 where
  pub inside : n < length here
  pub run : RunAt test here (take n here) (drop n here)
  pub none : NoCharacter (drop n here)

-- the first fault of a run up to where a token ends, some of whose bytes are no characters:
-- its first byte where no token begins with it, else the first byte with which no character begins
pub record BrokenToken (here : List ℕ) (place : ℕ) : Type 0 where
  pub at : ℕ
  pub broken : BrokenRun is_token_byte here at
  pub is : place ≡ (if begins_no_token here then 0 else at)
