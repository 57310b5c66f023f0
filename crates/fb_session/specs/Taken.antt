-- What was taken from a source, and why it was not read to its end.
-- This project's own choice.
use Rattle.std.specs.Prelude.{◌≡◌, ℕ, ◌≤◌, ◌<◌, List, length, Option}
use Rattle.std.specs.Io.KnownBytes.{prepend_known, IsAtEnd}
use Rattle.fb_ports.specs.Faults.{Rose}
use Rattle.fb_session.specs.declared.reading.ReadStop.{ReadStop}
use Rattle.fb_session.specs.declared.reading.ReadStop.TheVariants.{TooLong, Fault, Memory}

-- the length in bytes of the longest script
abbrev pub longest_script : ℕ
longest_script = 67108864

-- all that a source had left, and not too much
pub record TakesAll (bytes : List ℕ) (old new : Option (List ℕ)) : Type 0 where
  pub taken : old ≡ prepend_known bytes new
  pub all : IsAtEnd new
  pub fits : length bytes ≤ longest_script

-- more than the longest script where it is too long, and otherwise no more
abbrev pub StopsAfter : ReadStop → ℕ → Type 0
StopsAfter TooLong n = longest_script < n
StopsAfter Fault n = n ≤ longest_script
StopsAfter Memory n = n ≤ longest_script

-- some of it
pub record TakesSome (stop : ReadStop) (old new : Option (List ℕ)) : Type 0 where
  pub bytes : List ℕ
  pub taken : old ≡ prepend_known bytes new
  pub stopped : StopsAfter stop (length bytes)

-- how the source's count of faults moved
abbrev pub CountsStop : ReadStop → ℕ → ℕ → Type 0
CountsStop TooLong old new = new ≡ old
CountsStop Fault old new = Rose old new
CountsStop Memory old new = new ≡ old
