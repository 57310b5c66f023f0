-- What a call writes after the bytes that were there.
-- This project's own choice.
use Rattle.std.specs.Prelude.{◌≡◌, ℕ, ◌/◌, ◌%◌, ◌==◌, ◌&&◌, not, Bool, if◌then◌else◌, List, [], ◌∷◌}
use Rattle.std.specs.Prelude.{◌++◌}
use Rattle.std.specs.Io.{StartsWith}
use Rattle.edn_model.specs.Bytes.{tab, line_feed, carriage_return, space, quote, point, backslash}
use Rattle.edn_model.specs.Instants.{digits, second_text}

-- the new bytes are the old ones with such a text after them
pub record Appends (IsSuch : List ℕ → Type 0) (old new : List ℕ) : Type 0 where
  pub text : List ℕ
  pub is : IsSuch text
  pub behind : new ≡ old ++ text

-- the members' texts between their brackets
pub record Encloses (opening : List ℕ) (closing : ℕ) (IsInside : List ℕ → Type 0) (bytes : List ℕ)
    : Type 0 where
  pub inside : List ℕ
  pub is : IsInside inside
  pub text : bytes ≡ opening ++ (inside ++ closing ∷ [])

-- is itself in a printed string
abbrev pub is_unescaped : ℕ → Bool
is_unescaped b =
    not (b == tab)
    && not (b == line_feed)
    && not (b == carriage_return)
    && not (b == quote)
    && not (b == backslash)

-- a space comes before each member but the first
abbrev pub space_before : ℕ → List ℕ
space_before index = if index == 0 then [] else space ∷ []

-- a time of day with three digits of its second's fraction, from the milliseconds since midnight
abbrev pub clock_text : ℕ → List ℕ
clock_text millis =
    let seconds = millis / 1000 in
    let minutes = seconds / 60 in
    second_text (minutes / 60) (minutes % 60) (seconds % 60) ++ point ∷ digits 3 (millis % 1000)

-- what the old bytes begin with, the new ones begin with too
abbrev pub KeepsFront : List ℕ → List ℕ → Type 0
KeepsFront old new = (front : List ℕ) → StartsWith old front → StartsWith new front
