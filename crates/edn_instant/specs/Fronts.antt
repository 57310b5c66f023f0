-- What is at the front of an instant's text, part by part.
-- This project's own choice; the parts are those of RFC 3339.
use Rattle.std.specs.Prelude.{◌≡◌, ◌≢◌, ℕ, ◌+◌, ◌*◌, ◌<◌, ◌≤◌, ℤ, pos, List, ◌++◌}
use Rattle.jiff_core.specs.Calendar.{IsCivilDate}
use Rattle.edn_model.specs.Instants.{digits, minute_text, second_text, IsFraction, IsTime, IsOffset}

-- a text of this kind is here, up to rest
pub record Front (Kind : List ℕ → Type 0) (here rest : List ℕ) : Type 0 where
  pub text : List ℕ
  pub kind : Kind text
  pub is : here ≡ text ++ rest

abbrev pub NoFront : (List ℕ → Type 0) → List ℕ → Type 0
NoFront Kind here = (text rest : List ℕ) → Kind text → here ≢ text ++ rest

abbrev pub IsTwo : ℕ → List ℕ → Type 0
IsTwo n text = (n < 100) × (text ≡ digits 2 n)

abbrev pub IsFour : ℕ → List ℕ → Type 0
IsFour n text = (n < 10000) × (text ≡ digits 4 n)

-- a day that the calendar has, from the year 1 on
abbrev pub IsDay : ℕ → ℕ → ℕ → Type 0
IsDay year month day = (1 ≤ year) × IsCivilDate (pos year) month day

-- hh:mm, and its minutes
pub record IsClock (minutes : ℕ) (text : List ℕ) : Type 0 where
  pub hour : ℕ
  pub minute : ℕ
  pub exists : (hour < 24) × (minute < 60)
  pub shown : text ≡ minute_text hour minute
  pub is : minutes ≡ hour * 60 + minute

-- hh:mm:ss, and its seconds
pub record IsSeconds (seconds : ℕ) (text : List ℕ) : Type 0 where
  pub hour : ℕ
  pub minute : ℕ
  pub second : ℕ
  pub exists : (hour < 24) × (minute < 60) × (second < 60)
  pub shown : text ≡ second_text hour minute second
  pub is : seconds ≡ (hour * 60 + minute) * 60 + second

-- a fraction of a second and an offset, up to the end of the text
pub record IsEnding (millis : ℕ) (ahead : ℤ) (bytes : List ℕ) : Type 0 where
  pub fraction : List ℕ
  pub offset : List ℕ
  pub part : IsFraction millis fraction
  pub from_utc : IsOffset ahead offset
  pub is : bytes ≡ fraction ++ offset

-- a time of day and an offset, up to the end of the text
pub record IsTimeOf (millis : ℕ) (ahead : ℤ) (bytes : List ℕ) : Type 0 where
  pub time : List ℕ
  pub offset : List ℕ
  pub of_day : IsTime millis time
  pub from_utc : IsOffset ahead offset
  pub is : bytes ≡ time ++ offset
