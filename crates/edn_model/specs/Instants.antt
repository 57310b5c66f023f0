-- Which text is which instant. A day has the number that `jiff`'s calendar gives it.
-- EDN, edn-format: "#inst"; the texts are those of RFC 3339,
-- of which the time, its fraction and its offset may be left out.
use Rattle.std.specs.Prelude.{◌≡◌, ℕ, zero, suc, ◌+◌, ◌*◌, ◌/◌, ◌%◌, ◌^◌, ◌<◌, ◌≤◌, ℤ, pos, negsuc}
use Rattle.std.specs.Prelude.{neg_ℤ, ◌+ℤ◌, ◌-ℤ◌, ◌*ℤ◌, int_le, Bool, ◌&&◌, IsTrue, List, [], ◌∷◌}
use Rattle.std.specs.Prelude.{◌++◌, length, codes}
use Rattle.std.specs.Str.{byte}
use Rattle.jiff_core.specs.Calendar.{IsCivilDate, days_from_civil}
use Rattle.edn_model.specs.Bytes.{plus, minus, point, colon, is_digit, Each}
use Rattle.edn_model.specs.Tokens.{number}

-- the lowest digits of a number, this many of them
abbrev pub digits : ℕ → ℕ → List ℕ
digits zero n = []
digits (suc count) n = digits count (n / 10) ++ (byte "0" + n % 10) ∷ []

-- ---- dates

abbrev pub date_text : ℕ → ℕ → ℕ → List ℕ
date_text year month day = digits 4 year ++ minus ∷ (digits 2 month ++ minus ∷ digits 2 day)

-- a date from the year 1 to the year 9999, and its day number
pub record IsDate (day_number : ℤ) (bytes : List ℕ) : Type 0 where
  pub year : ℕ
  pub month : ℕ
  pub day : ℕ
  pub later : 1 ≤ year
  pub exists : IsCivilDate (pos year) month day
  pub text : bytes ≡ date_text year month day
  pub is : day_number ≡ days_from_civil (pos year) month day

-- ---- times

abbrev pub minute_text : ℕ → ℕ → List ℕ
minute_text hour minute = digits 2 hour ++ colon ∷ digits 2 minute

abbrev pub second_text : ℕ → ℕ → ℕ → List ℕ
second_text hour minute second = minute_text hour minute ++ colon ∷ digits 2 second

-- the milliseconds of a fraction of a second: its digits past the third are dropped
pub data IsFraction : ℕ → List ℕ → Type 0 where
  whole : {millis : ℕ} {bytes : List ℕ} → bytes ≡ [] → millis ≡ 0 → IsFraction millis bytes
  part : {millis : ℕ} {bytes digits : List ℕ} → bytes ≡ point ∷ digits → Each is_digit digits
      → (1 ≤ length digits) × (length digits ≤ 9)
      → millis ≡ number digits * 1000 / 10 ^ length digits → IsFraction millis bytes

-- a time of day, and its milliseconds from midnight
pub record IsTime (millis : ℕ) (bytes : List ℕ) : Type 0 where
  pub hour : ℕ
  pub minute : ℕ
  pub second : ℕ
  pub fraction : ℕ
  pub ending : List ℕ
  pub exists : (hour < 24) × (minute < 60) × (second < 60)
  pub part : IsFraction fraction ending
  pub text : bytes ≡ second_text hour minute second ++ ending
  pub is : millis ≡ ((hour * 60 + minute) * 60 + second) * 1000 + fraction

-- how many minutes a clock is ahead of UTC
pub data IsOffset : ℤ → List ℕ → Type 0 where
  unsaid : {ahead : ℤ} {bytes : List ℕ} → bytes ≡ [] → ahead ≡ pos 0 → IsOffset ahead bytes
  utc : {ahead : ℤ} {bytes : List ℕ} → bytes ≡ codes "Z" → ahead ≡ pos 0 → IsOffset ahead bytes
  east : {ahead : ℤ} {bytes : List ℕ} → (hours minutes : ℕ)
      → bytes ≡ plus ∷ minute_text hours minutes → (hours < 24) × (minutes < 60)
      → ahead ≡ pos (hours * 60 + minutes) → IsOffset ahead bytes
  west : {ahead : ℤ} {bytes : List ℕ} → (hours minutes : ℕ)
      → bytes ≡ minus ∷ minute_text hours minutes → (hours < 24) × (minutes < 60)
      → ahead ≡ neg_ℤ (pos (hours * 60 + minutes)) → IsOffset ahead bytes

-- ---- instants

-- from 0001-01-01T00:00:00.000Z to 9999-12-31T23:59:59.999Z,
-- in milliseconds from 1970-01-01T00:00:00Z
abbrev pub in_range : ℤ → Bool
in_range z = int_le (negsuc 62135596799999) z && int_le z (pos 253402300799999)

abbrev pub instant_of : ℤ → ℕ → ℤ → ℤ
instant_of day millis offset = (day *ℤ pos 86400000 +ℤ pos millis) -ℤ offset *ℤ pos 60000

-- a date, and the letter T and a time of day after it or none, where it is midnight UTC
pub data IsInstant : ℤ → List ℕ → Type 0 where
  at_midnight : {z day : ℤ} {bytes : List ℕ} → IsDate day bytes → z ≡ instant_of day 0 (pos 0)
      → IsInstant z bytes
  at_time : {z day offset : ℤ} {millis : ℕ} {date time ending bytes : List ℕ}
      → bytes ≡ date ++ byte "T" ∷ (time ++ ending)
      → IsDate day date → IsTime millis time → IsOffset offset ending
      → z ≡ instant_of day millis offset → IsTrue (in_range z) → IsInstant z bytes
