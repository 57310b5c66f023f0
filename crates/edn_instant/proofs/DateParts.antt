-- A date in front of a text, part by part.
use Rattle.std.proofs.Common.{◌≡◌, ◌≢◌, ℕ, ℤ, pos, ◌<◌, List, ◌∷◌, ◌++◌, refl, ap, ◌∙◌, sym, subst}
use Rattle.std.proofs.lemmas.List.{append_assoc}
use Rattle.jiff_core.specs.Calendar.{days_from_civil}
use Rattle.edn_model.specs.Bytes.{minus}
use Rattle.edn_model.specs.Instants.{digits, date_text, IsDate}
use Rattle.edn_model.proofs.Runs.{tails}
use Rattle.edn_model.proofs.OneInstant.{Cut, date_fits}
use Rattle.edn_instant.specs.Fronts.{Front, NoFront, IsTwo, IsFour, IsDay}
use Rattle.edn_instant.proofs.FrontDigits.{after_two, after_four}

-- what stands behind the year, the month and the day of a date
abbrev behind_month : ℕ → List ℕ → List ℕ
behind_month day rest = minus ∷ (digits 2 day ++ rest)

abbrev behind_year : ℕ → ℕ → List ℕ → List ℕ
behind_year month day rest = minus ∷ (digits 2 month ++ behind_month day rest)

-- a date in front of a text
record Split (number : ℤ) (here rest : List ℕ) : Type 0 where
  year : ℕ
  month : ℕ
  day : ℕ
  year_below : year < 10000
  month_below : month < 100
  day_below : day < 100
  exists : IsDay year month day
  number_is : number ≡ days_from_civil (pos year) month day
  is : here ≡ digits 4 year ++ behind_year month day rest

spread : (year month day : ℕ) (rest : List ℕ) → date_text year month day ++ rest ≡ digits 4 year ++ behind_year month day rest
spread year month day rest =
    append_assoc (digits 4 year) (minus ∷ (digits 2 month ++ minus ∷ digits 2 day)) rest
    ∙ ap (λ (t : List ℕ). digits 4 year ++ minus ∷ t) (append_assoc (digits 2 month) (minus ∷ digits 2 day) rest)

split : (number : ℤ) (here text rest : List ℕ) → IsDate number text → here ≡ text ++ rest → Split number here rest
split number here text rest date is =
    let fits = date_fits date.year date.month date.day date.exists in
    record {
      year = date.year;
      month = date.month;
      day = date.day;
      year_below = fits.year_below;
      month_below = fits.month_below;
      day_below = fits.day_below;
      exists = (date.later, date.exists);
      number_is = date.is;
      is = is ∙ ap (λ (t : List ℕ). t ++ rest) date.text ∙ spread date.year date.month date.day rest;
    }

-- ---- what was read of a date, and what follows

after_year : (year : ℕ) (number : ℤ) (here rest x : List ℕ) (s : Split number here x) → Front (IsFour year) here rest
    → Cut year s.year rest (behind_year s.month s.day x)
after_year year number here rest x s front = after_four year s.year here rest (behind_year s.month s.day x) front s.year_below s.is

after_month : (year month : ℕ) (number : ℤ) (here between rest x : List ℕ) (s : Split number here x)
    → Front (IsFour year) here (minus ∷ between) → Front (IsTwo month) between rest
    → Cut month s.month rest (behind_month s.day x)
after_month year month number here between rest x s years months =
    after_two month s.month between rest (behind_month s.day x) months s.month_below
    (tails (after_year year number here (minus ∷ between) x s years).rest)

pub no_year : (here : List ℕ) → ((n : ℕ) → NoFront (IsFour n) here) → (number : ℤ) → NoFront (IsDate number) here
no_year here none number text rest date is =
    let s = split number here text rest date is in
    none s.year (digits 4 s.year) (behind_year s.month s.day rest) (s.year_below, refl) s.is

pub no_first_mark : (year : ℕ) (here rest : List ℕ) → Front (IsFour year) here rest
    → ((x : List ℕ) → rest ≢ minus ∷ x) → (number : ℤ) → NoFront (IsDate number) here
no_first_mark year here rest front none number text x date is =
    let s = split number here text x date is in
    none (digits 2 s.month ++ behind_month s.day x) (after_year year number here rest x s front).rest

pub no_month : (year : ℕ) (here rest : List ℕ) → Front (IsFour year) here (minus ∷ rest)
    → ((n : ℕ) → NoFront (IsTwo n) rest) → (number : ℤ) → NoFront (IsDate number) here
no_month year here rest front none number text x date is =
    let s = split number here text x date is in
    none s.month (digits 2 s.month) (behind_month s.day x) (s.month_below, refl)
    (tails (after_year year number here (minus ∷ rest) x s front).rest)

pub no_second_mark : (year month : ℕ) (here between rest : List ℕ) → Front (IsFour year) here (minus ∷ between)
    → Front (IsTwo month) between rest → ((x : List ℕ) → rest ≢ minus ∷ x)
    → (number : ℤ) → NoFront (IsDate number) here
no_second_mark year month here between rest years months none number text x date is =
    let s = split number here text x date is in
    none (digits 2 s.day ++ x) (after_month year month number here between rest x s years months).rest

pub no_day : (year month : ℕ) (here between rest : List ℕ) → Front (IsFour year) here (minus ∷ between)
    → Front (IsTwo month) between (minus ∷ rest) → ((n : ℕ) → NoFront (IsTwo n) rest)
    → (number : ℤ) → NoFront (IsDate number) here
no_day year month here between rest years months none number text x date is =
    let s = split number here text x date is in
    none s.day (digits 2 s.day) x (s.day_below, refl)
    (tails (after_month year month number here between (minus ∷ rest) x s years months).rest)

pub no_such_day : (year month day : ℕ) (here between behind rest : List ℕ) → Front (IsFour year) here (minus ∷ between)
    → Front (IsTwo month) between (minus ∷ behind)
    → Front (IsTwo day) behind rest → ¬ IsDay year month day → (number : ℤ) → NoFront (IsDate number) here
no_such_day year month day here between behind rest years months days none number text x date is =
    let s = split number here text x date is in
    let first = after_year year number here (minus ∷ between) x s years in
    let second = after_month year month number here between (minus ∷ behind) x s years months in
    let third = after_two day s.day behind rest x days s.day_below (tails second.rest) in
    let P : ℕ → Type 0 = λ y. IsDay y month day in
    let Q : ℕ → Type 0 = λ m. IsDay s.year m day in
    let R : ℕ → Type 0 = λ d. IsDay s.year s.month d in
    none (subst P (sym first.number) (subst Q (sym second.number) (subst R (sym third.number) s.exists)))

pub is_date : (year month day : ℕ) (number : ℤ) (here between behind rest : List ℕ) → Front (IsFour year) here (minus ∷ between)
    → Front (IsTwo month) between (minus ∷ behind)
    → Front (IsTwo day) behind rest → IsDay year month day → number ≡ days_from_civil (pos year) month day → Front (IsDate number) here rest
is_date year month day number here between behind rest years months days exists is =
    record {
      text = date_text year month day;
      kind = record { year = year; month = month; day = day; later = exists.0; exists = exists.1; text = refl; is = is };
      is = years.is ∙ ap (λ (t : List ℕ). t ++ minus ∷ between) years.kind.1
          ∙ ap (λ (t : List ℕ). digits 4 year ++ minus ∷ t) (months.is ∙ ap (λ (t : List ℕ). t ++ minus ∷ behind) months.kind.1)
          ∙ ap (λ (t : List ℕ). digits 4 year ++ minus ∷ (digits 2 month ++ minus ∷ t))
          (days.is ∙ ap (λ (t : List ℕ). t ++ rest) days.kind.1)
          ∙ sym (spread year month day rest);
    }
