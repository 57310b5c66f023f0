-- Each day from 0001-01-01 to 9999-12-31 is one date.
use Rattle.std.proofs.Common.{◌≡◌, ℕ, zero, suc, ◌+◌, ◌-◌, ◌<◌, ◌≤◌, inl, inr, refl, ap, ◌∙◌, sym, subst, arith, lit≤, ℤ, pos, negsuc, ◌+ℤ◌}
use Rattle.std.proofs.Common.{◌-ℤ◌, ◌≤ℤ◌, unsigned_abs, rules}
use Rattle.std.proofs.lemmas.Bool.{cases_lt}
use Rattle.std.proofs.lemmas.Int.{by_lt_z, ints}
use Rattle.jiff_core.specs.declared.civil.date.Date.{Date}
use Rattle.jiff_core.specs.Calendar.{IsCivilDate, days_in_month, days_from_civil, day_count}
use Rattle.jiff_core.specs.Date.{epoch_day}
use Rattle.jiff_core.proofs.SignedLemmas.{signed_arith}
use Rattle.jiff_core.proofs.MarchLemmas.{day_count-early}
use Rattle.jiff_core.proofs.CalendarLemmas.{days_from_civil-day_count, day_count-lt_year, day_count-day, day_count-next_month}
use Rattle.jiff_core.proofs.CalendarLemmas.{day_count-next_year, day_count-last_of_year, day_count-end, days_in_month_bounds}
use Rattle.jiff_core.proofs.DateLemmas.{civil, epoch_day_injective}
use Rattle.edn_model.specs.Instants.{date_text, IsDate}

pub day_count-year_one : day_count (pos 1) 1 1 ≡ 3652791
day_count-year_one = day_count-early (pos 1) 10000 1 1 refl (omega arith) (omega arith) (omega arith)

-- a day that is not before 0001-01-01 has no earlier year
pub year_from_one : (d : Date) (days : ℕ) → epoch_day d +ℤ pos 4371587 ≡ pos (days + 3652425) → pos 1 ≤ℤ d.year
year_from_one d days e =
    by_lt_z d.year (pos 1)
    (λ lt. absurd (omega (
      arith,
      signed_arith,
      days_from_civil-day_count d.year d.month d.day,
      day_count-lt_year d.year d.month d.day (pos 1) 1 1 (civil d) (omega arith) lt,
      day_count-year_one,
    )))
    (λ le. le)

positive : (z : ℤ) → pos 1 ≤ℤ z → z ≡ pos (unsigned_abs z)
positive (pos n) h = refl
positive (negsuc n) h = absurd (omega (arith, ints))

pub date_is : (d : Date) (days year month day : ℕ) → epoch_day d +ℤ pos 4371587 ≡ pos (days + 3652425) → year ≡ unsigned_abs d.year
    → month ≡ d.month → day ≡ d.day → IsDate (pos days -ℤ pos 719162) (date_text year month day)
date_is d days year month day e y m r =
    let later = year_from_one d days e in
    let whole : d.year ≡ pos year = positive d.year later ∙ ap pos (sym y) in
    let number : pos days -ℤ pos 719162 ≡ epoch_day d = omega (arith, signed_arith) in
    let exists : IsCivilDate (pos year) d.month d.day = subst (λ n. IsCivilDate n d.month d.day) whole (civil d) in
    record {
      year = year;
      month = month;
      day = day;
      later = omega (arith, signed_arith);
      exists = subst (λ n. IsCivilDate (pos year) n day) (sym m) (subst (λ n. IsCivilDate (pos year) d.month n) (sym r) exists);
      text = refl;
      is =
          number
          ∙ ap (λ n. days_from_civil n d.month d.day) whole
          ∙ ap (λ n. days_from_civil (pos year) n d.day) (sym m)
          ∙ ap (λ n. days_from_civil (pos year) month n) (sym r);
    }

-- ---- each day has a date

pub record HasDate (count : ℕ) : Type 0 where
  pub year : ℕ
  pub month : ℕ
  pub day : ℕ
  pub later : 1 ≤ year
  pub exists : IsCivilDate (pos year) month day
  pub is : day_count (pos year) month day ≡ count

next_day : (count : ℕ) (d : HasDate count) → d.day < days_in_month (pos d.year) d.month → HasDate (suc count)
next_day count d h =
    let step = day_count-day (pos d.year) d.month d.day (d.day + 1) d.exists.2.0 (omega arith) in
    let before = d.is in
    let first : 1 ≤ d.day = d.exists.2.0 in
    record {
      year = d.year;
      month = d.month;
      day = d.day + 1;
      later = d.later;
      exists = (d.exists.0, d.exists.1, (omega arith, omega arith));
      is = omega arith;
    }

next_month : (count : ℕ) (d : HasDate count) → days_in_month (pos d.year) d.month ≤ d.day → d.month < 12 → HasDate (suc count)
next_month count d h k =
    let first : 1 ≤ d.month = d.exists.1.0 in
    let step = day_count-next_month (pos d.year) d.month first in
    let day = day_count-day (pos d.year) d.month d.day 1 d.exists.2.0 (omega arith) in
    let before = d.is in
    let most : d.day ≤ days_in_month (pos d.year) d.month = d.exists.2.1 in
    let length = days_in_month_bounds (pos d.year) (d.month + 1) in
    record {
      year = d.year;
      month = d.month + 1;
      day = 1;
      later = d.later;
      exists = (d.exists.0, (omega arith, omega arith), (lit≤ tt, omega arith));
      is = omega arith;
    }

december : (y : ℤ) (m : ℕ) → m ≡ 12 → days_in_month y m ≡ 31
december y m e = rw e refl

next_year : (count : ℕ) (d : HasDate count) → days_in_month (pos d.year) d.month ≤ d.day → 12 ≤ d.month → suc count ≤ 7304849
    → HasDate (suc count)
next_year count d h k fits =
    let twelve : d.month ≤ 12 = d.exists.1.1 in
    let last : d.month ≡ 12 = omega arith in
    let most : d.day ≤ days_in_month (pos d.year) d.month = d.exists.2.1 in
    let long = december (pos d.year) d.month last in
    let day : d.day ≡ 31 = omega arith in
    let before : day_count (pos d.year) 12 31 ≡ count = rw (last, day) at d.is in
    let year : pos d.year ≤ℤ pos 9999 = d.exists.0.1 in
    let step = day_count-next_year (pos d.year) (pos (d.year + 1)) (omega (arith, signed_arith)) (omega (arith, signed_arith)) in
    let end = day_count-last_of_year (pos d.year) in
    let under : d.year < 9999 = by_lt_z (pos d.year) (pos 9999) (λ lt. omega (arith, signed_arith)) (λ le. absurd (
    let same : pos d.year ≡ pos 9999 = omega (arith, signed_arith) in
    let past : day_count (pos 9999) 12 31 + 1 ≡ day_count (pos 10000) 1 1 =
    omega (arith, day_count-last_of_year (pos 9999), day_count-next_year (pos 9999) (pos 10000) (omega (arith, signed_arith)) refl) in
    let here : day_count (pos 9999) 12 31 ≡ count = rw same at before in
    omega (arith, day_count-end))) in
    record {
      year = d.year + 1;
      month = 1;
      day = 1;
      later = omega arith;
      exists = ((omega (arith, signed_arith), omega (arith, signed_arith)), (lit≤ tt, lit≤ tt), (lit≤ tt, lit≤ tt));
      is = omega arith;
    }

-- the days from 0001-01-01 on, one after another
pub has_date : (days : ℕ) → days ≤ 3652058 → HasDate (days + 3652791)
has_date zero h = record { year = 1; month = 1; day = 1; later = lit≤ tt; exists = search rules; is = day_count-year_one ∙ omega arith }
has_date (suc days) h =
    let before = has_date days (omega arith) in
    let next : HasDate (suc (days + 3652791)) = elim (cases_lt before.day (days_in_month (pos before.year) before.month)) [
      | inl within ↦ next_day (days + 3652791) before within
      | inr last ↦ elim (cases_lt before.month 12) [
        | inl within ↦ next_month (days + 3652791) before last within
        | inr december ↦ next_year (days + 3652791) before last december (omega arith)
      ]
    ] in
    let same : suc (days + 3652791) ≡ suc days + 3652791 = omega arith in
    subst HasDate same next

-- ---- no day has two

pub record SameParts (y m d p q r : ℕ) : Type 0 where
  pub year : y ≡ p
  pub month : m ≡ q
  pub day : d ≡ r

pub one_date : (y m d p q r : ℕ) → IsCivilDate (pos y) m d → IsCivilDate (pos p) q r
    → days_from_civil (pos y) m d ≡ days_from_civil (pos p) q r → SameParts y m d p q r
one_date y m d p q r h k e =
    let left : Date = record { year = pos y; month = m; day = d; year_in = h.0; month_in = h.1; day_in = h.2 } in
    let right : Date = record { year = pos p; month = q; day = r; year_in = k.0; month_in = k.1; day_in = k.2 } in
    let same = epoch_day_injective left right e in
    record { year = omega (arith, signed_arith, same.0); month = same.1; day = same.2 }
