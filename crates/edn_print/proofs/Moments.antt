-- Each instant in its range has one canonical text.
use Rattle.std.proofs.Common.{◌≡◌, ℕ, ◌+◌, ◌-◌, ◌*◌, ◌/◌, ◌%◌, ◌<◌, ◌≤◌, true, flat_map, List, [], ◌∷◌, ◌++◌, ℤ, pos, negsuc, ◌-ℤ◌, ◌≤ℤ◌}
use Rattle.std.proofs.Common.{unsigned_abs, refl, ap, ◌∙◌, sym, arith, codes, IsTrue}
use Rattle.std.proofs.lemmas.Int.{ints, clamps}
use Rattle.std.proofs.lemmas.List.{append_assoc}
use Rattle.std.specs.Prelude.{int_le}
use Rattle.jiff_core.specs.Calendar.{days_from_civil}
use Rattle.jiff_core.proofs.SignedLemmas.{signed_arith}
use Rattle.jiff_core.proofs.CalendarLemmas.{days_from_civil-day_count}
use Rattle.edn_model.specs.Bytes.{quote, point}
use Rattle.edn_model.specs.Instants.{digits, date_text, second_text, IsDate, in_range, instant_of}
use Rattle.edn_model.specs.Canon.{escaped, string_text, CanonInstant}
use Rattle.edn_model.proofs.Runs.{both}
use Rattle.edn_print.specs.Printed.{clock_text}
use Rattle.edn_print.specs.Printable.{first_instant, last_instant, nearest}
use Rattle.edn_print.proofs.Dates.{HasDate, has_date, one_date}

-- ---- an instant from its milliseconds since 0001-01-01

in_days : (z : ℤ) (since : ℕ) → z ≡ pos since -ℤ pos 62135596800000
    → z ≡ instant_of (pos (since / 86400000) -ℤ pos 719162) (since % 86400000) (pos 0)
in_days z since e = omega (arith, signed_arith)

natural : (z : ℤ) → pos 0 ≤ℤ z → z ≡ pos (unsigned_abs z)
natural (pos n) h = refl
natural (negsuc n) h = absurd (omega (arith, ints))

pub in_millis : (z : ℤ) (since : ℕ) → first_instant ≤ℤ z → since ≡ unsigned_abs (z -ℤ first_instant) → z ≡ pos since -ℤ pos 62135596800000
in_millis z since h e =
    let apart : z -ℤ first_instant ≡ pos since = natural (z -ℤ first_instant) (omega (arith, signed_arith)) ∙ ap pos (sym e) in
    omega (arith, signed_arith)

in_parts : (millis : ℕ)
    → millis ≡ ((millis / 1000 / 60 / 60 * 60 + millis / 1000 / 60 % 60) * 60 + millis / 1000 % 60) * 1000 + millis % 1000
in_parts millis = omega arith

pub canon_instant : (z : ℤ) (since : ℕ) (date : List ℕ) → z ≡ pos since -ℤ pos 62135596800000
    → IsDate (pos (since / 86400000) -ℤ pos 719162) date → CanonInstant z (date ++ 84 ∷ (clock_text (since % 86400000) ++ codes "-00:00"))
canon_instant z since date e h =
    let millis = since % 86400000 in
    let below : millis < 86400000 = omega arith in
    let clock = second_text (millis / 1000 / 60 / 60) (millis / 1000 / 60 % 60) (millis / 1000 % 60) in
    let time : clock_text millis ++ codes "-00:00" ≡ clock ++ point ∷ (digits 3 (millis % 1000) ++ codes "-00:00") =
    append_assoc clock (point ∷ digits 3 (millis % 1000)) (codes "-00:00") in
    record {
      year = h.year;
      month = h.month;
      day = h.day;
      hour = millis / 1000 / 60 / 60;
      minute = millis / 1000 / 60 % 60;
      second = millis / 1000 % 60;
      milli = millis % 1000;
      exists = (h.later, h.exists, omega arith, omega arith, omega arith, omega arith);
      text =
          ap (λ (s : List ℕ). date ++ 84 ∷ s) time
          ∙ ap (λ (s : List ℕ). s ++ 84 ∷ (clock ++ point ∷ (digits 3 (millis % 1000) ++ codes "-00:00"))) h.text;
      is =
          in_days z since e
          ∙ ap (λ d. instant_of d millis (pos 0)) h.is
          ∙ ap (λ m. instant_of (days_from_civil (pos h.year) h.month h.day) m (pos 0)) (in_parts millis);
    }

-- what was written of it, a piece after another
pub written : (s date clock old opened dated marked timed new : List ℕ) → flat_map escaped s ≡ s
    → s ≡ date ++ 84 ∷ (clock ++ codes "-00:00")
    → opened ≡ old ++ codes "#inst \"" → dated ≡ opened ++ date → marked ≡ dated ++ 84 ∷ [] → timed ≡ marked ++ clock
    → new ≡ timed ++ codes "-00:00\""
    → new ≡ old ++ (codes "#inst " ++ string_text s)
written s date clock old opened dated marked timed new plain is a b c d e =
    let whole : new ≡ ((((old ++ codes "#inst \"") ++ date) ++ 84 ∷ []) ++ clock) ++ codes "-00:00\"" =
    e
    ∙ ap (λ (x : List ℕ). x ++ codes "-00:00\"")
    (d ∙ ap (λ (x : List ℕ). x ++ clock) (c ∙ ap (λ (x : List ℕ). x ++ 84 ∷ []) (b ∙ ap (λ (x : List ℕ). x ++ date) a))) in
    let text : flat_map escaped s ++ quote ∷ [] ≡ (date ++ 84 ∷ (clock ++ codes "-00:00")) ++ quote ∷ [] =
    ap (λ (x : List ℕ). x ++ quote ∷ []) (plain ∙ is) in
    let pieces : new ≡ old ++ (codes "#inst \"" ++ ((date ++ 84 ∷ (clock ++ codes "-00:00")) ++ quote ∷ [])) = whole ∙ simp append_assoc in
    pieces ∙ ap (λ (x : List ℕ). old ++ (codes "#inst \"" ++ x)) (sym text)

-- ---- each has a text

dated : (days : ℕ) (d : HasDate (days + 3652791)) → IsDate (pos days -ℤ pos 719162) (date_text d.year d.month d.day)
dated days d =
    let count = d.is in
    record {
      year = d.year;
      month = d.month;
      day = d.day;
      later = d.later;
      exists = d.exists;
      text = refl;
      is = omega (arith, signed_arith, days_from_civil-day_count (pos d.year) d.month d.day);
    }

pub record Since (z : ℤ) : Type 0 where
  pub millis : ℕ
  pub is : z ≡ pos millis -ℤ pos 62135596800000
  pub fits : millis ≤ 315537897599999

pub since_first : (z : ℤ) → first_instant ≤ℤ z → z ≤ℤ last_instant → Since z
since_first (pos n) low high = record { millis = n + 62135596800000; is = omega (arith, ints); fits = omega (arith, ints) }
since_first (negsuc n) low high = record { millis = 62135596799999 - n; is = omega (arith, ints); fits = omega (arith, ints) }

pub within : (z : ℤ) → IsTrue (in_range z) → (first_instant ≤ℤ z) × (z ≤ℤ last_instant)
within z h =
    let parts = both (int_le first_instant z) (int_le z last_instant) h in
    let low : int_le first_instant z ≡ true = parts.0 in
    let high : int_le z last_instant ≡ true = parts.1 in
    (omega (arith, ints), omega (arith, ints))

pub has_text : (z : ℤ) → IsTrue (in_range z) → (s : List ℕ) × CanonInstant z s
has_text z h =
    let since = since_first z (within z h).0 (within z h).1 in
    let fits = since.fits in
    let date = has_date (since.millis / 86400000) (omega arith) in
    (_, canon_instant z since.millis (date_text date.year date.month date.day) since.is (dated (since.millis / 86400000) date))

-- ---- no instant has two

same_moment : (a b : ℤ) (m n : ℕ) → m < 86400000 → n < 86400000 → instant_of a m (pos 0) ≡ instant_of b n (pos 0) → (a ≡ b) × (m ≡ n)
same_moment a b m n h k e = (omega (arith, signed_arith), omega (arith, signed_arith))

record SameClock (h m s f p q r g : ℕ) : Type 0 where
  hour : h ≡ p
  minute : m ≡ q
  second : s ≡ r
  milli : f ≡ g

same_clock : (h m s f p q r g : ℕ) → m < 60 → s < 60 → f < 1000 → q < 60 → r < 60 → g < 1000
    → ((h * 60 + m) * 60 + s) * 1000 + f ≡ ((p * 60 + q) * 60 + r) * 1000 + g → SameClock h m s f p q r g
same_clock h m s f p q r g m1 s1 f1 q1 r1 g1 e =
    let milli : f ≡ g = omega arith in
    let seconds : (h * 60 + m) * 60 + s ≡ (p * 60 + q) * 60 + r = omega arith in
    let second : s ≡ r = omega arith in
    let minutes : h * 60 + m ≡ p * 60 + q = omega arith in
    record { hour = omega arith; minute = omega arith; second = second; milli = milli }

-- the text of a date and a time of day
abbrev pub moment_text : ℕ → ℕ → ℕ → ℕ → ℕ → ℕ → ℕ → List ℕ
moment_text year month day hour minute second milli =
    date_text year month day ++ 84 ∷ (second_text hour minute second ++ point ∷ (digits 3 milli ++ codes "-00:00"))

pub one_text : (z : ℤ) (s t : List ℕ) → CanonInstant z s → CanonInstant z t → s ≡ t
one_text z s t h k =
    let h2 : h.hour < 24 = h.exists.2 in
    let h3 : h.minute < 60 = h.exists.3 in
    let h4 : h.second < 60 = h.exists.4 in
    let h5 : h.milli < 1000 = h.exists.5 in
    let k2 : k.hour < 24 = k.exists.2 in
    let k3 : k.minute < 60 = k.exists.3 in
    let k4 : k.second < 60 = k.exists.4 in
    let k5 : k.milli < 1000 = k.exists.5 in
    let moment =
    same_moment (days_from_civil (pos h.year) h.month h.day) (days_from_civil (pos k.year) k.month k.day)
    (((h.hour * 60 + h.minute) * 60 + h.second) * 1000 + h.milli) (((k.hour * 60 + k.minute) * 60 + k.second) * 1000 + k.milli)
    (omega arith) (omega arith) (sym h.is ∙ k.is) in
    let date = one_date h.year h.month h.day k.year k.month k.day h.exists.1 k.exists.1 moment.0 in
    let clock = same_clock h.hour h.minute h.second h.milli k.hour k.minute k.second k.milli h3 h4 h5 k3 k4 k5 moment.1 in
    h.text
    ∙ ap (λ n. moment_text n h.month h.day h.hour h.minute h.second h.milli) date.year
    ∙ ap (λ n. moment_text k.year n h.day h.hour h.minute h.second h.milli) date.month
    ∙ ap (λ n. moment_text k.year k.month n h.hour h.minute h.second h.milli) date.day
    ∙ ap (λ n. moment_text k.year k.month k.day n h.minute h.second h.milli) clock.hour
    ∙ ap (λ n. moment_text k.year k.month k.day k.hour n h.second h.milli) clock.minute
    ∙ ap (λ n. moment_text k.year k.month k.day k.hour k.minute n h.milli) clock.second
    ∙ ap (λ n. moment_text k.year k.month k.day k.hour k.minute k.second n) clock.milli
    ∙ sym k.text

-- ---- the nearest instant that has a text

pub nearest_itself : (z : ℤ) → IsTrue (in_range z) → nearest z ≡ z
nearest_itself z h =
    let low = (within z h).0 in
    let high = (within z h).1 in
    omega (arith, ints, clamps)
