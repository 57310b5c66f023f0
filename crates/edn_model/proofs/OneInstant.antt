-- One text is the text of one instant.
use Rattle.std.proofs.Common.{◌≡◌, ◌≢◌, ℕ, zero, suc, ◌+◌, ◌*◌, ◌/◌, ◌%◌, ◌^◌, ◌<◌, ◌≤◌, ◌≤ℤ◌, Bool, true, false, ◌==◌, ◌||◌, if◌then◌else◌}
use Rattle.std.proofs.Common.{lit≤, List, [], ◌∷◌, ◌++◌, length, ℤ, pos, neg_ℤ, refl, ap, ◌∙◌, sym, subst, arith}
use Rattle.std.proofs.lemmas.List.{append_assoc, append-nil}
use Rattle.std.proofs.lemmas.Int.{ints}
use Rattle.jiff_core.specs.Calendar.{IsCivilDate, is_leap_year, days_in_month, days_from_civil}
use Rattle.edn_model.specs.Runs.{Stops}
use Rattle.edn_model.specs.Bytes.{plus, minus, point, colon, is_digit}
use Rattle.edn_model.specs.Tokens.{number}
use Rattle.edn_model.specs.Instants.{digits, date_text, minute_text, second_text, IsDate, IsFraction, whole, part, IsTime, IsOffset, unsaid}
use Rattle.edn_model.specs.Instants.{utc, east, west, instant_of, IsInstant, at_midnight, at_time}
use Rattle.edn_model.proofs.Runs.{heads, tails, one_run}

empty_cons : (b : ℕ) (x : List ℕ) → [] ≡ b ∷ x → ⊥
empty_cons b x e = cc

differ : (b c : ℕ) (x y : List ℕ) → b ∷ x ≡ c ∷ y → (b ≡ c → ⊥) → ⊥
differ b c x y e fails = fails (heads e)

-- ---- digits

-- the numbers of so many digits are those below this one
abbrev pub limit : ℕ → ℕ
limit zero = 1
limit (suc count) = 10 * limit count

pub record Cut (m n : ℕ) (x y : List ℕ) : Type 0 where
  pub number : m ≡ n
  pub rest : x ≡ y

tenth_below : (n most : ℕ) → n < 10 * most → n / 10 < most
tenth_below n most h = omega arith

tens_and_ones : (m n : ℕ) → m / 10 ≡ n / 10 → 48 + m % 10 ≡ 48 + n % 10 → m ≡ n
tens_and_ones m n e f = omega arith

pub same_digits : (count m n : ℕ) (x y : List ℕ) → m < limit count → n < limit count → digits count m ++ x ≡ digits count n ++ y
    → Cut m n x y
same_digits zero m n x y h k e = record { number = omega arith; rest = e }
same_digits (suc count) m n x y h k e =
    let spread =
    sym (append_assoc (digits count (m / 10)) ((48 + m % 10) ∷ []) x) ∙ e ∙ append_assoc (digits count (n / 10)) ((48 + n % 10) ∷ []) y in
    let front =
    same_digits count (m / 10) (n / 10) ((48 + m % 10) ∷ x) ((48 + n % 10) ∷ y) (tenth_below m (limit count) h)
    (tenth_below n (limit count) k) spread in
    record { number = tens_and_ones m n front.number (heads front.rest); rest = tails front.rest }

-- two numbers with a mark between them
same_pair : (c d mark a b p q : ℕ) (x y : List ℕ) → a < limit c → p < limit c → b < limit d → q < limit d
    → (digits c a ++ mark ∷ digits d b) ++ x ≡ (digits c p ++ mark ∷ digits d q) ++ y → Cut a p [] [] × Cut b q x y
same_pair c d mark a b p q x y ha hp hb hq e =
    let spread = sym (append_assoc (digits c a) (mark ∷ digits d b) x) ∙ e ∙ append_assoc (digits c p) (mark ∷ digits d q) y in
    let front = same_digits c a p (mark ∷ (digits d b ++ x)) (mark ∷ (digits d q ++ y)) ha hp spread in
    (record { number = front.number; rest = refl }, same_digits d b q x y hb hq (tails front.rest))

-- ---- dates

month_cases : (a b c : Bool) → (if a then (if b then 29 else 28) else (if c then 30 else 31)) ≤ 31
month_cases true true c = lit≤ tt
month_cases true false c = lit≤ tt
month_cases false b true = lit≤ tt
month_cases false b false = lit≤ tt

month_below : (y : ℤ) (m : ℕ) → days_in_month y m ≤ 31
month_below y m = month_cases (m == 2) (is_leap_year y) ((m == 4) || (m == 6) || (m == 9) || (m == 11))

-- the parts of a date are written in four digits, two and two
pub record Fits (year month day : ℕ) : Type 0 where
  pub year_below : year < 10000
  pub month_below : month < 100
  pub day_below : day < 100

pub date_fits : (year month day : ℕ) → IsCivilDate (pos year) month day → Fits year month day
date_fits year month day h =
    let most : pos year ≤ℤ pos 9999 = h.0.1 in
    let twelve : month ≤ 12 = h.1.1 in
    let last : day ≤ days_in_month (pos year) month = h.2.1 in
    let longest = month_below (pos year) month in
    record { year_below = omega (arith, ints); month_below = omega arith; day_below = omega arith }

pub record SameDate (y m d p q r : ℕ) (x z : List ℕ) : Type 0 where
  pub year : y ≡ p
  pub month : m ≡ q
  pub day : d ≡ r
  pub rest : x ≡ z

pub same_date_text : (y m d p q r : ℕ) (x z : List ℕ) → Fits y m d → Fits p q r → date_text y m d ++ x ≡ date_text p q r ++ z
    → SameDate y m d p q r x z
same_date_text y m d p q r x z left right e =
    let spread =
    sym (append_assoc (digits 4 y) (minus ∷ (digits 2 m ++ minus ∷ digits 2 d)) x)
    ∙ e
    ∙ append_assoc (digits 4 p) (minus ∷ (digits 2 q ++ minus ∷ digits 2 r)) z in
    let year =
    same_digits 4 y p (minus ∷ ((digits 2 m ++ minus ∷ digits 2 d) ++ x))
    (minus ∷ ((digits 2 q ++ minus ∷ digits 2 r) ++ z)) left.year_below right.year_below spread in
    let months = same_pair 2 2 minus m d q r x z left.month_below right.month_below left.day_below right.day_below (tails year.rest) in
    record { year = year.number; month = months.0.number; day = months.1.number; rest = months.1.rest }

pub same_date : (a b : ℤ) (s t x y : List ℕ) → IsDate a s → IsDate b t → s ++ x ≡ t ++ y → (a ≡ b) × (x ≡ y)
same_date a b s t x y h k e =
    let shown = sym (ap (λ (z : List ℕ). z ++ x) h.text) ∙ e ∙ ap (λ (z : List ℕ). z ++ y) k.text in
    let same =
    same_date_text h.year h.month h.day k.year k.month k.day x y (date_fits h.year h.month h.day h.exists)
    (date_fits k.year k.month k.day k.exists) shown in
    let day =
    ap (λ (n : ℕ). days_from_civil (pos n) h.month h.day) same.year
    ∙ ap (λ (n : ℕ). days_from_civil (pos k.year) n h.day) same.month
    ∙ ap (λ (n : ℕ). days_from_civil (pos k.year) k.month n) same.day in
    (h.is ∙ day ∙ sym k.is, same.rest)

-- ---- offsets

same_clock : (a b p q : ℕ) (s t : List ℕ) → (a < 24) × (b < 60) → (p < 24) × (q < 60) → s ≡ minute_text a b → t ≡ minute_text p q → s ≡ t
    → a * 60 + b ≡ p * 60 + q
same_clock a b p q s t h k e i same =
    let shown : minute_text a b ++ [] ≡ minute_text p q ++ [] = ap (λ (z : List ℕ). z ++ []) (sym e ∙ same ∙ i) in
    let a1 : a < 24 = h.0 in
    let b1 : b < 60 = h.1 in
    let p1 : p < 24 = k.0 in
    let q1 : q < 60 = k.1 in
    let both = same_pair 2 2 colon a b p q [] [] (omega arith) (omega arith) (omega arith) (omega arith) shown in
    let hours = both.0.number in
    let minutes = both.1.number in
    omega arith

pub same_offset : (o p : ℤ) (s t : List ℕ) → IsOffset o s → IsOffset p t → s ≡ t → o ≡ p
same_offset o p s t (unsaid e i) (unsaid f j) same = i ∙ sym j
same_offset o p s t (unsaid e i) (utc f j) same = i ∙ sym j
same_offset o p s t (unsaid e i) (east h m f b j) same = absurd (empty_cons plus (minute_text h m) (sym e ∙ same ∙ f))
same_offset o p s t (unsaid e i) (west h m f b j) same = absurd (empty_cons minus (minute_text h m) (sym e ∙ same ∙ f))
same_offset o p s t (utc e i) (unsaid f j) same = i ∙ sym j
same_offset o p s t (utc e i) (utc f j) same = i ∙ sym j
same_offset o p s t (utc e i) (east h m f b j) same = absurd (differ 90 plus [] (minute_text h m) (sym e ∙ same ∙ f) (λ w. omega arith))
same_offset o p s t (utc e i) (west h m f b j) same = absurd (differ 90 minus [] (minute_text h m) (sym e ∙ same ∙ f) (λ w. omega arith))
same_offset o p s t (east h m e a i) (unsaid f j) same = absurd (empty_cons plus (minute_text h m) (sym f ∙ sym same ∙ e))
same_offset o p s t (east h m e a i) (utc f j) same = absurd (differ plus 90 (minute_text h m) [] (sym e ∙ same ∙ f) (λ w. omega arith))
same_offset o p s t (east h m e a i) (east k n f b j) same =
    i ∙ ap pos (same_clock h m k n (minute_text h m) (minute_text k n) a b refl refl (tails (sym e ∙ same ∙ f))) ∙ sym j
same_offset o p s t (east h m e a i) (west k n f b j) same =
    absurd (differ plus minus (minute_text h m) (minute_text k n) (sym e ∙ same ∙ f) (λ w. omega arith))
same_offset o p s t (west h m e a i) (unsaid f j) same = absurd (empty_cons minus (minute_text h m) (sym f ∙ sym same ∙ e))
same_offset o p s t (west h m e a i) (utc f j) same = absurd (differ minus 90 (minute_text h m) [] (sym e ∙ same ∙ f) (λ w. omega arith))
same_offset o p s t (west h m e a i) (east k n f b j) same =
    absurd (differ minus plus (minute_text h m) (minute_text k n) (sym e ∙ same ∙ f) (λ w. omega arith))
same_offset o p s t (west h m e a i) (west k n f b j) same =
    i ∙ ap (λ z. neg_ℤ (pos z)) (same_clock h m k n (minute_text h m) (minute_text k n) a b refl refl (tails (sym e ∙ same ∙ f))) ∙ sym j

-- ---- times

-- an offset begins with no digit and no point
pub record Marked (bytes : List ℕ) : Type 0 where
  pub digit : Stops is_digit bytes
  pub no_point : (x : List ℕ) → bytes ≢ point ∷ x

stops_at : (b : ℕ) (bytes others : List ℕ) → bytes ≡ b ∷ others → is_digit b ≡ false → b ≢ point → Marked bytes
stops_at b bytes others e fails other = record {
  digit = subst (Stops is_digit) (sym e) fails;
  no_point = λ x i. other (heads (sym e ∙ i));
}

pub offset_marked : (o : ℤ) (s : List ℕ) → IsOffset o s → Marked s
offset_marked o s (unsaid e i) = record { digit = subst (Stops is_digit) (sym e) tt; no_point = λ x j. empty_cons point x (sym e ∙ j) }
offset_marked o s (utc e i) = stops_at 90 s [] e refl (λ w. omega arith)
offset_marked o s (east h m e a i) = stops_at plus s (minute_text h m) e refl (λ w. omega arith)
offset_marked o s (west h m e a i) = stops_at minus s (minute_text h m) e refl (λ w. omega arith)

same_fraction : (m n : ℕ) (s t x y : List ℕ) → IsFraction m s → IsFraction n t → Marked x → Marked y → s ++ x ≡ t ++ y → (m ≡ n) × (x ≡ y)
same_fraction m n s t x y (whole e i) (whole f j) mx my same =
    (i ∙ sym j, sym (ap (λ (z : List ℕ). z ++ x) e) ∙ same ∙ ap (λ (z : List ℕ). z ++ y) f)
same_fraction m n s t x y (whole e i) (part f a b j) mx my same =
    absurd (mx.no_point _ (sym (ap (λ (z : List ℕ). z ++ x) e) ∙ same ∙ ap (λ (z : List ℕ). z ++ y) f))
same_fraction m n s t x y (part e a b i) (whole f j) mx my same =
    absurd (my.no_point _ (sym (ap (λ (z : List ℕ). z ++ y) f) ∙ sym same ∙ ap (λ (z : List ℕ). z ++ x) e))
same_fraction m n s t x y (part {digits = d} e a b i) (part {digits = g} f c k j) mx my same =
    let run =
    one_run is_digit d g x y a c mx.digit my.digit (tails (sym (ap (λ (z : List ℕ). z ++ x) e) ∙ same ∙ ap (λ (z : List ℕ). z ++ y) f)) in
    (i ∙ ap (λ (z : List ℕ). number z * 1000 / 10 ^ length z) run.0 ∙ sym j, run.1)

pub same_time : (m n : ℕ) (s t x y : List ℕ) → IsTime m s → IsTime n t → Marked x → Marked y → s ++ x ≡ t ++ y → (m ≡ n) × (x ≡ y)
same_time m n s t x y h k mx my e =
    let left = second_text h.hour h.minute h.second in
    let right = second_text k.hour k.minute k.second in
    let shown =
    sym (append_assoc left h.ending x)
    ∙ sym (ap (λ (z : List ℕ). z ++ x) h.text)
    ∙ e
    ∙ ap (λ (z : List ℕ). z ++ y) k.text
    ∙ append_assoc right k.ending y in
    let clock =
    sym (append_assoc (minute_text h.hour h.minute) (colon ∷ digits 2 h.second) (h.ending ++ x))
    ∙ shown
    ∙ append_assoc (minute_text k.hour k.minute) (colon ∷ digits 2 k.second) (k.ending ++ y) in
    let h0 : h.hour < 24 = h.exists.0 in
    let h1 : h.minute < 60 = h.exists.1 in
    let h2 : h.second < 60 = h.exists.2 in
    let k0 : k.hour < 24 = k.exists.0 in
    let k1 : k.minute < 60 = k.exists.1 in
    let k2 : k.second < 60 = k.exists.2 in
    let minutes =
    same_pair 2 2 colon h.hour h.minute k.hour k.minute (colon ∷ (digits 2 h.second ++ (h.ending ++ x)))
    (colon ∷ (digits 2 k.second ++ (k.ending ++ y))) (omega arith) (omega arith) (omega arith) (omega arith) clock in
    let seconds = same_digits 2 h.second k.second (h.ending ++ x) (k.ending ++ y) (omega arith) (omega arith) (tails minutes.1.rest) in
    let fraction = same_fraction h.fraction k.fraction h.ending k.ending x y h.part k.part mx my seconds.rest in
    let a = minutes.0.number in
    let b = minutes.1.number in
    let c = seconds.number in
    let d = fraction.0 in
    let p = h.is in
    let q = k.is in
    (omega arith, fraction.1)

-- ---- instants

pub one_instant : (z w : ℤ) (s : List ℕ) → IsInstant z s → IsInstant w s → z ≡ w
one_instant z w s (at_midnight {day = d} h i) (at_midnight {day = e} k j) =
    i ∙ ap (λ (n : ℤ). instant_of n 0 (pos 0)) (same_date d e s s [] [] h k refl).0 ∙ sym j
one_instant z w s (at_midnight {day = d} h i) (at_time {day = e} {date = t} {time = b} {ending = c} f k g o j r) =
    absurd (empty_cons 84 (b ++ c) (same_date d e s t [] (84 ∷ (b ++ c)) h k (append-nil s ∙ f)).1)
one_instant z w s (at_time {day = d} {date = t} {time = b} {ending = c} f k g o j r) (at_midnight {day = e} h i) =
    absurd (empty_cons 84 (b ++ c) (same_date e d s t [] (84 ∷ (b ++ c)) h k (append-nil s ∙ f)).1)
one_instant z w s (at_time {day = d} {offset = o} {millis = m} {date = a} {time = b} {ending = c} f h g l j r)
    (at_time {day = e} {offset = p} {millis = n} {date = q} {time = u} {ending = v} f2 h2 g2 l2 j2 r2) =
    let date = same_date d e a q (84 ∷ (b ++ c)) (84 ∷ (u ++ v)) h h2 (sym f ∙ f2) in
    let time = same_time m n b u c v g g2 (offset_marked o c l) (offset_marked p v l2) (tails date.1) in
    let offset = same_offset o p c v l l2 time.1 in
    let day = date.0 in
    let millis = time.0 in
    let same : instant_of d m o ≡ instant_of e n p =
    ap (λ x. instant_of x m o) day ∙ ap (λ x. instant_of e x o) millis ∙ ap (λ x. instant_of e n x) offset in
    j ∙ same ∙ sym j2
