-- The canonical texts of instants and identifiers are texts of them.
use Rattle.std.proofs.Common.{◌≡◌, ℕ, zero, suc, ◌+◌, ◌-◌, ◌*◌, ◌/◌, ◌%◌, ◌^◌, ◌<◌, ◌≤◌, Bool, true, false, flat_map, List, [], ◌∷◌, ◌++◌}
use Rattle.std.proofs.Common.{length, All, ℤ, refl, ap, sym, subst, inl, arith, lit<, lit≤, codes, IsTrue}
use Rattle.std.proofs.lemmas.Bool.Decides.{nat_tests}
use Rattle.std.proofs.lemmas.Str.{IsUtf8-from_ascii}
use Rattle.std.specs.Prelude.{nat_le, ◌==◌, ◌&&◌}
use Rattle.std.specs.Int.{w128, byte_at, bytes_high_first, to_be_bytes, from_be_bytes}
use Rattle.std.specs.Str.{IsUtf8}
use Rattle.uuid.specs.Text.{lower, hyphenated_text}
use Rattle.uuid.proofs.TextLemmas.{by_index_length, hyphenated_ascii}
use Rattle.uuid.proofs.RoundTrips.{parses_hyphenated}
use Rattle.uuid.proofs.OrderLemmas.{from_be_bytes-to_be_bytes_16}
use Rattle.edn_model.specs.Form as form
use Rattle.edn_model.specs.Bytes.{quote, backslash, minus, point, colon, is_digit, Each}
use Rattle.edn_model.specs.Tokens.{number}
use Rattle.edn_model.specs.Instants.{digits, date_text, minute_text, second_text, IsDate, IsFraction, part, IsTime, IsOffset, west}
use Rattle.edn_model.specs.Instants.{in_range, IsInstant, at_time}
use Rattle.edn_model.specs.Uuids.{IsUuid}
use Rattle.edn_model.specs.Grammar.{TagAt, Gap, no_gap, blank, Text, instant, uuid}
use Rattle.edn_model.specs.Canon.{CanonInstant, escaped, string_text, Canon}
use Rattle.edn_model.proofs.Runs.{both_true, Each-append, Each-weaken}
use Rattle.edn_model.proofs.Pieces.{is_ascii, ascii_utf8}
use Rattle.edn_model.proofs.CanonText.{string_stands}
use Rattle.edn_print.specs.Printed.{is_unescaped}
use Rattle.edn_print.proofs.Escapes.{plain_text}

-- ---- the bytes of a date and a time

-- from the dash to the letter Z: digits, marks and the letter T
abbrev pub is_mark : ℕ → Bool
is_mark b = nat_le 45 b && nat_le b 90

digit_mark : (n : ℕ) → n < 10 → is_mark (48 + n) ≡ true
digit_mark n h = grind (arith, nat_tests)

digit_digit : (n : ℕ) → n < 10 → is_digit (48 + n) ≡ true
digit_digit n h = grind (arith, nat_tests)

mark_ascii : (b : ℕ) → is_mark b ≡ true → is_ascii b ≡ true
mark_ascii b h = grind (arith, nat_tests)

one_more : (test : ℕ → Bool) (b : ℕ) (bytes : List ℕ) → test b ≡ true → Each test bytes → Each test (b ∷ bytes)
one_more test b bytes h k = both_true (test b) _ h k

digits_each : (test : ℕ → Bool) → ((n : ℕ) → n < 10 → test (48 + n) ≡ true) → (count n : ℕ) → Each test (digits count n)
digits_each test each zero n = refl
digits_each test each (suc count) n =
    Each-append test (digits count (n / 10)) ((48 + n % 10) ∷ []) (digits_each test each count (n / 10))
    (one_more test (48 + n % 10) [] (each (n % 10) (omega arith)) refl)

digits_marks : (count n : ℕ) → Each is_mark (digits count n)
digits_marks = digits_each is_mark digit_mark

-- two numbers with a mark between them
two_marks : (c d mark m n : ℕ) → is_mark mark ≡ true → Each is_mark (digits c m ++ mark ∷ digits d n)
two_marks c d mark m n h =
    Each-append is_mark (digits c m) (mark ∷ digits d n) (digits_marks c m) (one_more is_mark mark (digits d n) h (digits_marks d n))

date_marks : (year month day : ℕ) → Each is_mark (date_text year month day)
date_marks year month day =
    Each-append is_mark (digits 4 year) (minus ∷ (digits 2 month ++ minus ∷ digits 2 day)) (digits_marks 4 year)
    (one_more is_mark minus (digits 2 month ++ minus ∷ digits 2 day) refl (two_marks 2 2 minus month day refl))

second_marks : (hour minute second : ℕ) → Each is_mark (second_text hour minute second)
second_marks hour minute second =
    Each-append is_mark (minute_text hour minute) (colon ∷ digits 2 second) (two_marks 2 2 colon hour minute refl)
    (one_more is_mark colon (digits 2 second) refl (digits_marks 2 second))

canon_marks : (z : ℤ) (s : List ℕ) → CanonInstant z s → Each is_mark s
canon_marks z s h =
    let fraction = Each-append is_mark (digits 3 h.milli) (codes "-00:00") (digits_marks 3 h.milli) refl in
    let clock =
    Each-append is_mark (second_text h.hour h.minute h.second) (point ∷ (digits 3 h.milli ++ codes "-00:00"))
    (second_marks h.hour h.minute h.second) (one_more is_mark point (digits 3 h.milli ++ codes "-00:00") refl fraction) in
    let time = one_more is_mark 84 (second_text h.hour h.minute h.second ++ point ∷ (digits 3 h.milli ++ codes "-00:00")) refl clock in
    subst (Each is_mark) (sym h.text) (Each-append is_mark (date_text h.year h.month h.day)
    (84 ∷ (second_text h.hour h.minute h.second ++ point ∷ (digits 3 h.milli ++ codes "-00:00"))) (date_marks h.year h.month h.day) time)

-- none of them is escaped
mark_unescaped : (b : ℕ) → is_mark b ≡ true → is_unescaped b ≡ true
mark_unescaped b h =
    let tab : (b == 9) ≡ false = grind (arith, nat_tests) in
    let feed : (b == 10) ≡ false = grind (arith, nat_tests) in
    let back : (b == 13) ≡ false = grind (arith, nat_tests) in
    let mark : (b == quote) ≡ false = grind (arith, nat_tests) in
    let slash : (b == backslash) ≡ false = grind (arith, nat_tests) in
    rw (tab, feed, back, mark, slash) refl

pub canon_plain : (z : ℤ) (s : List ℕ) → CanonInstant z s → flat_map escaped s ≡ s
canon_plain z s h = plain_text s (Each-weaken is_mark is_unescaped mark_unescaped s (canon_marks z s h))

-- ---- instants

three_digits : (n : ℕ) → n < 1000 → n ≡ number (digits 3 n) * 1000 / 10 ^ 3
three_digits n h =
    let value : number (digits 3 n) ≡ ((0 * 10 + (48 + n / 10 / 10 % 10 - 48)) * 10 + (48 + n / 10 % 10 - 48)) * 10 + (48 + n % 10 - 48) =
    refl in
    omega arith

pub canon_is_instant : (z : ℤ) (s : List ℕ) → CanonInstant z s → IsTrue (in_range z) → IsInstant z s
canon_is_instant z s h range =
    let clock = second_text h.hour h.minute h.second in
    let fraction : IsFraction h.milli (point ∷ digits 3 h.milli) =
    part refl (digits_each is_digit digit_digit 3 h.milli) (lit≤ tt, lit≤ tt) (three_digits h.milli h.exists.5) in
    let date : IsDate _ (date_text h.year h.month h.day) =
    record { year = h.year; month = h.month; day = h.day; later = h.exists.0; exists = h.exists.1; text = refl; is = refl } in
    let time : IsTime _ (clock ++ point ∷ digits 3 h.milli) = record {
      hour = h.hour;
      minute = h.minute;
      second = h.second;
      fraction = h.milli;
      ending = point ∷ digits 3 h.milli;
      exists = (h.exists.2, h.exists.3, h.exists.4);
      part = fraction;
      text = refl;
      is = refl;
    } in
    let offset : IsOffset _ (codes "-00:00") = west 0 0 refl (lit< tt, lit< tt) refl in
    at_time {date = date_text h.year h.month h.day} {time = clock ++ point ∷ digits 3 h.milli}
    {ending = codes "-00:00"} h.text date time offset h.is range

pub instant_text_is : (depth : ℕ) (z : ℤ) (s bytes rest : List ℕ) → IsTrue (in_range z) → CanonInstant z s
    → bytes ≡ codes "#inst " ++ string_text s → Text depth (form.instant z) (bytes ++ rest) rest
instant_text_is depth z s bytes rest range h e =
    let tag : TagAt (codes "inst") ((codes "#inst " ++ string_text s) ++ rest) (32 ∷ (string_text s ++ rest)) =
    record { is = refl; ends = refl } in
    let gap : Gap depth (32 ∷ (string_text s ++ rest)) (string_text s ++ rest) = blank refl no_gap in
    let utf8 = ascii_utf8 s (Each-weaken is_mark is_ascii mark_ascii s (canon_marks z s h)) in
    subst (λ (y : List ℕ). Text depth (form.instant z) (y ++ rest) rest) (sym e)
    (instant tag gap (string_stands s rest utf8) (canon_is_instant z s h range))

-- ---- identifiers

byte_below : (i n : ℕ) → byte_at i n < 256
byte_below zero n = omega arith
byte_below (suc i) n = omega arith

bytes_count : (k n : ℕ) → length (bytes_high_first k n) ≡ k
bytes_count zero n = refl
bytes_count (suc k) n = ap suc (bytes_count k n)

bytes_below : (k n : ℕ) → All (λ b. b < 256) (bytes_high_first k n)
bytes_below zero n i d h = absurd (omega arith)
bytes_below (suc k) n zero d h = byte_below k n
bytes_below (suc k) n (suc i) d h = bytes_below k n i d (omega arith)

uuid_of : (n : ℕ) → n < 2 ^ 128 → IsUuid n (hyphenated_text lower (to_be_bytes w128 n))
uuid_of n h = record {
  bytes = to_be_bytes w128 n;
  size = by_index_length 36 _;
  reads = sym (parses_hyphenated lower (to_be_bytes w128 n) (inl refl) (bytes_count 16 n) (bytes_below 16 n));
  is = sym (from_be_bytes-to_be_bytes_16 n h);
}

pub uuid_text_is : (depth n : ℕ) (bytes rest : List ℕ) → n < 2 ^ 128 → Canon (form.uuid n) bytes
    → Text depth (form.uuid n) (bytes ++ rest) rest
uuid_text_is depth n bytes rest h e =
    let s = hyphenated_text lower (to_be_bytes w128 n) in
    let tag : TagAt (codes "uuid") ((codes "#uuid " ++ string_text s) ++ rest) (32 ∷ (string_text s ++ rest)) =
    record { is = refl; ends = refl } in
    let gap : Gap depth (32 ∷ (string_text s ++ rest)) (string_text s ++ rest) = blank refl no_gap in
    let utf8 : IsUtf8 s = IsUtf8-from_ascii s (hyphenated_ascii lower (to_be_bytes w128 n) (inl refl)) in
    subst (λ (y : List ℕ). Text depth (form.uuid n) (y ++ rest) rest) (sym e) (uuid tag gap (string_stands s rest utf8) (uuid_of n h))
