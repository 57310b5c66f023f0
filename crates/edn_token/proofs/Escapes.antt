-- Escapes, and what is none.
use Rattle.std.proofs.Common.{◌≡◌, ◌≢◌, ◌⊎◌, ℕ, zero, suc, ◌+◌, ◌*◌, ◌<◌, ◌≤◌, Bool, true, false, Option, Some, None, List, [], ◌∷◌, ◌++◌}
use Rattle.std.proofs.Common.{take, drop, length, get_or, take_all, refl, ap, ◌∙◌, sym, subst, arith, inl, inr}
use Rattle.std.proofs.lemmas.Bool.{cases_Bool}
use Rattle.std.proofs.lemmas.Bool.Decides.{nat_tests}
use Rattle.std.proofs.lemmas.List.{append-nil, take_more}
use Rattle.std.proofs.lemmas.List.Sums.{fold-append}
use Rattle.std.proofs.lemmas.List.Folds.{list_all_at}
use Rattle.std.proofs.lemmas.Str.{IsUtf8-nil, IsUtf8-encode, encode_ascii}
use Rattle.std.specs.Prelude.{encode_utf8, if◌then◌else◌}
use Rattle.std.specs.Char.{IsScalar, InScalarRange, OutOfScalarRange}
use Rattle.edn_model.specs.Runs.{Each}
use Rattle.edn_model.specs.Bytes.{backslash}
use Rattle.edn_model.specs.Tokens.{escape_of, is_hex_digit, hex_value, Spells, nothing, escape, code}
use Rattle.edn_model.specs.Faults.{StringFault, bad, cut, cut_escape, bad_escape, IsBadEscape, unknown, no_digit, surrogate, IsCutEscape}
use Rattle.edn_model.specs.Faults.{no_letter, few_digits}
use Rattle.edn_model.proofs.Runs.{Each-tail, Each-append, both_true}
use Rattle.edn_token.specs.Strings.{hex_number, Spelled}

-- ---- faults of an escape are faults of its string

pub bad_here : (more : List ℕ) → IsBadEscape more
    → (0 < length (backslash ∷ more)) × StringFault (backslash ∷ more) bad (drop 0 (backslash ∷ more))
bad_here more h = (omega arith, bad_escape nothing IsUtf8-nil h)

pub cut_here : (more : List ℕ) → IsCutEscape more → StringFault (backslash ∷ more) cut []
cut_here more h = cut_escape nothing IsUtf8-nil h

-- ---- letters

low_scalar : (n : ℕ) → n < 128 → IsScalar n
low_scalar n low = grind (arith, nat_tests)

escape_low : (b e : ℕ) → escape_of b ≡ Some e → e < 128
escape_low b e h = grind (arith, nat_tests)

pub letter_there : (letter e : ℕ) (more : List ℕ) → escape_of letter ≡ Some e → Spelled (backslash ∷ letter ∷ more) (encode_utf8 e) more
letter_there letter e more h =
    let one : encode_utf8 e ≡ e ∷ [] = encode_ascii e (escape_low letter e h) in
    record {
      spells = subst (λ z. Spells (backslash ∷ letter ∷ more) z more) (sym one) (escape refl h nothing);
      utf8 = IsUtf8-encode e (low_scalar e (escape_low letter e h));
    }

-- ---- digits

pub all_pass : (test : ℕ → Bool) (xs : List ℕ) (i : ℕ) → i < length xs → Each test xs → test (get_or xs i 0) ≡ true
all_pass test xs i inside each = elim (cases_Bool (test (get_or xs i 0))) [
  | inl passes ↦ passes
  | inr stops ↦ absurd (let fails = list_all_at test xs i 0 inside stops in cc)
]

digit_small : (b : ℕ) → is_hex_digit b ≡ true → hex_value b < 16
digit_small b h = grind (arith, nat_tests)

pub hex_small : (digits : List ℕ) → Each is_hex_digit digits → length digits ≤ 4 → hex_number digits < 65536
hex_small [] each few = omega arith
hex_small (a ∷ []) each few =
    let a' = digit_small a (Each-tail is_hex_digit a [] each).0 in
    omega arith
hex_small (a ∷ b ∷ []) each few =
    let first = Each-tail is_hex_digit a (b ∷ []) each in
    let second = Each-tail is_hex_digit b [] first.1 in
    let a' = digit_small a first.0 in
    let b' = digit_small b second.0 in
    omega arith
hex_small (a ∷ b ∷ c ∷ []) each few =
    let first = Each-tail is_hex_digit a (b ∷ c ∷ []) each in
    let second = Each-tail is_hex_digit b (c ∷ []) first.1 in
    let third = Each-tail is_hex_digit c [] second.1 in
    let a' = digit_small a first.0 in
    let b' = digit_small b second.0 in
    let c' = digit_small c third.0 in
    omega arith
hex_small (a ∷ b ∷ c ∷ d ∷ []) each few =
    let first = Each-tail is_hex_digit a (b ∷ c ∷ d ∷ []) each in
    let second = Each-tail is_hex_digit b (c ∷ d ∷ []) first.1 in
    let third = Each-tail is_hex_digit c (d ∷ []) second.1 in
    let fourth = Each-tail is_hex_digit d [] third.1 in
    let a' = digit_small a first.0 in
    let b' = digit_small b second.0 in
    let c' = digit_small c third.0 in
    let d' = digit_small d fourth.0 in
    omega arith
hex_small (a ∷ b ∷ c ∷ d ∷ e ∷ digits) each few = absurd (omega arith)

-- one digit more
pub hex_more : (digits : List ℕ) (i : ℕ) → i < length digits
    → hex_number (take (i + 1) digits) ≡ hex_number (take i digits) * 16 + hex_value (get_or digits i 0)
hex_more digits i inside =
    ap hex_number (take_more digits i 0 inside) ∙ fold-append (λ n b. n * 16 + hex_value b) 0 (take i digits) (get_or digits i 0 ∷ [])

pub each_more : (digits : List ℕ) (i : ℕ) → i < length digits → Each is_hex_digit (take i digits) → is_hex_digit (get_or digits i 0) ≡ true
    → Each is_hex_digit (take (i + 1) digits)
each_more digits i inside each digit =
    subst (Each is_hex_digit) (sym (take_more digits i 0 inside))
    (Each-append is_hex_digit (take i digits) (get_or digits i 0 ∷ []) each (both_true _ true digit refl))

-- ---- codes

no_surrogate_of : (n : ℕ) → InScalarRange n → (n < 0xD800) ⊎ (0xE000 ≤ n)
no_surrogate_of n (inl low) = inl low
no_surrogate_of n (inr high) = inr high.0

out_of_range : (n : ℕ) → n < 65536 → OutOfScalarRange n → (n < 0xD800) ⊎ (0xE000 ≤ n) → ⊥
out_of_range n small (inl gap) (inl low) = omega (arith, gap.0)
out_of_range n small (inl gap) (inr high) = omega (arith, gap.1)
out_of_range n small (inr past) h = omega arith

record FirstNone (count : ℕ) (bytes : List ℕ) : Type 0 where
  digits : List ℕ
  byte : ℕ
  more : List ℕ
  is : bytes ≡ digits ++ byte ∷ more
  few : length digits < count
  each : Each is_hex_digit digits
  none : is_hex_digit byte ≡ false

first_none : (count : ℕ) (bytes : List ℕ) → ¬ Each is_hex_digit (take count bytes) → FirstNone count bytes
first_none zero bytes h = absurd (h refl)
first_none (suc count) [] h = absurd (h refl)
first_none (suc count) (b ∷ bytes) h = elim (cases_Bool (is_hex_digit b)) [
  | inl passes ↦
      let later = first_none count bytes (λ k. h (both_true (is_hex_digit b) _ passes k)) in
      record {
        digits = b ∷ later.digits;
        byte = later.byte;
        more = later.more;
        is = ap (λ z. b ∷ z) later.is;
        few = omega (arith, later.few);
        each = both_true (is_hex_digit b) _ passes later.each;
        none = later.none;
      }
  | inr stops ↦ record { digits = []; byte = b; more = bytes; is = refl; few = omega arith; each = refl; none = stops }
]

pub bad_code : (digits : List ℕ) → ¬ Each is_hex_digit (take 4 digits) → IsBadEscape (117 ∷ digits)
bad_code digits h =
    let first = first_none 4 digits h in
    no_digit first.digits first.byte first.more (ap (λ z. 117 ∷ z) first.is) first.few first.each first.none

-- as many digits as there are, and fewer than four
pub bad_short_code : (digits : List ℕ) → length digits < 4 → ¬ Each is_hex_digit digits → IsBadEscape (117 ∷ digits)
bad_short_code digits few h = bad_code digits (subst (λ z. ¬ Each is_hex_digit z) (sym (take_all 4 digits (omega arith))) h)

-- ---- the value of one digit

abbrev pub digit_value : ℕ → Option ℕ
digit_value b = if is_hex_digit b then Some (hex_value b) else None

pub digit_some : (b value : ℕ) → Some value ≡ digit_value b → (is_hex_digit b ≡ true) × (value ≡ hex_value b)
digit_some b value e = elim (cases_Bool (is_hex_digit b)) [
  | inl passes ↦
      let is : Some value ≡ Some (hex_value b) = e ∙ ap (λ t. if t then Some (hex_value b) else None) passes in
      (passes, cc)
  | inr stops ↦
      let is : Some value ≡ None = e ∙ ap (λ t. if t then Some (hex_value b) else None) stops in
      absurd cc
]

pub digit_none : (b : ℕ) → None ≡ digit_value b → is_hex_digit b ≡ false
digit_none b e = elim (cases_Bool (is_hex_digit b)) [
  | inl passes ↦
      let is : None ≡ Some (hex_value b) = e ∙ ap (λ t. if t then Some (hex_value b) else None) passes in
      absurd cc
  | inr stops ↦ stops
]

pub code_there : (digits : List ℕ) (n : ℕ) → 4 ≤ length digits → Each is_hex_digit (take 4 digits) → n ≡ hex_number (take 4 digits)
    → IsScalar n → InScalarRange n
    → Spelled (backslash ∷ 117 ∷ digits) (encode_utf8 n) (drop 4 digits)
code_there [] n long each is scalar range = absurd (omega arith)
code_there (a ∷ []) n long each is scalar range = absurd (omega arith)
code_there (a ∷ b ∷ []) n long each is scalar range = absurd (omega arith)
code_there (a ∷ b ∷ c ∷ []) n long each is scalar range = absurd (omega arith)
code_there (a ∷ b ∷ c ∷ d ∷ more) n long each is scalar range = record {
  spells =
      code refl (record { digits = each; is = omega arith; no_surrogate = no_surrogate_of n range }) nothing
      (sym (append-nil (encode_utf8 n)));
  utf8 = IsUtf8-encode n scalar;
}

pub no_code_there : (digits : List ℕ) (n : ℕ) → 4 ≤ length digits → Each is_hex_digit (take 4 digits) → n ≡ hex_number (take 4 digits)
    → OutOfScalarRange n → IsBadEscape (117 ∷ digits)
no_code_there [] n long each is range = absurd (omega arith)
no_code_there (a ∷ []) n long each is range = absurd (omega arith)
no_code_there (a ∷ b ∷ []) n long each is range = absurd (omega arith)
no_code_there (a ∷ b ∷ c ∷ []) n long each is range = absurd (omega arith)
no_code_there (a ∷ b ∷ c ∷ d ∷ more) n long each is range =
    let small : n < 65536 = omega (arith, hex_small (a ∷ b ∷ c ∷ d ∷ []) each (omega arith)) in
    surrogate refl each (λ m k. let same : m ≡ n = omega (arith, k.is) in
    out_of_range n small range (subst (λ z. (z < 0xD800) ⊎ (0xE000 ≤ z)) same k.no_surrogate))

-- ---- the bytes behind a backslash

pub no_letter_there : (behind : List ℕ) → length behind ≡ 0 → StringFault (backslash ∷ behind) cut []
no_letter_there [] none = cut_here [] no_letter
no_letter_there (b ∷ behind) none = absurd (omega arith)

pub bad_letter : (behind digits : List ℕ) (letter : ℕ) → behind ≡ letter ∷ digits → letter ≢ 117 → None ≡ escape_of letter
    → (0 < length (backslash ∷ behind)) × StringFault (backslash ∷ behind) bad (drop 0 (backslash ∷ behind))
bad_letter behind digits letter is unlike none = bad_here behind (subst IsBadEscape (sym is) (unknown (sym none) unlike))

pub letter_is : (behind digits : List ℕ) (letter e c : ℕ) → behind ≡ letter ∷ digits → Some e ≡ escape_of letter → c ≡ e
    → (0 < 2) × (2 ≤ length (backslash ∷ behind)) × Spelled (backslash ∷ behind) (encode_utf8 c) (drop 2 (backslash ∷ behind))
letter_is behind digits letter e c is some same =
    let stands : Spelled (backslash ∷ letter ∷ digits) (encode_utf8 c) digits =
    subst (λ z. Spelled (backslash ∷ letter ∷ digits) (encode_utf8 z) digits) (sym same) (letter_there letter e digits (sym some)) in (
      omega arith,
      omega (arith, ap length is),
      subst (λ z. Spelled (backslash ∷ z) (encode_utf8 c) (drop 2 (backslash ∷ z))) (sym is) stands,
    )

-- ---- the digits of a code

pub bad_code_there : (digits front : List ℕ) → front ≡ take 4 digits → ¬ Each is_hex_digit front
    → (0 < length (backslash ∷ 117 ∷ digits)) × StringFault (backslash ∷ 117 ∷ digits) bad (drop 0 (backslash ∷ 117 ∷ digits))
bad_code_there digits front is h = bad_here (117 ∷ digits) (bad_code digits (subst (λ z. ¬ Each is_hex_digit z) is h))

pub code_is : (digits front : List ℕ) (n c : ℕ) → front ≡ take 4 digits → 4 ≤ length digits
    → Each is_hex_digit front × (n ≡ hex_number front) → IsScalar n → c ≡ n → InScalarRange n
    → (0 < 6) × (6 ≤ length (backslash ∷ 117 ∷ digits))
    × Spelled (backslash ∷ 117 ∷ digits) (encode_utf8 c) (drop 6 (backslash ∷ 117 ∷ digits))
code_is digits front n c is long h scalar same range =
    let stands : Spelled (backslash ∷ 117 ∷ digits) (encode_utf8 n) (drop 4 digits) =
    code_there digits n long (subst (Each is_hex_digit) is h.0) (h.1 ∙ ap hex_number is) scalar range in
    (omega arith, omega arith, subst (λ z. Spelled (backslash ∷ 117 ∷ digits) (encode_utf8 z) (drop 4 digits)) (sym same) stands)

pub surrogate_there : (digits front : List ℕ) (n : ℕ) → front ≡ take 4 digits → 4 ≤ length digits
    → Each is_hex_digit front × (n ≡ hex_number front) → OutOfScalarRange n
    → (0 < length (backslash ∷ 117 ∷ digits)) × StringFault (backslash ∷ 117 ∷ digits) bad (drop 0 (backslash ∷ 117 ∷ digits))
surrogate_there digits front n is long h range =
    bad_here (117 ∷ digits) (no_code_there digits n long (subst (Each is_hex_digit) is h.0) (h.1 ∙ ap hex_number is) range)

pub bad_short_code_there : (digits : List ℕ) → length digits < 4 → ¬ Each is_hex_digit digits
    → (0 < length (backslash ∷ 117 ∷ digits)) × StringFault (backslash ∷ 117 ∷ digits) bad (drop 0 (backslash ∷ 117 ∷ digits))
bad_short_code_there digits few h = bad_here (117 ∷ digits) (bad_short_code digits few h)

pub cut_code_there : (digits : List ℕ) → length digits < 4 → Each is_hex_digit digits → StringFault (backslash ∷ 117 ∷ digits) cut []
cut_code_there digits few each = cut_here (117 ∷ digits) (few_digits few each)

pub clash : (test : Bool) → test ≡ true → test ≡ false → ⊥
clash test passes fails = cc
