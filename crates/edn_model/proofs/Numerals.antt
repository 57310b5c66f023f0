-- What `decimal` writes of a number is a numeral of it.
use Rattle.std.proofs.Common.{◌≡◌, ℕ, zero, suc, ◌+◌, ◌-◌, ◌*◌, ◌/◌, ◌%◌, ◌^◌, ◌<◌, ◌≤◌, Bool, true, List, [], ◌∷◌, ◌++◌, length}
use Rattle.std.proofs.Common.{length-append, ℤ, pos, negsuc, refl, ap, sym, subst, arith, inl, inr, decimal}
use Rattle.std.proofs.lemmas.Bool.Decides.{nat_tests}
use Rattle.std.proofs.lemmas.Fmt.{decimal_by_steps}
use Rattle.std.proofs.lemmas.List.Sums.{fold-append}
use Rattle.std.specs.Fmt.{signed_decimal}
use Rattle.std.specs.Prelude.{◌==◌, not, int_le}
use Rattle.edn_model.specs.Form as form
use Rattle.edn_model.specs.Runs.{Each}
use Rattle.edn_model.specs.Bytes.{is_digit, begins, TokenEnds}
use Rattle.edn_model.specs.Tokens.{number, IsDecimal, IsNumeral, unsigned, negative, IsLong}
use Rattle.edn_model.specs.Grammar.{Text, atom}
use Rattle.edn_model.specs.Canon.{Canon}
use Rattle.edn_model.proofs.Runs.{both, both_true, Each-append}

abbrev pub no_zero : ℕ → Bool
no_zero b = not (b == 48)

pub record Spelled (n : ℕ) (digits : List ℕ) : Type 0 where
  pub some : 0 < length digits
  pub each : Each is_digit digits
  pub leading : 0 < n → begins no_zero digits ≡ true
  pub alone : n ≡ 0 → digits ≡ 48 ∷ []
  pub is : n ≡ number digits

digit_of : (n : ℕ) → n < 10 → is_digit (48 + n) ≡ true
digit_of n h = grind (arith, nat_tests)

no_zero_of : (n : ℕ) → 0 < n → no_zero (48 + n) ≡ true
no_zero_of n h = grind (arith, nat_tests)

one_digit : (n : ℕ) → n < 10 → Spelled n ((48 + n) ∷ [])
one_digit n h = record {
  some = omega arith;
  each = both_true (is_digit (48 + n)) true (digit_of n h) refl;
  leading = no_zero_of n;
  alone = λ e. ap (λ (k : ℕ). (48 + k) ∷ []) e;
  is = let value : number ((48 + n) ∷ []) ≡ 0 * 10 + (48 + n - 48) = refl in omega arith;
}

number-push : (digits : List ℕ) (b : ℕ) → number (digits ++ b ∷ []) ≡ number digits * 10 + (b - 48)
number-push digits b = fold-append (λ n b. n * 10 + (b - 48)) 0 digits (b ∷ [])

begins_more : (test : ℕ → Bool) (digits more : List ℕ) → 0 < length digits → begins test digits ≡ true → begins test (digits ++ more) ≡ true
begins_more test [] more some h = absurd (omega arith)
begins_more test (b ∷ digits) more some h = h

more_digits : (n : ℕ) (digits : List ℕ) → 10 ≤ n → Spelled (n / 10) digits → Spelled n (digits ++ ((48 + n % 10) ∷ []))
more_digits n digits h s =
    let last : n % 10 < 10 = omega arith in
    let some = s.some in
    record {
      some = omega (arith, length-append digits ((48 + n % 10) ∷ []));
      each =
          Each-append is_digit digits ((48 + n % 10) ∷ []) s.each (both_true (is_digit (48 + n % 10)) true (digit_of (n % 10) last) refl);
      leading = λ _. begins_more no_zero digits ((48 + n % 10) ∷ []) some (s.leading (omega arith));
      alone = λ e. absurd (omega arith);
      is = let front = s.is in let value = number-push digits (48 + n % 10) in omega arith;
    }

spelled : (n : ℕ) → n < 2 ^ 64 → Spelled n (decimal n)
spelled = decimal_by_steps Spelled one_digit more_digits

decimal_of : (n : ℕ) (digits : List ℕ) → Spelled n digits → IsDecimal n digits
decimal_of zero digits s = record { some = s.some; each = s.each; leading = inl (s.alone refl); is = s.is }
decimal_of (suc n) digits s = record { some = s.some; each = s.each; leading = inr (s.leading (omega arith)); is = s.is }

pub decimal_is : (n : ℕ) → n < 2 ^ 64 → IsDecimal n (decimal n)
decimal_is n h = decimal_of n (decimal n) (spelled n h)

pub signed_decimal_is : (z : ℤ) → IsLong z → IsNumeral z (signed_decimal z)
signed_decimal_is (pos n) h =
    let most = (both true (int_le (pos n) (pos 9223372036854775807)) h).1 in
    let below : n ≤ 9223372036854775807 = grind (arith, nat_tests) in
    unsigned (decimal_is n (omega arith)) refl
signed_decimal_is (negsuc n) h =
    let most = (both (int_le (negsuc 9223372036854775807) (negsuc n)) true h).0 in
    let below : n ≤ 9223372036854775807 = grind (arith, nat_tests) in
    negative refl (decimal_is (suc n) (omega arith)) refl

pub integer_text_is : (depth : ℕ) (z : ℤ) (bytes rest : List ℕ) → IsLong z → Canon (form.integer z) bytes → TokenEnds rest
    → Text depth (form.integer z) (bytes ++ rest) rest
integer_text_is depth z bytes rest fits e ends =
    let numeral : IsNumeral z bytes = subst (IsNumeral z) (sym e) (signed_decimal_is z fits) in
    atom bytes (numeral, fits) refl ends
