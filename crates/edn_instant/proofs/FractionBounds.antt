-- A fraction of a second is less than a second.
use Rattle.std.proofs.Common.{◌≡◌, ℕ, ◌+◌, ◌-◌, ◌*◌, ◌/◌, ◌^◌, ◌<◌, ◌≤◌, true, List, [], ◌∷◌, length, fold, ap, ◌∙◌, sym, arith}
use Rattle.std.proofs.lemmas.Bool.Decides.{nat_tests}
use Rattle.std.proofs.Math.Nat.{mul_assoc, mul-le-mul_right, pow-succ', one-le-pow, pow-le-pow_right, div-lt_iff_lt-mul}
use Rattle.edn_model.specs.Bytes.{is_digit, Each}
use Rattle.edn_model.specs.Tokens.{number}
use Rattle.edn_model.proofs.Runs.{Each-tail}
use Rattle.edn_token.proofs.Numbers.{with_digit}

digit_value : (b : ℕ) → is_digit b ≡ true → b - 48 ≤ 9
digit_value b h = grind (arith, nat_tests)

fold_below : (digits : List ℕ) (n : ℕ) → Each is_digit digits → fold with_digit n digits + 1 ≤ (n + 1) * 10 ^ length digits
fold_below [] n h = omega arith
fold_below (b ∷ digits) n h =
    let parts = Each-tail is_digit b digits h in
    let rest = fold_below digits (with_digit n b) parts.1 in
    let value = digit_value b parts.0 in
    let wider : (with_digit n b + 1) * 10 ^ length digits ≤ ((n + 1) * 10) * 10 ^ length digits =
    mul-le-mul_right (10 ^ length digits) (omega arith) in
    let whole : ((n + 1) * 10) * 10 ^ length digits ≡ (n + 1) * 10 ^ length (b ∷ digits) =
    mul_assoc (n + 1) 10 (10 ^ length digits) ∙ ap (λ (k : ℕ). (n + 1) * k) (sym (pow-succ' 10 (length digits))) in
    omega (arith, rest, wider, whole)

pub number_below : (digits : List ℕ) → Each is_digit digits → number digits < 10 ^ length digits
number_below digits h = let bound = fold_below digits 0 h in omega arith

pub nine_digits : (digits : List ℕ) → length digits ≤ 9 → 10 ^ length digits ≤ 1000000000
nine_digits digits few = pow-le-pow_right {n = 10} (omega arith) {i = length digits} {j = 9} few

pub power_some : (k : ℕ) → 0 < 10 ^ k
power_some k = one-le-pow k 10 (omega arith)

pub below_second : (n power : ℕ) → 0 < power → n < power → n * 1000 / power ≤ 999
below_second n power some below =
    let whole = (div-lt_iff_lt-mul {k = power} {x = n * 1000} {y = 1000} some).1 (omega arith) in
    omega arith
