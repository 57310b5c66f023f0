-- A token is a numeral where the digits behind its sign are a decimal.
use Rattle.std.proofs.Common.{◌≡◌, ◌≢◌, ℕ, ℤ, pos, neg_ℤ, Option, Some, None, List, [], ◌∷◌, length, refl, ap, ◌∙◌, sym, subst, arith}
use Rattle.edn_model.specs.Bytes.{plus, minus}
use Rattle.edn_model.specs.Tokens.{number, IsDecimal, IsNumeral, unsigned, positive, negative}
use Rattle.edn_model.proofs.OneForm.{apart, no_sign}
use Rattle.edn_model.proofs.Runs.{tails}
use Rattle.edn_token.specs.declared.number.Number.{Number}
use Rattle.edn_token.specs.declared.number.Number.TheVariants.{Long, Wide}
use Rattle.edn_token.specs.Numerals.{DigitsAre, NumeralIs}

empty_cons : (b : ℕ) (x : List ℕ) → [] ≡ b ∷ x → ⊥
empty_cons b x e = cc

own_number : (n : ℕ) (digits : List ℕ) → IsDecimal n digits → IsDecimal (number digits) digits
own_number n digits h = record { some = h.some; each = h.each; leading = h.leading; is = refl }

plus_digits : (z : ℤ) (token digits : List ℕ) → token ≡ plus ∷ digits → IsNumeral z token → IsDecimal (number digits) digits
plus_digits z token digits is (unsigned {n = n} h e) = absurd (no_sign n plus token digits h is refl)
plus_digits z token digits is (positive {n = n} {digits = a} js h e) = own_number n digits (subst (IsDecimal n) (tails (sym js ∙ is)) h)
plus_digits z token digits is (negative {digits = a} js h e) = absurd (let wrong = apart plus minus digits a token is js in omega arith)

minus_digits : (z : ℤ) (token digits : List ℕ) → token ≡ minus ∷ digits → IsNumeral z token → IsDecimal (number digits) digits
minus_digits z token digits is (unsigned {n = n} h e) = absurd (no_sign n minus token digits h is refl)
minus_digits z token digits is (positive {digits = a} js h e) = absurd (let wrong = apart minus plus digits a token is js in omega arith)
minus_digits z token digits is (negative {n = n} {digits = a} js h e) = own_number n digits (subst (IsDecimal n) (tails (sym js ∙ is)) h)

own_digits : (z : ℤ) (token : List ℕ) → ((x : List ℕ) → token ≢ plus ∷ x) → ((x : List ℕ) → token ≢ minus ∷ x) → IsNumeral z token
    → IsDecimal (number token) token
own_digits z token no_plus no_minus (unsigned {n = n} h e) = own_number n token h
own_digits z token no_plus no_minus (positive {digits = a} js h e) = absurd (no_plus a js)
own_digits z token no_plus no_minus (negative {digits = a} js h e) = absurd (no_minus a js)

pub behind_plus : (token digits : List ℕ) (r : Option Number) → token ≡ plus ∷ digits → DigitsAre pos digits r → NumeralIs token r
behind_plus token digits None is h = λ z k. h (plus_digits z token digits is k)
behind_plus token digits (Some (Long z)) is h = positive is h.0 h.1
behind_plus token digits (Some Wide) is h = (pos (number digits), positive is h.0 refl, h.1)

pub behind_minus : (token digits : List ℕ) (r : Option Number) → token ≡ minus ∷ digits → DigitsAre (λ n. neg_ℤ (pos n)) digits r
    → NumeralIs token r
behind_minus token digits None is h = λ z k. h (minus_digits z token digits is k)
behind_minus token digits (Some (Long z)) is h = negative is h.0 h.1
behind_minus token digits (Some Wide) is h = (neg_ℤ (pos (number digits)), negative is h.0 refl, h.1)

pub without_sign : (token : List ℕ) (r : Option Number)
    → ((x : List ℕ) → token ≢ plus ∷ x) → ((x : List ℕ) → token ≢ minus ∷ x) → DigitsAre pos token r → NumeralIs token r
without_sign token None no_plus no_minus h = λ z k. h (own_digits z token no_plus no_minus k)
without_sign token (Some (Long z)) no_plus no_minus h = unsigned h.0 h.1
without_sign token (Some Wide) no_plus no_minus h = (pos (number token), unsigned h.0 refl, h.1)

pub empty_no_numeral : (token : List ℕ) → token ≡ [] → NumeralIs token None
empty_no_numeral token e = λ z h.
    let digits = own_digits z token (λ x i. empty_cons plus x (sym e ∙ i)) (λ x i. empty_cons minus x (sym e ∙ i)) h in
    let some = digits.some in
    omega (arith, ap length e)
