-- Numbers and their bytes, highest first.
use Rattle.std.proofs.Common.{◌≡◌, inl, inr, ◌+◌, ◌-◌, ◌*◌, ◌/◌, ◌%◌, ◌^◌, ◌<◌, ℕ, zero, suc, ℤ, pos, negsuc, List, [], ◌∷◌, length, true}
use Rattle.std.proofs.Common.{refl, sym, ◌∙◌, ap, subst, arith}
use Rattle.std.proofs.lemmas.Nat.{div-mul-add, mod-mul-add, div-add-mod', mul-le, mod_below}
use Rattle.std.proofs.lemmas.Int.{to_z-of_z, of_z-to_z}
use Rattle.std.proofs.lemmas.Bool.{ltb-true, lt-ltb, le-ltb, cases_lt}
use Rattle.std.proofs.Math.Nat as nat
use Rattle.std.specs.Prelude.{fold, FitsSigned}
use Rattle.std.specs.List.{AllByRecursion}
use Rattle.std.specs.Int.{w64, bytes_high_first, byte_at, cast_signed, cast_unsigned}
use Rattle.log_model.specs.Fields.{number_in}
use Rattle.log_model.specs.Storable.{is_i64}

abbrev pub AreBytes : List ℕ → Type 0
AreBytes bytes = AllByRecursion (λ byte. byte < 256) bytes

abbrev from : ℕ → List ℕ → ℕ
from n bytes = fold (λ m byte. m * 256 + byte) n bytes

positive : (k : ℕ) → 0 < 256 ^ k
positive zero = omega arith
positive (suc k) = omega (arith, positive k, nat.pow-suc 256 k)

shifted : (n b p x : ℕ) → (n * 256 + b) * p + x ≡ n * (p * 256) + ((0 * 256 + b) * p + x)
shifted n b p x = omega arith

first_digit : (b p x : ℕ) → (0 * 256 + b) * p + x ≡ b * p + x
first_digit b p x = omega arith

from-is : (n : ℕ) (bytes : List ℕ) → from n bytes ≡ n * 256 ^ length bytes + from 0 bytes
from-is n [] = omega arith
from-is n (b ∷ bytes) =
    from-is (n * 256 + b) bytes
    ∙ shifted n b (256 ^ length bytes) (from 0 bytes)
    ∙ ap (λ p. n * p + ((0 * 256 + b) * 256 ^ length bytes + from 0 bytes)) (sym (nat.pow-suc 256 (length bytes)))
    ∙ ap (λ x. n * 256 ^ suc (length bytes) + x) (sym (from-is (0 * 256 + b) bytes))

number_in-cons : (b : ℕ) (bytes : List ℕ) → number_in (b ∷ bytes) ≡ b * 256 ^ length bytes + number_in bytes
number_in-cons b bytes = from-is (0 * 256 + b) bytes ∙ first_digit b (256 ^ length bytes) (number_in bytes)

pub length-high_first : (k n : ℕ) → length (bytes_high_first k n) ≡ k
length-high_first zero n = refl
length-high_first (suc k) n = ap suc (length-high_first k n)

byte_at-is : (k n : ℕ) → byte_at k n ≡ n / 256 ^ k % 256
byte_at-is zero n = omega arith
byte_at-is (suc k) n = refl

-- two digits
mod-two : (n p : ℕ) → 0 < p → n % (256 * p) ≡ n / p % 256 * p + n % p
mod-two n p some =
    let q = n / p / 256 in
    let d = n / p % 256 in
    let r = n % p in
    let small : d < 256 = mod_below (n / p) 256 (omega arith) in
    let low : r < p = mod_below n p some in
    let fits : d * p + r < 256 * p = omega (arith, mul-le d p 255 p (omega (arith, small)) (omega arith), low) in
    let whole : n ≡ q * (256 * p) + (d * p + r) =
    omega (arith, div-add-mod' n p, div-add-mod' (n / p) 256, ap (λ x. x * p) (div-add-mod' (n / p) 256)) in
    ap (λ x. x % (256 * p)) whole ∙ mod-mul-add q (256 * p) (d * p + r) fits

number_in-high_first_mod : (k n : ℕ) → number_in (bytes_high_first k n) ≡ n % 256 ^ k
number_in-high_first_mod zero n = omega arith
number_in-high_first_mod (suc k) n =
    number_in-cons (byte_at k n) (bytes_high_first k n)
    ∙ ap (λ j. byte_at k n * 256 ^ j + number_in (bytes_high_first k n)) (length-high_first k n)
    ∙ ap (λ x. x * 256 ^ k + number_in (bytes_high_first k n)) (byte_at-is k n)
    ∙ ap (λ x. n / 256 ^ k % 256 * 256 ^ k + x) (number_in-high_first_mod k n)
    ∙ sym (mod-two n (256 ^ k) (positive k))
    ∙ ap (λ x. n % x) (nat.mul_comm 256 (256 ^ k) ∙ sym (nat.pow-suc 256 k))

pub number_in-high_first : (k n : ℕ) → n < 256 ^ k → number_in (bytes_high_first k n) ≡ n
number_in-high_first k n fits = number_in-high_first_mod k n ∙ nat.mod-eq_of_lt fits

pub number_in-Below : (bytes : List ℕ) → AreBytes bytes → number_in bytes < 256 ^ length bytes
number_in-Below [] are = omega arith
number_in-Below (b ∷ bytes) are =
    omega (
      arith,
      number_in-cons b bytes,
      number_in-Below bytes are.1,
      nat.pow-suc 256 (length bytes),
      mul-le b (256 ^ length bytes) 255 (256 ^ length bytes) (omega (arith, are.0)) (omega arith),
    )

pub high_first-AreBytes : (k n : ℕ) → AreBytes (bytes_high_first k n)
high_first-AreBytes zero n = tt
high_first-AreBytes (suc k) n = (omega (arith, byte_at-is k n, mod_below (n / 256 ^ k) 256 (omega arith)), high_first-AreBytes k n)

-- bytes of one length with one number are the same
same_bytes : (xs ys : List ℕ) → AreBytes xs → AreBytes ys → length xs ≡ length ys → number_in xs ≡ number_in ys → xs ≡ ys
same_bytes [] [] bx by long is = refl
same_bytes [] (y ∷ ys) bx by long is = absurd (omega (arith, long))
same_bytes (x ∷ xs) [] bx by long is = absurd (omega (arith, long))
same_bytes (x ∷ xs) (y ∷ ys) bx by long is =
    let as_long : length xs ≡ length ys = omega (arith, long) in
    let p = 256 ^ length xs in
    let small_x : number_in xs < p = number_in-Below xs bx.1 in
    let small_y : number_in ys < p = subst (λ n. number_in ys < 256 ^ n) (sym as_long) (number_in-Below ys by.1) in
    let both : x * p + number_in xs ≡ y * p + number_in ys =
    sym (number_in-cons x xs) ∙ is ∙ number_in-cons y ys ∙ ap (λ n. y * 256 ^ n + number_in ys) (sym as_long) in
    let heads : x ≡ y = sym (div-mul-add x p (number_in xs) small_x) ∙ ap (λ n. n / p) both ∙ div-mul-add y p (number_in ys) small_y in
    let tails : number_in xs ≡ number_in ys =
    sym (mod-mul-add x p (number_in xs) small_x) ∙ ap (λ n. n % p) both ∙ mod-mul-add y p (number_in ys) small_y in
    let rest : xs ≡ ys = same_bytes xs ys bx.1 by.1 as_long tails in
    λ i. heads i ∷ rest i

pub high_first-number_in : (k : ℕ) (bytes : List ℕ) → length bytes ≡ k → AreBytes bytes → bytes_high_first k (number_in bytes) ≡ bytes
high_first-number_in k bytes long are =
    same_bytes (bytes_high_first k (number_in bytes)) bytes (high_first-AreBytes k (number_in bytes)) are
    (length-high_first k (number_in bytes) ∙ sym long)
    (number_in-high_first k (number_in bytes) (subst (λ n. number_in bytes < 256 ^ n) long (number_in-Below bytes are)))

-- ---- numbers in two's complement

FitsSigned-from : (z : ℤ) → is_i64 z ≡ true → FitsSigned w64 z
FitsSigned-from (pos n) fits = record { sfits = ltb-true n (2 ^ 63) fits }
FitsSigned-from (negsuc n) fits = record { sfits = ltb-true n (2 ^ 63) fits }

pub unsigned-Below : (z : ℤ) → is_i64 z ≡ true → cast_unsigned w64 z < 2 ^ 64
unsigned-Below (pos n) fits = omega (arith, ltb-true n (2 ^ 63) fits)
unsigned-Below (negsuc n) fits = omega (arith, ltb-true n (2 ^ 63) fits)

pub signed-unsigned : (z : ℤ) → is_i64 z ≡ true → cast_signed w64 (cast_unsigned w64 z) ≡ z
signed-unsigned z fits = to_z-of_z w64 z (FitsSigned-from z fits)

pub is_i64-signed : (n : ℕ) → n < 2 ^ 64 → is_i64 (cast_signed w64 n) ≡ true
is_i64-signed n fits = elim (cases_lt n (2 ^ 63)) [
  | inl small ↦ rw (lt-ltb n (2 ^ 63) small) (lt-ltb n (2 ^ 63) small)
  | inr large ↦ rw (le-ltb n (2 ^ 63) large) (lt-ltb (2 ^ 64 - suc n) (2 ^ 63) (omega (arith, large)))
]

pub unsigned-signed : (n : ℕ) → n < 2 ^ 64 → cast_unsigned w64 (cast_signed w64 n) ≡ n
unsigned-signed n fits = of_z-to_z w64 n fits
