-- Two and four digits in front of a text, and what follows them.
use Rattle.std.proofs.Common.{◌≡◌, ℕ, ◌+◌, ◌/◌, ◌%◌, ◌<◌, List, ◌∷◌, ◌++◌, refl, ap, ◌∙◌, sym, subst, arith}
use Rattle.edn_model.specs.Instants.{digits}
use Rattle.edn_model.proofs.OneInstant.{Cut, same_digits}
use Rattle.edn_instant.specs.Fronts.{Front, NoFront, IsTwo, IsFour}

-- what stands in front of a text is read in one way
pub after_two : (m n : ℕ) (here rest x : List ℕ) → Front (IsTwo m) here rest → n < 100 → here ≡ digits 2 n ++ x → Cut m n rest x
after_two m n here rest x front below is =
    same_digits 2 m n rest x (omega (arith, front.kind.0)) (omega arith)
    (ap (λ (t : List ℕ). t ++ rest) (sym front.kind.1) ∙ sym front.is ∙ is)

pub after_four : (m n : ℕ) (here rest x : List ℕ) → Front (IsFour m) here rest → n < 10000 → here ≡ digits 4 n ++ x → Cut m n rest x
after_four m n here rest x front below is =
    same_digits 4 m n rest x (omega (arith, front.kind.0)) (omega arith)
    (ap (λ (t : List ℕ). t ++ rest) (sym front.kind.1) ∙ sym front.is ∙ is)

pub front_then : (Kind : List ℕ → Type 0) (here rest x : List ℕ) → Front Kind here rest → rest ≡ x → Front Kind here x
front_then Kind here rest x front is = subst (Front Kind here) is front

-- ---- four digits are two and two

tens : (n : ℕ) → n / 10 / 10 ≡ n / 100
tens n = omega arith

high_of : (n : ℕ) → n < 10000 → n / 100 < 100
high_of n below = omega arith

low_of : (n : ℕ) → n % 100 < 100
low_of n = omega arith

low_tens : (n : ℕ) → n / 10 % 10 ≡ n % 100 / 10 % 10
low_tens n = omega arith

low_ones : (n : ℕ) → n % 10 ≡ n % 100 % 10
low_ones n = omega arith

pub four_is_two_and_two : (n : ℕ) (rest : List ℕ) → digits 4 n ++ rest ≡ digits 2 (n / 100) ++ (digits 2 (n % 100) ++ rest)
four_is_two_and_two n rest =
    ap (λ (q : ℕ). digits 2 q ++ (48 + n / 10 % 10) ∷ (48 + n % 10) ∷ rest) (tens n)
    ∙ ap (λ (q : ℕ). digits 2 (n / 100) ++ (48 + q) ∷ (48 + n % 10) ∷ rest) (low_tens n)
    ∙ ap (λ (q : ℕ). digits 2 (n / 100) ++ (48 + n % 100 / 10 % 10) ∷ (48 + q) ∷ rest) (low_ones n)

pub no_high : (here : List ℕ) → ((n : ℕ) → NoFront (IsTwo n) here) → (n : ℕ) → NoFront (IsFour n) here
no_high here none n text rest four is =
    none (n / 100) (digits 2 (n / 100)) (digits 2 (n % 100) ++ rest) (high_of n four.0, refl)
    (is ∙ ap (λ (t : List ℕ). t ++ rest) four.1 ∙ four_is_two_and_two n rest)

pub no_low : (high : ℕ) (here behind : List ℕ) → Front (IsTwo high) here behind
    → ((n : ℕ) → NoFront (IsTwo n) behind) → (n : ℕ) → NoFront (IsFour n) here
no_low high here behind front none n text rest four is =
    let cut =
    after_two high (n / 100) here behind (digits 2 (n % 100) ++ rest) front (high_of n four.0)
    (is ∙ ap (λ (t : List ℕ). t ++ rest) four.1 ∙ four_is_two_and_two n rest) in
    none (n % 100) (digits 2 (n % 100)) rest (low_of n, refl) cut.rest
