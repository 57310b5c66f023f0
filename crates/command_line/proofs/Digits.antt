-- What a parse gives of a word of digits.
use Rattle.std.proofs.Common.{◌≡◌, ◌≢◌, ℕ, ◌<◌, ◌≤◌, ◌^◌, true, List, [], ◌∷◌, length, get_or, Some, None, arith}
use Rattle.std.proofs.lemmas.Str.Parse.{IsNumeralModel, numerals_by_value, tells_all_ascii_digits, parse_plain}
use Rattle.std.specs.Prelude.{Result}
use Rattle.std.specs.Result.{OkIff}
use Rattle.std.specs.Str.{all_ascii_digits}
use Rattle.std.specs.Str.Parse.{digits_value, ParsesUnsigned}
use Rattle.command_line.specs.Words.{begins_above_zero, number_up_to}

abbrev pub IsDigits : List ℕ → Type 0
IsDigits word = all_ascii_digits word ≡ true

own : IsNumeralModel IsDigits (digits_value 10)
own = numerals_by_value IsDigits tells_all_ascii_digits

no_plus : (word : List ℕ) → begins_above_zero word ≡ true → get_or word 0 0 ≢ 43
no_plus [] begins = absurd (cc)
no_plus (c ∷ cs) begins = grind arith

pub parses : {E : Type 0} (word : List ℕ) (r : Result ℕ E) → ParsesUnsigned 64 10 word r → begins_above_zero word ≡ true
    → OkIff r (IsDigits word × (0 < length word) × (digits_value 10 word < 2 ^ 64)) (digits_value 10 word)
parses word r parsed begins = parse_plain own 64 word r parsed (no_plus word begins)

-- what is read of such a word, by whether it is all digits and not too great
pub no_number : (greatest : ℕ) (word : List ℕ)
    → (all_ascii_digits word ≡ true → 1 ≤ digits_value 10 word → digits_value 10 word ≤ greatest → ⊥)
    → None ≡ number_up_to greatest word
no_number greatest word not = grind arith

pub a_number : (greatest : ℕ) (word : List ℕ) (n : ℕ) → begins_above_zero word ≡ true → all_ascii_digits word ≡ true
    → n ≡ digits_value 10 word → 1 ≤ n → n ≤ greatest
    → Some n ≡ number_up_to greatest word
a_number greatest word n begins digits is least most = grind arith

nonempty : (word : List ℕ) → begins_above_zero word ≡ true → 0 < length word
nonempty [] begins = absurd (cc)
nonempty (c ∷ cs) begins = omega arith

pub none_parsed : (greatest : ℕ) (word : List ℕ) → greatest < 2 ^ 64 → begins_above_zero word ≡ true
    → ¬ (IsDigits word × (0 < length word) × (digits_value 10 word < 2 ^ 64))
    → None ≡ number_up_to greatest word
none_parsed greatest word small begins none =
    no_number greatest word (λ digits least most. none (digits, nonempty word begins, omega (arith, most)))
