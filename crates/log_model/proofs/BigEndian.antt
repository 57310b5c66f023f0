-- A number read from its bytes is what `from_be_bytes` gives.
use Rattle.std.proofs.Common.{◌≡◌, ℕ, List, [], ◌∷◌, length, arith}
use Rattle.std.specs.Int.{w32, w64, w128, from_be_bytes}
use Rattle.log_model.specs.Fields.{number_in}

pub number_in-from_be_bytes_4 : (bytes : List ℕ) → length bytes ≡ 4 → number_in bytes ≡ from_be_bytes w32 bytes
number_in-from_be_bytes_4 [] long = absurd (omega (arith, long))
number_in-from_be_bytes_4 (a ∷ []) long = absurd (omega (arith, long))
number_in-from_be_bytes_4 (a ∷ b ∷ []) long = absurd (omega (arith, long))
number_in-from_be_bytes_4 (a ∷ b ∷ c ∷ []) long = absurd (omega (arith, long))
number_in-from_be_bytes_4 (a ∷ b ∷ c ∷ d ∷ []) long = omega arith
number_in-from_be_bytes_4 (a ∷ b ∷ c ∷ d ∷ q ∷ rest) long = absurd (omega (arith, long))

pub number_in-from_be_bytes_8 : (bytes : List ℕ) → length bytes ≡ 8 → number_in bytes ≡ from_be_bytes w64 bytes
number_in-from_be_bytes_8 [] long = absurd (omega (arith, long))
number_in-from_be_bytes_8 (a ∷ []) long = absurd (omega (arith, long))
number_in-from_be_bytes_8 (a ∷ b ∷ []) long = absurd (omega (arith, long))
number_in-from_be_bytes_8 (a ∷ b ∷ c ∷ []) long = absurd (omega (arith, long))
number_in-from_be_bytes_8 (a ∷ b ∷ c ∷ d ∷ []) long = absurd (omega (arith, long))
number_in-from_be_bytes_8 (a ∷ b ∷ c ∷ d ∷ e ∷ []) long = absurd (omega (arith, long))
number_in-from_be_bytes_8 (a ∷ b ∷ c ∷ d ∷ e ∷ f ∷ []) long = absurd (omega (arith, long))
number_in-from_be_bytes_8 (a ∷ b ∷ c ∷ d ∷ e ∷ f ∷ g ∷ []) long = absurd (omega (arith, long))
number_in-from_be_bytes_8 (a ∷ b ∷ c ∷ d ∷ e ∷ f ∷ g ∷ h ∷ []) long = omega arith
number_in-from_be_bytes_8 (a ∷ b ∷ c ∷ d ∷ e ∷ f ∷ g ∷ h ∷ q ∷ rest) long = absurd (omega (arith, long))

pub number_in-from_be_bytes_16 : (bytes : List ℕ) → length bytes ≡ 16 → number_in bytes ≡ from_be_bytes w128 bytes
number_in-from_be_bytes_16 [] long = absurd (omega (arith, long))
number_in-from_be_bytes_16 (a ∷ []) long = absurd (omega (arith, long))
number_in-from_be_bytes_16 (a ∷ b ∷ []) long = absurd (omega (arith, long))
number_in-from_be_bytes_16 (a ∷ b ∷ c ∷ []) long = absurd (omega (arith, long))
number_in-from_be_bytes_16 (a ∷ b ∷ c ∷ d ∷ []) long = absurd (omega (arith, long))
number_in-from_be_bytes_16 (a ∷ b ∷ c ∷ d ∷ e ∷ []) long = absurd (omega (arith, long))
number_in-from_be_bytes_16 (a ∷ b ∷ c ∷ d ∷ e ∷ f ∷ []) long = absurd (omega (arith, long))
number_in-from_be_bytes_16 (a ∷ b ∷ c ∷ d ∷ e ∷ f ∷ g ∷ []) long = absurd (omega (arith, long))
number_in-from_be_bytes_16 (a ∷ b ∷ c ∷ d ∷ e ∷ f ∷ g ∷ h ∷ []) long = absurd (omega (arith, long))
number_in-from_be_bytes_16 (a ∷ b ∷ c ∷ d ∷ e ∷ f ∷ g ∷ h ∷ i ∷ []) long = absurd (omega (arith, long))
number_in-from_be_bytes_16 (a ∷ b ∷ c ∷ d ∷ e ∷ f ∷ g ∷ h ∷ i ∷ j ∷ []) long = absurd (omega (arith, long))
number_in-from_be_bytes_16 (a ∷ b ∷ c ∷ d ∷ e ∷ f ∷ g ∷ h ∷ i ∷ j ∷ k ∷ []) long = absurd (omega (arith, long))
number_in-from_be_bytes_16 (a ∷ b ∷ c ∷ d ∷ e ∷ f ∷ g ∷ h ∷ i ∷ j ∷ k ∷ l ∷ []) long = absurd (omega (arith, long))
number_in-from_be_bytes_16 (a ∷ b ∷ c ∷ d ∷ e ∷ f ∷ g ∷ h ∷ i ∷ j ∷ k ∷ l ∷ m ∷ []) long = absurd (omega (arith, long))
number_in-from_be_bytes_16 (a ∷ b ∷ c ∷ d ∷ e ∷ f ∷ g ∷ h ∷ i ∷ j ∷ k ∷ l ∷ m ∷ n ∷ []) long = absurd (omega (arith, long))
number_in-from_be_bytes_16 (a ∷ b ∷ c ∷ d ∷ e ∷ f ∷ g ∷ h ∷ i ∷ j ∷ k ∷ l ∷ m ∷ n ∷ o ∷ []) long = absurd (omega (arith, long))
number_in-from_be_bytes_16 (a ∷ b ∷ c ∷ d ∷ e ∷ f ∷ g ∷ h ∷ i ∷ j ∷ k ∷ l ∷ m ∷ n ∷ o ∷ p ∷ []) long = omega arith
number_in-from_be_bytes_16 (a ∷ b ∷ c ∷ d ∷ e ∷ f ∷ g ∷ h ∷ i ∷ j ∷ k ∷ l ∷ m ∷ n ∷ o ∷ p ∷ q ∷ rest) long = absurd (omega (arith, long))
