-- The number that the first bytes of a text make rises with the text.
use Rattle.std.proofs.Common.{◌≡◌, ℕ, zero, suc, ◌+◌, ◌-◌, ◌*◌, ◌/◌, ◌%◌, ◌^◌, pow-suc, ◌<◌, ◌≤◌, inl, inr, List, [], ◌∷◌, drop, get_or, refl, sym, arith}
use Rattle.std.specs.Ordering.{nat_cmp}
use Rattle.std.specs.Cmp.Lexicographic.{slice_cmp}
use Rattle.std.specs.declared.cmp.Ordering.TheVariants.{Less}
use Rattle.std.proofs.Math.Nat.{div-mul-le_self}
use Rattle.std.proofs.lemmas.Nat.{le-div}
use Rattle.std.proofs.lemmas.List.{get_or-drop, drop-drop}
use Rattle.fb_prefix.specs.Parts.{front}
use Rattle.fb_prefix.proofs.Agreeing.{nat_less, nat_equal, more_times, first_part}

pub some_bytes : (k : ℕ) → 0 < 256 ^ k
some_bytes zero = omega arith
some_bytes (suc k) = omega (arith, pow-suc 256 k, some_bytes k)

pub front_nil : (k : ℕ) → front k [] ≡ 0
front_nil zero = refl
front_nil (suc k) = refl

pub front_below : (k : ℕ) (text : List ℕ) → front k text < 256 ^ k
front_below zero text = omega arith
front_below (suc k) [] = some_bytes (suc k)
front_below (suc k) (byte ∷ text) = omega (arith, some_bytes (suc k))

pub front_rises : (k : ℕ) (x y : List ℕ) → front k x < front k y → slice_cmp nat_cmp x y ≡ Less
front_rises zero x y less = absurd (omega arith)
front_rises (suc k) [] [] less = absurd (omega arith)
front_rises (suc k) [] (b ∷ y) less = refl
front_rises (suc k) (a ∷ x) [] less = absurd (omega arith)
front_rises (suc k) (a ∷ x) (b ∷ y) less =
    let sums : a * 256 ^ k + front k x < b * 256 ^ k + front k y = omega arith in
    elim (first_part a b (front k x) (front k y) (256 ^ k) (front_below k x) (front_below k y) sums) [
      | inl before ↦ rw (nat_less a b before) refl
      | inr same ↦ rw (nat_equal a b same.0) (front_rises k x y same.1)
    ]

not_more : (a b d : ℕ) → 0 < d → b ≤ a → b / d ≤ a / d
not_more a b d some le = le-div (b / d) a d some (omega (arith, div-mul-le_self b d))

-- what is less without its last bits is less
pub div_less : (a b d : ℕ) → 0 < d → a / d < b / d → a < b
div_less a b d some less = grind (arith, not_more a b d some)

-- where the first bits are equal the next ones decide
pub next_less : (a b : ℕ) → a / 2 ^ 82 ≡ b / 2 ^ 82 → a / 2 ^ 18 % 2 ^ 64 < b / 2 ^ 18 % 2 ^ 64 → a < b
next_less a b same less = omega arith

-- ---- a loop over the first bytes

times_more : (a p : ℕ) → 0 < p → a ≤ a * p
times_more a p some = grind (arith, more_times 0 p a)

front_step : (k : ℕ) (text : List ℕ) → get_or text 0 0 < 256 → front (suc k) text ≡ get_or text 0 0 * 256 ^ k + front k (drop 1 text)
front_step k [] byte = omega (arith, front_nil k)
front_step k (b ∷ text) byte = omega (arith, more_times b 256 (256 ^ k) byte, pow-suc 256 k, front_below k text)

next_byte : (total k n b : ℕ) (text : List ℕ) → total ≡ n * 256 ^ suc k + front (suc k) text → b ≡ get_or text 0 0 → b < 256
    → total ≡ (n * 256 + b) * 256 ^ k + front k (drop 1 text)
next_byte total k n b text before is byte =
    let step = front_step k text (omega arith) in
    let split : (n * 256 + get_or text 0 0) * 256 ^ k ≡ n * (256 * 256 ^ k) + get_or text 0 0 * 256 ^ k = omega arith in
    let whole : n * 256 ^ suc k ≡ n * (256 * 256 ^ k) = rw (pow-suc 256 k) (omega arith) in
    rw is (omega (arith, step, split, whole))

-- a number that has taken in the first i of sixteen bytes
pub record IsFront (bytes : List ℕ) (i n : ℕ) : Type 0 where
  pub split : front 16 bytes ≡ n * 256 ^ (16 - i) + front (16 - i) (drop i bytes)

pub front_at : (bytes : List ℕ) (i n b : ℕ) → i < 16 → b ≡ get_or bytes i 0 → b < 256 → IsFront bytes i n → IsFront bytes (i + 1) (n * 256 + b)
front_at bytes i n b within is byte before =
    let left : 16 - i ≡ suc (16 - (i + 1)) = omega arith in
    let same : i + 0 ≡ i = omega arith in
    let there : b ≡ get_or (drop i bytes) 0 0 = rw (get_or-drop i bytes 0 0) (rw same is) in
    let after : drop 1 (drop i bytes) ≡ drop (i + 1) bytes = drop-drop 1 i bytes in
    let whole : front 16 bytes ≡ n * 256 ^ suc (16 - (i + 1)) + front (suc (16 - (i + 1))) (drop i bytes) = rw (sym left) before.split in
    record { split = rw (sym after) (next_byte (front 16 bytes) (16 - (i + 1)) n b (drop i bytes) whole there byte) }

pub front_fits : (bytes : List ℕ) (i n : ℕ) → IsFront bytes i n → n < 2 ^ 128
front_fits bytes i n before = omega (arith, before.split, front_below 16 bytes, times_more n (256 ^ (16 - i)) (some_bytes (16 - i)))

pub no_bytes : (bytes : List ℕ) → IsFront bytes 0 0
no_bytes bytes = record { split = omega arith }

pub all_bytes : (bytes : List ℕ) (n : ℕ) → IsFront bytes 16 n → n ≡ front 16 bytes
all_bytes bytes n before = omega (arith, before.split)

pub front_room : (bytes : List ℕ) (i n : ℕ) → i < 16 → IsFront bytes i n → n * 256 < 2 ^ 128
front_room bytes i n within before =
    let left : 16 - i ≡ suc (15 - i) = omega arith in
    let whole : front 16 bytes ≡ n * 256 ^ suc (15 - i) + front (16 - i) (drop i bytes) = rw (sym left) before.split in
    let split : n * 256 ^ suc (15 - i) ≡ n * 256 * 256 ^ (15 - i) = rw (pow-suc 256 (15 - i)) (omega arith) in
    omega (arith, whole, split, front_below 16 bytes, times_more (n * 256) (256 ^ (15 - i)) (some_bytes (15 - i)))
