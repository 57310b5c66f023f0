-- Fields: numbers, truths and texts as bytes, and what is read where one is due: a value, or the
-- first field that does not fit.
-- This project's own choice.
use Rattle.std.specs.Prelude.{ℕ, ◌<◌, All, zero, suc, ◌+◌, ◌*◌, ℤ, Bool, ◌&&◌, List, [], ◌∷◌, ◌++◌}
use Rattle.std.specs.Prelude.{length, take, drop, fold, nat_eq, nat_le, if◌then◌else◌}
use Rattle.std.specs.Int.{w32, w64, w128, to_be_bytes, cast_signed, cast_unsigned, from_bool}
use Rattle.std.specs.Str.{is_utf8}

-- each is a byte
abbrev pub AreAllBytes : List ℕ → Type 0
AreAllBytes bytes = All (λ byte. byte < 256) bytes

pub data Reading (A : Type 0) : Type 0 where
  -- a value, and the bytes after it
  found : A → List ℕ → Reading A
  -- the bytes from the first field on that does not fit
  misfit : List ℕ → Reading A

-- what follows, where a value was found
abbrev pub and_then : {A B : Type 0} → Reading A → (A → List ℕ → Reading B) → Reading B
and_then (found a rest) next = next a rest
and_then (misfit rest) next = misfit rest

abbrev pub mapped : {A B : Type 0} → (A → B) → Reading A → Reading B
mapped f (found a rest) = found (f a) rest
mapped f (misfit rest) = misfit rest

-- a field whose value passes the test: one that does not is at fault from its first byte on
abbrev pub that_fits : {A : Type 0} → (A → Bool) → (List ℕ → Reading A) → List ℕ → Reading A
that_fits test read bytes =
    and_then (read bytes) (λ a rest. if test a then found a rest else misfit bytes)

-- so many bytes
abbrev pub piece : ℕ → List ℕ → Reading (List ℕ)
piece n bytes =
    if nat_le n (length bytes) then found (take n bytes) (drop n bytes) else misfit bytes

-- so many of a kind, one after another
abbrev pub several : {A : Type 0} → (List ℕ → Reading A) → ℕ → List ℕ → Reading (List A)
several read zero bytes = found [] bytes
several read (suc n) bytes =
    and_then (read bytes) (λ a rest. mapped (λ more. a ∷ more) (several read n rest))

-- nothing follows
abbrev pub at_end : {A : Type 0} → Reading A → Reading A
at_end (found a []) = found a []
at_end (found a (byte ∷ rest)) = misfit (byte ∷ rest)
at_end (misfit rest) = misfit rest

-- ---- numbers, of which the highest byte comes first

abbrev pub number_in : List ℕ → ℕ
number_in bytes = fold (λ n byte. n * 256 + byte) 0 bytes

abbrev pub number : ℕ → List ℕ → Reading ℕ
number size bytes = mapped number_in (piece size bytes)

abbrev pub read_u8 : List ℕ → Reading ℕ
read_u8 bytes = number 1 bytes

abbrev pub u32_bytes : ℕ → List ℕ
u32_bytes n = to_be_bytes w32 n

abbrev pub read_u32 : List ℕ → Reading ℕ
read_u32 bytes = number 4 bytes

abbrev pub u64_bytes : ℕ → List ℕ
u64_bytes n = to_be_bytes w64 n

abbrev pub read_u64 : List ℕ → Reading ℕ
read_u64 bytes = number 8 bytes

abbrev pub u128_bytes : ℕ → List ℕ
u128_bytes n = to_be_bytes w128 n

abbrev pub read_u128 : List ℕ → Reading ℕ
read_u128 bytes = number 16 bytes

-- in two's complement
abbrev pub i64_bytes : ℤ → List ℕ
i64_bytes z = u64_bytes (cast_unsigned w64 z)

abbrev pub read_i64 : List ℕ → Reading ℤ
read_i64 bytes = mapped (cast_signed w64) (read_u64 bytes)

-- ---- truths: 0 or 1

abbrev pub truth_bytes : Bool → List ℕ
truth_bytes b = from_bool b ∷ []

abbrev pub read_truth : List ℕ → Reading Bool
read_truth bytes = mapped (nat_eq 1) (that_fits (λ n. nat_le n 1) read_u8 bytes)

-- ---- texts: the length, and UTF-8 that passes a test; each is a field

abbrev pub text_bytes : List ℕ → List ℕ
text_bytes text = u32_bytes (length text) ++ text

abbrev pub is_text : (List ℕ → Bool) → List ℕ → Bool
is_text test text = is_utf8 text && test text

abbrev pub read_text : (List ℕ → Bool) → List ℕ → Reading (List ℕ)
read_text test bytes = and_then (read_u32 bytes) (λ n rest. that_fits (is_text test) (piece n) rest)
