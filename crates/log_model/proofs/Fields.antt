-- What is read where a field was written, and what was written where one is read.
use Rattle.std.proofs.Common.{◌≡◌, ◌^◌, ◌<◌, ◌≤◌, ℕ, zero, suc, ℤ, Bool, true, false, cond, List, [], ◌∷◌, ◌++◌, length, take, drop, refl}
use Rattle.std.proofs.Common.{sym, ◌∙◌, ap, subst, arith, append_assoc, length-append, length-take, take-append-drop}
use Rattle.std.specs.Prelude.{flat_map, nat_le, nat_eq}
use Rattle.std.specs.List.{list_all}
use Rattle.std.specs.Int.{w64, bytes_high_first, cast_signed, cast_unsigned, from_bool}
use Rattle.std.proofs.lemmas.List.{take_at, drop_at}
use Rattle.std.proofs.lemmas.Bool.{and_parts, and_from, ltb-true, lt-ltb, leb-true, le-leb}
use Rattle.log_model.specs.Fields.{Reading, found, misfit, and_then, mapped, that_fits, piece, several, number_in, number, read_u8}
use Rattle.log_model.specs.Fields.{u32_bytes, read_u32, u64_bytes, read_u64, u128_bytes, read_u128, i64_bytes, read_i64, truth_bytes}
use Rattle.log_model.specs.Fields.{read_truth, text_bytes, is_text, read_text}
use Rattle.log_model.specs.Storable.{is_u32, is_u64, is_u128, is_i64, is_storable_text}
use Rattle.log_model.proofs.Numbers.{AreBytes, length-high_first, number_in-high_first, number_in-Below, high_first-number_in}
use Rattle.log_model.proofs.Numbers.{signed-unsigned, unsigned-signed, unsigned-Below, is_i64-signed}

-- ---- lists of bytes

pub AreBytes-behind : (xs ys : List ℕ) → AreBytes (xs ++ ys) → AreBytes ys
AreBytes-behind [] ys are = are
AreBytes-behind (x ∷ xs) ys are = AreBytes-behind xs ys are.1

pub AreBytes-front : (xs ys : List ℕ) → AreBytes (xs ++ ys) → AreBytes xs
AreBytes-front [] ys are = tt
AreBytes-front (x ∷ xs) ys are = (are.0, AreBytes-front xs ys are.1)

-- ---- what is read where a field was written

-- behind these bytes the value is read
abbrev pub Reads : {A : Type 0} → (List ℕ → Reading A) → A → List ℕ → Type 0
Reads read a written = (rest : List ℕ) → read (written ++ rest) ≡ found a rest

pub Reads-then : {A B : Type 0} (read : List ℕ → Reading A) (next : A → List ℕ → Reading B) (a : A) (b : B) (front back : List ℕ)
    → Reads read a front → Reads (next a) b back → Reads (λ bytes. and_then (read bytes) next) b (front ++ back)
Reads-then read next a b front back first second rest =
    ap (λ l. and_then (read l) next) (append_assoc front back rest) ∙ ap (λ r. and_then r next) (first (back ++ rest)) ∙ second rest

pub Reads-mapped : {A B : Type 0} (f : A → B) (read : List ℕ → Reading A) (a : A) (written : List ℕ) → Reads read a written
    → Reads (λ bytes. mapped f (read bytes)) (f a) written
Reads-mapped f read a written reads rest = ap (mapped f) (reads rest)

pub Reads-that_fits : {A : Type 0} (test : A → Bool) (read : List ℕ → Reading A) (a : A) (written : List ℕ) → test a ≡ true
    → Reads read a written → Reads (that_fits test read) a written
Reads-that_fits test read a written passes reads rest =
    ap (λ r. and_then r (λ x behind. cond (test x) (found x behind) (misfit (written ++ rest)))) (reads rest)
    ∙ ap (λ b. cond b (found a rest) (misfit (written ++ rest))) passes

pub Reads-piece : (n : ℕ) (bytes : List ℕ) → length bytes ≡ n → Reads (piece n) bytes bytes
Reads-piece n bytes long rest =
    ap (λ b. cond b (found (take n (bytes ++ rest)) (drop n (bytes ++ rest))) (misfit (bytes ++ rest)))
    (le-leb n (length (bytes ++ rest)) (omega (arith, long, length-append bytes rest)))
    ∙ (λ i. found (take_at bytes rest n long i) (drop_at bytes rest n long i))

pub Reads-number : (k n : ℕ) → n < 256 ^ k → Reads (number k) n (bytes_high_first k n)
Reads-number k n fits rest =
    ap (mapped number_in) (Reads-piece k (bytes_high_first k n) (length-high_first k n) rest)
    ∙ ap (λ m. found m rest) (number_in-high_first k n fits)

pub Reads-u32 : (n : ℕ) → is_u32 n ≡ true → Reads read_u32 n (u32_bytes n)
Reads-u32 n fits = Reads-number 4 n (ltb-true n (2 ^ 32) fits)

pub Reads-u64 : (n : ℕ) → is_u64 n ≡ true → Reads read_u64 n (u64_bytes n)
Reads-u64 n fits = Reads-number 8 n (ltb-true n (2 ^ 64) fits)

pub Reads-u128 : (n : ℕ) → is_u128 n ≡ true → Reads read_u128 n (u128_bytes n)
Reads-u128 n fits = Reads-number 16 n (ltb-true n (2 ^ 128) fits)

pub Reads-i64 : (z : ℤ) → is_i64 z ≡ true → Reads read_i64 z (i64_bytes z)
Reads-i64 z fits rest =
    ap (mapped (cast_signed w64)) (Reads-number 8 (cast_unsigned w64 z) (unsigned-Below z fits) rest)
    ∙ ap (λ m. found m rest) (signed-unsigned z fits)

pub Reads-truth : (b : Bool) → Reads read_truth b (truth_bytes b)
Reads-truth true rest =
    Reads-mapped (nat_eq 1) (that_fits (λ n. nat_le n 1) read_u8) 1 (1 ∷ [])
    (Reads-that_fits (λ n. nat_le n 1) read_u8 1 (1 ∷ []) refl (Reads-number 1 1 (omega arith))) rest
Reads-truth false rest =
    Reads-mapped (nat_eq 1) (that_fits (λ n. nat_le n 1) read_u8) 0 (0 ∷ [])
    (Reads-that_fits (λ n. nat_le n 1) read_u8 0 (0 ∷ []) refl (Reads-number 1 0 (omega arith))) rest

pub Reads-text : (test : List ℕ → Bool) (text : List ℕ) → is_storable_text test text ≡ true → Reads (read_text test) text (text_bytes text)
Reads-text test text fits =
    let parts = and_parts (is_u32 (length text)) (is_text test text) fits in
    Reads-then read_u32 (λ n. that_fits (is_text test) (piece n)) (length text) text (u32_bytes (length text)) text
    (Reads-u32 (length text) parts.0)
    (Reads-that_fits (is_text test) (piece (length text)) text text parts.1 (Reads-piece (length text) text refl))

pub Reads-several : {A : Type 0} (read : List ℕ → Reading A) (write : A → List ℕ) (test : A → Bool)
    → ((a : A) → test a ≡ true → Reads read a (write a))
    → (items : List A) → list_all test items ≡ true → Reads (several read (length items)) items (flat_map write items)
Reads-several read write test each [] every = λ rest. refl
Reads-several read write test each (a ∷ items) every =
    let parts = and_parts (test a) (list_all test items) every in
    Reads-then read (λ x behind. mapped (λ more. x ∷ more) (several read (length items) behind)) a (a ∷ items) (write a)
    (flat_map write items)
    (each a parts.0)
    (Reads-mapped (λ more. a ∷ more) (several read (length items)) items (flat_map write items)
    (Reads-several read write test each items parts.1))

pub Reads-u8 : (n : ℕ) → Reads read_u8 n (n ∷ [])
Reads-u8 n rest =
    ap (mapped number_in) (Reads-piece 1 (n ∷ []) refl rest) ∙ ap (λ m. found m rest) (alone n)
  where
    alone : (m : ℕ) → number_in (m ∷ []) ≡ m
    alone m = omega arith

-- ---- what was written where a field is read

-- the reading has found the value, and this stands behind it
abbrev pub IsFound : {A : Type 0} → Reading A → A → List ℕ → Type 0
IsFound (found x behind) a rest = (x ≡ a) × (behind ≡ rest)
IsFound (misfit behind) a rest = ⊥

pub found-IsFound : {A : Type 0} (r : Reading A) (a : A) (rest : List ℕ) → r ≡ found a rest → IsFound r a rest
found-IsFound r a rest is = subst (λ x. IsFound x a rest) (sym is) (refl, refl)

-- of bytes, the field's bytes are those of what is found, and it passes the test
abbrev pub Wrote : {A : Type 0} → (List ℕ → Reading A) → (A → List ℕ) → (A → Bool) → Type 0
Wrote {A} read write test =
    (bytes : List ℕ) (a : A) (rest : List ℕ) → AreBytes bytes → IsFound (read bytes) a rest → (bytes ≡ write a ++ rest) × (test a ≡ true)

pub then-found : {A B : Type 0} (r : Reading A) (next : A → List ℕ → Reading B) (b : B) (rest : List ℕ) → IsFound (and_then r next) b rest
    → (a : A) × (mid : List ℕ) × IsFound r a mid × IsFound (next a mid) b rest
then-found (found a mid) next b rest is = (a, mid, (refl, refl), is)
then-found (misfit l) next b rest is = absurd is

pub mapped-found : {A B : Type 0} (f : A → B) (r : Reading A) (b : B) (rest : List ℕ) → IsFound (mapped f r) b rest
    → (a : A) × IsFound r a rest × (f a ≡ b)
mapped-found f (found a behind) b rest is = (a, (refl, is.1), is.0)
mapped-found f (misfit l) b rest is = absurd is

cond-found : {A : Type 0} (test : Bool) (x a : A) (behind bytes rest : List ℕ) → IsFound (cond test (found x behind) (misfit bytes)) a rest
    → (test ≡ true) × (x ≡ a) × (behind ≡ rest)
cond-found true x a behind bytes rest is = (refl, is.0, is.1)
cond-found false x a behind bytes rest is = absurd is

fits-found_in : {A : Type 0} (test : A → Bool) (r : Reading A) (bytes : List ℕ) (a : A) (rest : List ℕ)
    → IsFound (and_then r (λ x behind. cond (test x) (found x behind) (misfit bytes))) a rest → IsFound r a rest × (test a ≡ true)
fits-found_in test (found x behind) bytes a rest is =
    let parts = cond-found (test x) x a behind bytes rest is in
    ((parts.1, parts.2), ap test (sym parts.1) ∙ parts.0)
fits-found_in test (misfit l) bytes a rest is = absurd is

pub fits-found : {A : Type 0} (test : A → Bool) (read : List ℕ → Reading A) (bytes : List ℕ) (a : A) (rest : List ℕ)
    → IsFound (that_fits test read bytes) a rest → IsFound (read bytes) a rest × (test a ≡ true)
fits-found test read bytes a rest is = fits-found_in test (read bytes) bytes a rest is

pub piece-found : (n : ℕ) (bytes text rest : List ℕ) → IsFound (piece n bytes) text rest → (bytes ≡ text ++ rest) × (length text ≡ n)
piece-found n bytes text rest is =
    let parts = cond-found (nat_le n (length bytes)) (take n bytes) text (drop n bytes) bytes rest is in
    let room = leb-true n (length bytes) parts.0 in (
      sym (take-append-drop n bytes) ∙ (λ i. parts.1 i ++ parts.2 i),
      ap length (sym parts.1) ∙ omega (arith, room, length-take n bytes),
    )

pub number-found : (k : ℕ) (bytes : List ℕ) (n : ℕ) (rest : List ℕ) → AreBytes bytes → IsFound (number k bytes) n rest
    → (bytes ≡ bytes_high_first k n ++ rest) × (n < 256 ^ k)
number-found k bytes n rest are is =
    let back = mapped-found number_in (piece k bytes) n rest is in
    let field = back.0 in
    let parts = piece-found k bytes field rest back.1 in
    let here : AreBytes field = AreBytes-front field rest (subst AreBytes parts.0 are) in
    let written : bytes_high_first k n ≡ field = ap (bytes_high_first k) (sym back.2) ∙ high_first-number_in k field parts.1 here in (
      parts.0 ∙ ap (λ l. l ++ rest) (sym written),
      subst (λ m. m < 256 ^ k) back.2 (subst (λ j. number_in field < 256 ^ j) parts.1 (number_in-Below field here)),
    )

pub Wrote-u32 : Wrote read_u32 u32_bytes is_u32
Wrote-u32 bytes n rest are is = let parts = number-found 4 bytes n rest are is in (parts.0, lt-ltb n (2 ^ 32) parts.1)

pub Wrote-u64 : Wrote read_u64 u64_bytes is_u64
Wrote-u64 bytes n rest are is = let parts = number-found 8 bytes n rest are is in (parts.0, lt-ltb n (2 ^ 64) parts.1)

pub Wrote-u128 : Wrote read_u128 u128_bytes is_u128
Wrote-u128 bytes n rest are is = let parts = number-found 16 bytes n rest are is in (parts.0, lt-ltb n (2 ^ 128) parts.1)

pub Wrote-u8 : (bytes : List ℕ) (n : ℕ) (rest : List ℕ) → AreBytes bytes → IsFound (read_u8 bytes) n rest → (bytes ≡ n ∷ rest) × (n < 256)
Wrote-u8 bytes n rest are is =
    let parts = number-found 1 bytes n rest are is in
    let small : n < 256 = parts.1 in
    (parts.0 ∙ ap (λ m. m ∷ rest) (omega (arith, small)), small)

pub Wrote-i64 : Wrote read_i64 i64_bytes is_i64
Wrote-i64 bytes z rest are is =
    let back = mapped-found (cast_signed w64) (read_u64 bytes) z rest is in
    let n = back.0 in
    let parts = number-found 8 bytes n rest are back.1 in (
      parts.0 ∙ ap (λ m. u64_bytes m ++ rest) (sym (unsigned-signed n parts.1)) ∙ ap (λ y. i64_bytes y ++ rest) back.2,
      subst (λ y. is_i64 y ≡ true) back.2 (is_i64-signed n parts.1),
    )

truth_of : (n : ℕ) → n ≤ 1 → n ≡ from_bool (nat_eq 1 n)
truth_of zero small = refl
truth_of (suc zero) small = refl
truth_of (suc (suc n)) small = absurd (omega (arith, small))

pub Wrote-truth : (bytes : List ℕ) (b : Bool) (rest : List ℕ) → AreBytes bytes → IsFound (read_truth bytes) b rest
    → bytes ≡ truth_bytes b ++ rest
Wrote-truth bytes b rest are is =
    let back = mapped-found (nat_eq 1) (that_fits (λ n. nat_le n 1) read_u8 bytes) b rest is in
    let n = back.0 in
    let fits = fits-found (λ m. nat_le m 1) read_u8 bytes n rest back.1 in
    let parts = Wrote-u8 bytes n rest are fits.0 in
    parts.0 ∙ ap (λ m. m ∷ rest) (truth_of n (leb-true n 1 fits.1)) ∙ ap (λ t. from_bool t ∷ rest) back.2

pub Wrote-text : (test : List ℕ → Bool) → Wrote (read_text test) text_bytes (is_storable_text test)
Wrote-text test bytes text rest are is =
    let split = then-found (read_u32 bytes) (λ n behind. that_fits (is_text test) (piece n) behind) text rest is in
    let n = split.0 in
    let behind = split.1 in
    let first = Wrote-u32 bytes n behind are split.2 in
    let fits = fits-found (is_text test) (piece n) behind text rest split.3 in
    let parts = piece-found n behind text rest fits.0 in (
      first.0
          ∙ ap (λ l. u32_bytes n ++ l) parts.0
          ∙ ap (λ m. u32_bytes m ++ (text ++ rest)) (sym parts.1)
          ∙ sym (append_assoc (u32_bytes (length text)) text rest),
      and_from (is_u32 (length text)) (is_text test text) (ap is_u32 parts.1 ∙ first.1) fits.1,
    )

pub several-found : {A : Type 0} (read : List ℕ → Reading A) (write : A → List ℕ) (test : A → Bool) → Wrote read write test
    → (n : ℕ) (bytes : List ℕ) (items : List A) (rest : List ℕ)
    → AreBytes bytes → IsFound (several read n bytes) items rest
    → (bytes ≡ flat_map write items ++ rest) × (length items ≡ n) × (list_all test items ≡ true)
several-found read write test each zero bytes items rest are is = (
  is.1 ∙ ap (λ l. flat_map write l ++ rest) is.0,
  ap length (sym is.0),
  ap (list_all test) (sym is.0),
)
several-found read write test each (suc n) bytes items rest are is =
    let split = then-found (read bytes) (λ a behind. mapped (λ more. a ∷ more) (several read n behind)) items rest is in
    let a = split.0 in
    let behind = split.1 in
    let first = each bytes a behind are split.2 in
    let back = mapped-found (λ more. a ∷ more) (several read n behind) items rest split.3 in
    let more = back.0 in
    let others =
    several-found read write test each n behind more rest (AreBytes-behind (write a) behind (subst AreBytes first.0 are)) back.1 in (
      first.0
          ∙ ap (λ l. write a ++ l) others.0
          ∙ sym (append_assoc (write a) (flat_map write more) rest)
          ∙ ap (λ l. flat_map write l ++ rest) back.2,
      ap length (sym back.2) ∙ ap suc others.1,
      ap (list_all test) (sym back.2) ∙ and_from (test a) (list_all test more) first.1 others.2,
    )
