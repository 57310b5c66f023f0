-- The test of bytes one after another passes just the bytes of characters.
use Rattle.std.proofs.Common.{◌≡◌, ℕ, zero, suc, ◌+◌, ◌-◌, ◌*◌, ◌/◌, ◌<◌, ◌≤◌, ◌⊎◌, true, ◌&&◌, List, [], ◌∷◌, ◌++◌, length, refl, ap, sym}
use Rattle.std.proofs.Common.{◌∙◌, subst, inl, inr, arith, lt-ltb, le-ltb, le-leb, eq-eqb, ne_eqb, ltb}
use Rattle.std.proofs.lemmas.Bool.{true≢false, cases_lt, cases_eq, and_parts, and_from, or_right, or_cases, ltb-true, leb-true}
use Rattle.std.proofs.lemmas.Str.{encode_ascii, IsUtf8-nil}
use Rattle.std.specs.Int.{is_in_range}
use Rattle.std.specs.Str.{IsUtf8, continuation_len}
use Rattle.std.specs.Str.Lossy.{second_byte_min, second_byte_max}
use lib.Utf8.{scalar, scalars, encode, encodes, next, low_scalar, scalar_cases}
use Rattle.fb_model.specs.Utf8.{begins_character, goes_on, is_utf8_text}

-- ---- characters by their bytes

two : (c : ℕ) → 128 ≤ c → c < 2048 → encode c ≡ (192 + c / 64) ∷ next c ∷ []
unfolding encode
two c l h = rw (le-ltb c 128 l, lt-ltb c 2048 h)

three : (c : ℕ) → 2048 ≤ c → c < 65536 → encode c ≡ (224 + c / 4096) ∷ next (c / 64) ∷ next c ∷ []
unfolding encode
three c l h = rw (le-ltb c 128 (omega arith), le-ltb c 2048 l, lt-ltb c 65536 h)

four : (c : ℕ) → 65536 ≤ c → encode c ≡ (240 + c / 262144) ∷ next (c / 4096) ∷ next (c / 64) ∷ next c ∷ []
unfolding encode
four c l = rw (le-ltb c 128 (omega arith), le-ltb c 2048 (omega arith), le-ltb c 65536 l)

high_scalar : (c : ℕ) → 57344 ≤ c → c < 1114112 → scalar c ≡ true
high_scalar c l h = rw (le-ltb c 55296 (omega arith), le-leb 57344 c l, lt-ltb c 1114112 h)

-- ---- what follows a first byte

min_is : (a : ℕ)
    → ((a ≡ 0xE0) × (second_byte_min a ≡ 0xA0))
    ⊎ (((a ≡ 0xF0) × (second_byte_min a ≡ 0x90)) ⊎ ((a ≡ 0xE0 → ⊥) × (a ≡ 0xF0 → ⊥) × (second_byte_min a ≡ 0x80)))
min_is a =
    elim (cases_eq a 0xE0) [
      | inl e ↦ inl (e, rw (eq-eqb a 0xE0 e))
      | inr n ↦ elim (cases_eq a 0xF0) [
        | inl e ↦ inr (inl (e, rw (ne_eqb a 0xE0 n, eq-eqb a 0xF0 e)))
        | inr m ↦ inr (inr (n, m, rw (ne_eqb a 0xE0 n, ne_eqb a 0xF0 m)))
      ]
    ]

max_is : (a : ℕ)
    → ((a ≡ 0xED) × (second_byte_max a ≡ 0x9F))
    ⊎ (((a ≡ 0xF4) × (second_byte_max a ≡ 0x8F)) ⊎ ((a ≡ 0xED → ⊥) × (a ≡ 0xF4 → ⊥) × (second_byte_max a ≡ 0xBF)))
max_is a =
    elim (cases_eq a 0xED) [
      | inl e ↦ inl (e, rw (eq-eqb a 0xED e))
      | inr n ↦ elim (cases_eq a 0xF4) [
        | inl e ↦ inr (inl (e, rw (ne_eqb a 0xED n, eq-eqb a 0xF4 e)))
        | inr m ↦ inr (inr (n, m, rw (ne_eqb a 0xED n, ne_eqb a 0xF4 m)))
      ]
    ]

one_follows : (a : ℕ) → 0xC2 ≤ a → a < 0xE0 → continuation_len a ≡ 1
one_follows a l h = rw (le-ltb a 128 (omega arith), lt-ltb a 224 h)

two_follow : (a : ℕ) → 0xE0 ≤ a → a < 0xF0 → continuation_len a ≡ 2
two_follow a l h = rw (le-ltb a 128 (omega arith), le-ltb a 224 l, lt-ltb a 240 h)

three_follow : (a : ℕ) → 0xF0 ≤ a → continuation_len a ≡ 3
three_follow a l = rw (le-ltb a 128 (omega arith), le-ltb a 224 (omega arith), le-ltb a 240 l)

-- ---- one byte more

any_ends : (l h m k : ℕ) (bs : List ℕ) → goes_on 0 l h bs ≡ goes_on 0 m k bs
any_ends l h m k [] = refl
any_ends l h m k (b ∷ bs) = refl

alone : (a l h : ℕ) (bs : List ℕ) → a < 128 → goes_on 0 l h (a ∷ bs) ≡ goes_on 0 128 191 bs
alone a l h bs low = rw (lt-ltb a 128 low) (any_ends (second_byte_min a) (second_byte_max a) 128 191 bs)

begins : (a l h n : ℕ) (bs : List ℕ) → 0xC2 ≤ a → a ≤ 0xF4 → continuation_len a ≡ n
    → goes_on 0 l h (a ∷ bs) ≡ goes_on n (second_byte_min a) (second_byte_max a) bs
begins a l h n bs low high len =
    ap (λ b. b && goes_on (continuation_len a) (second_byte_min a) (second_byte_max a) bs)
    (or_right _ _ (and_from _ _ (le-leb 0xC2 a low) (le-leb a 0xF4 high)))
    ∙ ap (λ m. goes_on m (second_byte_min a) (second_byte_max a) bs) len

follows : (n low high b : ℕ) (bs : List ℕ) → low ≤ b → b ≤ high → goes_on (suc n) low high (b ∷ bs) ≡ goes_on n 128 191 bs
follows n low high b bs l h = rw (le-leb low b l, le-leb b high h)

-- ---- from characters to the test

one_char : (c l h : ℕ) (bs : List ℕ) → scalar c ≡ true → goes_on 0 l h (encode c ++ bs) ≡ goes_on 0 128 191 bs
one_char c l h bs ok =
    let range = scalar_cases c ok in
    elim (cases_lt c 128) [
      | inl a ↦ rw (encode_ascii c a) (alone c l h bs a)
      | inr a ↦ elim (cases_lt c 2048) [
        | inl b ↦
            let x = 192 + c / 64 in
            let s = min_is x in
            let m = max_is x in
            rw (two c a b) (begins x l h 1 (next c ∷ bs) (omega arith) (omega arith) (one_follows x (omega arith) (omega arith))
            ∙ follows 0 _ _ (next c) bs (omega arith) (omega arith))
        | inr b ↦ elim (cases_lt c 65536) [
          | inl d ↦
              let x = 224 + c / 4096 in
              let s = min_is x in
              let m = max_is x in
              rw (three c b d)
              (begins x l h 2 (next (c / 64) ∷ next c ∷ bs) (omega arith) (omega arith) (two_follow x (omega arith) (omega arith))
              ∙ follows 1 _ _ (next (c / 64)) (next c ∷ bs) (omega arith) (omega arith)
              ∙ follows 0 128 191 (next c) bs (omega arith) (omega arith))
          | inr d ↦
              let x = 240 + c / 262144 in
              let s = min_is x in
              let m = max_is x in
              rw (four c d)
              (begins x l h 3 (next (c / 4096) ∷ next (c / 64) ∷ next c ∷ bs) (omega arith) (omega arith) (three_follow x (omega arith))
              ∙ follows 2 _ _ (next (c / 4096)) (next (c / 64) ∷ next c ∷ bs) (omega arith) (omega arith)
              ∙ follows 1 128 191 (next (c / 64)) (next c ∷ bs) (omega arith) (omega arith)
              ∙ follows 0 128 191 (next c) bs (omega arith) (omega arith))
        ]
      ]
    ]

of_chars : (cs : List ℕ) → scalars cs ≡ true → is_utf8_text (encodes cs) ≡ true
of_chars [] ok = refl
of_chars (c ∷ cs) ok = let p = and_parts (scalar c) (scalars cs) ok in one_char c 128 191 (encodes cs) p.0 ∙ of_chars cs p.1

-- ---- from the test to characters

cons : (c : ℕ) (front bs : List ℕ) → scalar c ≡ true → encode c ≡ front → IsUtf8 bs → IsUtf8 (front ++ bs)
cons c front bs ok e u = (c ∷ u.0, (rw ok u.1.0, λ i. e i ++ u.1.1 i))

record Behind (n low high : ℕ) (bs : List ℕ) : Type 0 where
  byte : ℕ
  more : List ℕ
  is : bs ≡ byte ∷ more
  low_end : low ≤ byte
  high_end : byte ≤ high
  goes : goes_on n 128 191 more ≡ true

behind : (n low high : ℕ) (bs : List ℕ) → goes_on (suc n) low high bs ≡ true → Behind n low high bs
behind n low high [] e = absurd (true≢false (sym e))
behind n low high (b ∷ bs) e =
    let both = and_parts (is_in_range low high b) (goes_on n 128 191 bs) e in
    let ends = and_parts _ _ both.0 in
    record { byte = b; more = bs; is = refl; low_end = leb-true low b ends.0; high_end = leb-true b high ends.1; goes = both.1 }

three_bytes : (x y z : ℕ) → 224 ≤ x → (128 ≤ y) × (y ≤ 191) → (128 ≤ z) × (z ≤ 191)
    → let c = (x - 224) * 4096 + (y - 128) * 64 + (z - 128) in (224 + c / 4096 ≡ x) × (next (c / 64) ≡ y) × (next c ≡ z)
three_bytes x y z h f g = (omega arith, omega arith, omega arith)

four_bytes : (x y z w : ℕ) → 240 ≤ x → (128 ≤ y) × (y ≤ 191) → (128 ≤ z) × (z ≤ 191) → (128 ≤ w) × (w ≤ 191)
    → let c = (x - 240) * 262144 + (y - 128) * 4096 + (z - 128) * 64 + (w - 128) in (240 + c / 262144 ≡ x) × (next (c / 4096) ≡ y)
    × (next (c / 64) ≡ z) × (next c ≡ w)
four_bytes x y z w h f g j =
    let e : ((x - 240) * 262144 + (y - 128) * 4096 + (z - 128) * 64 + (w - 128)) / 64 ≡ (x - 240) * 4096 + (y - 128) * 64 + (z - 128) =
    omega arith in
    (omega arith, omega arith, rw e (omega arith), omega arith)

second_continues : (x y : ℕ) → second_byte_min x ≤ y → y ≤ second_byte_max x → (128 ≤ y) × (y ≤ 191)
second_continues x y l h = let s = min_is x in let m = max_is x in (omega arith, omega arith)

cons_two : (x y : ℕ) (bs : List ℕ) → 0xC2 ≤ x → x < 0xE0 → (128 ≤ y) × (y ≤ 191) → IsUtf8 bs → IsUtf8 (x ∷ y ∷ bs)
cons_two x y bs l h f =
    let c = (x - 192) * 64 + (y - 128) in
    let p : 192 + c / 64 ≡ x = omega arith in
    let q : next c ≡ y = omega arith in
    cons c (x ∷ y ∷ []) bs (low_scalar c (omega arith)) (two c (omega arith) (omega arith) ∙ (λ k. p k ∷ q k ∷ []))

cons_three : (x y z : ℕ) (bs : List ℕ) → 0xE0 ≤ x → x < 0xF0 → second_byte_min x ≤ y → y ≤ second_byte_max x → (128 ≤ z) × (z ≤ 191)
    → IsUtf8 bs → IsUtf8 (x ∷ y ∷ z ∷ bs)
cons_three x y z bs l h f t g =
    let c = (x - 224) * 4096 + (y - 128) * 64 + (z - 128) in
    let bytes = three_bytes x y z l (second_continues x y f t) g in
    let p = bytes.0 in
    let q = bytes.1 in
    let r = bytes.2 in
    let s = min_is x in
    let m = max_is x in
    let ok : scalar c ≡ true = elim (cases_lt c 55296) [ inl a ↦ low_scalar c a | inr a ↦ high_scalar c (omega arith) (omega arith) ] in
    cons c (x ∷ y ∷ z ∷ []) bs ok (three c (omega arith) (omega arith) ∙ (λ k. p k ∷ q k ∷ r k ∷ []))

cons_four : (x y z w : ℕ) (bs : List ℕ) → 0xF0 ≤ x → x ≤ 0xF4 → second_byte_min x ≤ y → y ≤ second_byte_max x → (128 ≤ z) × (z ≤ 191)
    → (128 ≤ w) × (w ≤ 191) → IsUtf8 bs
    → IsUtf8 (x ∷ y ∷ z ∷ w ∷ bs)
cons_four x y z w bs l h f t g j =
    let c = (x - 240) * 262144 + (y - 128) * 4096 + (z - 128) * 64 + (w - 128) in
    let bytes = four_bytes x y z w l (second_continues x y f t) g j in
    let p = bytes.0 in
    let q = bytes.1 in
    let r = bytes.2 in
    let v = bytes.3 in
    let s = min_is x in
    let m = max_is x in
    cons c (x ∷ y ∷ z ∷ w ∷ []) bs (high_scalar c (omega arith) (omega arith)) (four c (omega arith) ∙ (λ k. p k ∷ q k ∷ r k ∷ v k ∷ []))

module _ (n : ℕ) (rest : (bs : List ℕ) → length bs ≤ n → is_utf8_text bs ≡ true → IsUtf8 bs) where
  of_two : (a : ℕ) (bs : List ℕ) → length bs ≤ n → 0xC2 ≤ a → a < 0xE0 → goes_on 1 (second_byte_min a) (second_byte_max a) bs ≡ true
      → IsUtf8 (a ∷ bs)
  of_two a bs short l h e =
      let b = behind 0 (second_byte_min a) (second_byte_max a) bs e in
      subst (λ z. IsUtf8 (a ∷ z)) (sym b.is) (cons_two a b.byte b.more l h (second_continues a b.byte b.low_end b.high_end)
      (rest b.more (omega (arith, short, ap length b.is)) b.goes))

  of_three : (a : ℕ) (bs : List ℕ) → length bs ≤ n → 0xE0 ≤ a → a < 0xF0 → goes_on 2 (second_byte_min a) (second_byte_max a) bs ≡ true
      → IsUtf8 (a ∷ bs)
  of_three a bs short l h e =
      let b = behind 1 (second_byte_min a) (second_byte_max a) bs e in
      let c = behind 0 128 191 b.more b.goes in
      subst (λ z. IsUtf8 (a ∷ z)) (sym (b.is ∙ ap (λ z. b.byte ∷ z) c.is))
      (cons_three a b.byte c.byte c.more l h b.low_end b.high_end (c.low_end, c.high_end)
      (rest c.more (omega (arith, short, ap length b.is, ap length c.is)) c.goes))

  of_four : (a : ℕ) (bs : List ℕ) → length bs ≤ n → 0xF0 ≤ a → a ≤ 0xF4 → goes_on 3 (second_byte_min a) (second_byte_max a) bs ≡ true
      → IsUtf8 (a ∷ bs)
  of_four a bs short l h e =
      let b = behind 2 (second_byte_min a) (second_byte_max a) bs e in
      let c = behind 1 128 191 b.more b.goes in
      let d = behind 0 128 191 c.more c.goes in
      subst (λ z. IsUtf8 (a ∷ z)) (sym (b.is ∙ ap (λ z. b.byte ∷ z) (c.is ∙ ap (λ z. c.byte ∷ z) d.is)))
      (cons_four a b.byte c.byte d.byte d.more l h b.low_end b.high_end (c.low_end, c.high_end) (d.low_end, d.high_end)
      (rest d.more (omega (arith, short, ap length b.is, ap length c.is, ap length d.is)) d.goes))

  of_long : (a : ℕ) (bs : List ℕ) → length bs ≤ n → 0xC2 ≤ a → a ≤ 0xF4
      → goes_on (continuation_len a) (second_byte_min a) (second_byte_max a) bs ≡ true → IsUtf8 (a ∷ bs)
  of_long a bs short l h e =
      elim (cases_lt a 0xE0) [
        | inl p ↦ of_two a bs short l p (subst (λ k. goes_on k (second_byte_min a) (second_byte_max a) bs ≡ true) (one_follows a l p) e)
        | inr p ↦ elim (cases_lt a 0xF0) [
          | inl q ↦ of_three a bs short p q (subst (λ k. goes_on k (second_byte_min a) (second_byte_max a) bs ≡ true) (two_follow a p q) e)
          | inr q ↦ of_four a bs short q h (subst (λ k. goes_on k (second_byte_min a) (second_byte_max a) bs ≡ true) (three_follow a q) e)
        ]
      ]

  of_bytes : (bs : List ℕ) → length bs ≤ suc n → is_utf8_text bs ≡ true → IsUtf8 bs
  of_bytes [] short e = IsUtf8-nil
  of_bytes (a ∷ bs) short e =
      let both = and_parts (begins_character a) (goes_on (continuation_len a) (second_byte_min a) (second_byte_max a) bs) e in
      elim (cases_lt a 128) [
        | inl low ↦
            cons a (a ∷ []) bs (low_scalar a (omega arith)) (encode_ascii a low)
            (rest bs (omega (arith, short)) (sym (alone a 128 191 bs low) ∙ e))
        | inr high ↦ elim (or_cases (ltb a 128) (is_in_range 0xC2 0xF4 a) both.0) [
          | inl p ↦ absurd (omega (arith, ltb-true a 128 p))
          | inr p ↦
              let ends = and_parts _ _ p in of_long a bs (omega (arith, short)) (leb-true 0xC2 a ends.0) (leb-true a 0xF4 ends.1) both.1
        ]
      ]

to_chars : (n : ℕ) (bs : List ℕ) → length bs ≤ n → is_utf8_text bs ≡ true → IsUtf8 bs
to_chars zero [] short e = IsUtf8-nil
to_chars zero (b ∷ bs) short e = absurd (omega arith)
to_chars (suc n) bs short e = of_bytes n (to_chars n) bs short e

pub IsUtf8-from_is_utf8_text : (bs : List ℕ) → is_utf8_text bs ≡ true → IsUtf8 bs
IsUtf8-from_is_utf8_text bs = to_chars (length bs) bs (omega arith)

pub is_utf8_text-from_IsUtf8 : (bs : List ℕ) → IsUtf8 bs → is_utf8_text bs ≡ true
is_utf8_text-from_IsUtf8 bs u = subst (λ z. is_utf8_text z ≡ true) u.1.1 (of_chars u.0 u.1.0)
