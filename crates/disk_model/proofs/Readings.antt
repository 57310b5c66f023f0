-- A file has one reading.
use Rattle.std.proofs.Common.{inl, inr, ⊎_elim, ◌≡◌, ◌≢◌, ◌+◌, ◌<◌, ◌^◌, ℕ, List, [], ◌∷◌, ◌++◌, length, take, drop, refl, sym, ◌∙◌, ap}
use Rattle.std.proofs.Common.{arith, append_assoc, length-append}
use Rattle.std.proofs.lemmas.List.{take_at, drop_at, append_cancel_left}
use Rattle.std.proofs.lemmas.Nat.{from_be_bytes-to_be_bytes_8}
use Rattle.std.specs.Int.{w64, from_be_bytes}
use Rattle.disk_model.specs.Journal.{framed, opened, HaveLengths, Holds, JournalStands, IsCutShort, BreaksBehind, JournalBreaks}

-- what no record stands at the front of
abbrev pub HasNoRecord : List ℕ → Type 0
HasNoRecord tail = (payload rest : List ℕ) → length payload < 2 ^ 64 → 0 < length rest → tail ≡ 1 ∷ framed payload ++ rest → ⊥

-- a length is told by its eight bytes
front-length : (payload rest : List ℕ) → length payload < 2 ^ 64 → from_be_bytes w64 (take 8 (framed payload ++ rest)) ≡ length payload
front-length payload rest fits = from_be_bytes-to_be_bytes_8 (length payload) fits

length-framed : (payload : List ℕ) → length (framed payload) ≡ 8 + length payload
length-framed payload = omega arith

pub no_record-closed : (gate : ℕ) (rest : List ℕ) → gate ≢ 1 → HasNoRecord (gate ∷ rest)
no_record-closed gate rest closed = λ payload behind fits some is. closed (cc)

pub no_record-short : (rest : List ℕ) → IsCutShort rest → HasNoRecord (1 ∷ rest)
no_record-short rest short = λ payload behind fits some is.
    let same : rest ≡ framed payload ++ behind = cc in
    let long : length rest ≡ 8 + length payload + length behind =
    omega (arith, ap length same, length-append (framed payload) behind, length-framed payload) in
    let told : from_be_bytes w64 (take 8 rest) ≡ length payload =
    ap (λ (l : List ℕ). from_be_bytes w64 (take 8 l)) same ∙ front-length payload behind fits in
    ⊎_elim (λ few. absurd (omega (arith, few, long))) (λ no_room. absurd (omega (arith, no_room, told, long, some))) short

-- two records at one place are the same
same-record : (p q x y : List ℕ) → length p < 2 ^ 64 → length q < 2 ^ 64 → framed p ++ x ≡ framed q ++ y → (p ≡ q) × (x ≡ y)
same-record p q x y fits fits' is =
    let size : length p ≡ length q =
    sym (front-length p x fits) ∙ ap (λ (l : List ℕ). from_be_bytes w64 (take 8 l)) is ∙ front-length q y fits' in
    let behind : p ++ x ≡ q ++ y = ap (λ (l : List ℕ). drop 8 l) is in (
      sym (take_at p x (length p) refl) ∙ ap (λ (l : List ℕ). take (length p) l) behind ∙ take_at q y (length p) (sym size),
      sym (drop_at p x (length p) refl) ∙ ap (λ (l : List ℕ). drop (length p) l) behind ∙ drop_at q y (length p) (sym size),
    )

some-behind : (records : List (List ℕ)) (tail : List ℕ) → 0 < length tail → 0 < length (opened records ++ tail)
some-behind records tail some = omega (arith, some, length-append (opened records) tail)

pub one-reading : (first second : List (List ℕ)) (x y : List ℕ) → opened first ++ x ≡ opened second ++ y → HaveLengths first
    → HaveLengths second → HasNoRecord x → HasNoRecord y
    → 0 < length x → 0 < length y → (first ≡ second) × (x ≡ y)
one-reading [] [] x y is fits fits' none none' some some' = (refl, is)
one-reading [] (q ∷ second) x y is fits fits' none none' some some' =
    absurd (none q (opened second ++ y) fits'.0 (some-behind second y some')
    (is ∙ ap (λ (l : List ℕ). 1 ∷ l) (append_assoc (framed q) (opened second) y)))
one-reading (p ∷ first) [] x y is fits fits' none none' some some' =
    absurd (none' p (opened first ++ x) fits.0 (some-behind first x some)
    (sym is ∙ ap (λ (l : List ℕ). 1 ∷ l) (append_assoc (framed p) (opened first) x)))
one-reading (p ∷ first) (q ∷ second) x y is fits fits' none none' some some' =
    let behind : framed p ++ opened first ++ x ≡ framed q ++ opened second ++ y = ap (λ (l : List ℕ). drop 1 l) is in
    let one =
    same-record p q (opened first ++ x) (opened second ++ y) fits.0 fits'.0
    (sym (append_assoc (framed p) (opened first) x) ∙ behind ∙ append_assoc (framed q) (opened second) y) in
    let rest = one-reading first second x y one.1 fits.1 fits'.1 none none' some some' in
    (λ i. one.0 i ∷ rest.0 i, rest.1)

-- behind the same mark
behind-mark : (mark : List ℕ) (first second : List (List ℕ)) (x y file : List ℕ) → file ≡ mark ++ opened first ++ x
    → file ≡ mark ++ opened second ++ y → opened first ++ x ≡ opened second ++ y
behind-mark mark first second x y file one other =
    append_cancel_left mark (opened first ++ x) (opened second ++ y)
    (sym (append_assoc mark (opened first) x) ∙ sym one ∙ other ∙ append_assoc mark (opened second) y)

module _ (mark : List ℕ) (first second : List (List ℕ)) (file : List ℕ) where
  one-holds : Holds mark first file → Holds mark second file → first ≡ second
  one-holds a b =
      (one-reading first second (a.gate ∷ a.rest) (b.gate ∷ b.rest)
      (behind-mark mark first second (a.gate ∷ a.rest) (b.gate ∷ b.rest) file a.bytes b.bytes) a.lengths b.lengths
      (no_record-closed a.gate a.rest a.closed)
      (no_record-closed b.gate b.rest b.closed)
      (omega arith)
      (omega arith)).0

  pub one-stands : JournalStands mark first file → JournalStands mark second file → first ≡ second
  one-stands a b = elim a [
    | inl short ↦ elim b [
      | inl short' ↦ short.1 ∙ sym short'.1
      | inr long' ↦ absurd (omega (arith, short.0, long'.0))
    ]
    | inr long ↦ elim b [
      | inl short' ↦ absurd (omega (arith, short'.0, long.0))
      | inr long' ↦ one-holds long.1 long'.1
    ]
  ]

  not-behind : (nth at : ℕ) → Holds mark first file → BreaksBehind mark second file nth at → ⊥
  not-behind nth at a b =
      let tails =
      (one-reading first second (a.gate ∷ a.rest) (1 ∷ b.rest)
      (behind-mark mark first second (a.gate ∷ a.rest) (1 ∷ b.rest) file a.bytes b.bytes) a.lengths b.lengths
      (no_record-closed a.gate a.rest a.closed)
      (no_record-short b.rest b.short)
      (omega arith)
      (omega arith)).1 in
      a.closed (cc (tails))

  marked : (tail : List ℕ) → file ≡ mark ++ opened first ++ tail → take (length mark) file ≡ mark
  marked tail is =
      ap (λ (l : List ℕ). take (length mark) l) (is ∙ append_assoc mark (opened first) tail)
      ∙ take_at mark (opened first ++ tail) (length mark) refl

  pub not-both : (nth at : ℕ) → JournalStands mark first file → JournalBreaks mark second file nth at → ⊥
  not-both nth at stands breaks = elim stands [
    | inl short ↦ absurd (omega (arith, short.0, breaks.0))
    | inr long ↦ ⊎_elim
        (λ other. other.0 (marked (long.1.gate ∷ long.1.rest) long.1.bytes))
        (λ behind. not-behind nth at long.1 behind)
        breaks.1
  ]

  one-behind : (nth other at there : ℕ) → BreaksBehind mark first file nth at → BreaksBehind mark second file other there
      → (first ≡ second) × (nth ≡ other) × (at ≡ there)
  one-behind nth other at there a b =
      let same =
      (one-reading first second (1 ∷ a.rest) (1 ∷ b.rest)
      (behind-mark mark first second (1 ∷ a.rest) (1 ∷ b.rest) file a.bytes b.bytes) a.lengths b.lengths
      (no_record-short a.rest a.short)
      (no_record-short b.rest b.short)
      (omega arith)
      (omega arith)).0 in (
        same,
        a.number ∙ ap length same ∙ sym b.number,
        omega (arith, a.place, b.place, ap (λ (rs : List (List ℕ)). length (opened rs)) same),
      )

pub one-fault : (mark : List ℕ) (first second : List (List ℕ)) (file : List ℕ) (nth other at there : ℕ)
    → JournalBreaks mark first file nth at → JournalBreaks mark second file other there
    → (first ≡ second) × (nth ≡ other) × (at ≡ there)
one-fault mark first second file nth other at there a b =
    ⊎_elim
    (λ wrong. ⊎_elim
    (λ wrong'. (wrong.1 ∙ sym wrong'.1, wrong.2 ∙ sym wrong'.2, wrong.3 ∙ sym wrong'.3))
    (λ behind'. absurd (wrong.0 (marked mark second first file (1 ∷ behind'.rest) behind'.bytes)))
    b.1)
    (λ behind. ⊎_elim
    (λ wrong'. absurd (wrong'.0 (marked mark first second file (1 ∷ behind.rest) behind.bytes)))
    (λ behind'. one-behind mark first second file nth other at there behind behind')
    b.1)
    a.1
