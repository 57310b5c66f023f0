-- Every file of bytes has a reading.
use Rattle.std.proofs.Common.{Bool, true, false, inl, inr, ⊎_elim, ◌⊎◌, ◌≡◌, ◌≢◌, ◌+◌, ◌≤◌, ◌<◌, ◌^◌, ℕ, zero, suc, List, [], ◌∷◌, ◌++◌}
use Rattle.std.proofs.Common.{length, get_or, take, drop, All, refl, sym, ◌∙◌, ap, subst, arith, append_assoc, length-take, length-drop}
use Rattle.std.proofs.Common.{take-append-drop}
use Rattle.std.proofs.lemmas.Bool.{cases_eq, cases_lt}
use Rattle.std.proofs.lemmas.List.{get_or-take, get_or_past}
use Rattle.std.proofs.lemmas.List.Elements.{All-drop, All-get_or}
use Rattle.std.proofs.lemmas.Nat.{be_bytes_8}
use Rattle.std.proofs.lemmas.Slice.Eq.{bytes_eq-Decides}
use Rattle.std.proofs.Math.Seq.{take-add}
use Rattle.std.specs.Int.{w64, from_be_bytes}
use Rattle.std.specs.Str.{bytes_eq}
use Rattle.disk_model.specs.Journal.{framed, opened, HaveLengths, JournalStands, IsCutShort, JournalBreaks}

abbrev AreBytes : List ℕ → Type 0
AreBytes bytes = All (λ byte. byte < 256) bytes

-- what stands at a gate: a closed one, or an open one without a whole record behind it
abbrev Ends : List ℕ → Type 0
Ends tail = ((gate : ℕ) × (rest : List ℕ) × (tail ≡ gate ∷ rest) × (gate ≢ 1)) ⊎ ((rest : List ℕ) × (tail ≡ 1 ∷ rest) × IsCutShort rest)

-- the records from a gate on, and what stands behind them
record Walked (tail : List ℕ) : Type 0 where
  records : List (List ℕ)
  lengths : HaveLengths records
  behind : List ℕ
  bytes : tail ≡ opened records ++ behind
  ends : Ends behind

small : (bytes : List ℕ) (n : ℕ) → n ≤ length bytes → AreBytes bytes → (i : ℕ) → get_or (take n bytes) i 0 < 256
small bytes n within are i = elim (cases_lt i n) [
  | inl below ↦ rw (get_or-take n bytes i 0 below) (All-get_or (λ byte. byte < 256) bytes i 0 (omega (arith, below, within)) are)
  | inr past ↦ rw (get_or_past (take n bytes) i 0 (omega (arith, past, length-take n bytes))) (omega arith)
]

-- a whole record behind an open gate
module _ (rest : List ℕ) (n : ℕ) (is : n ≡ from_be_bytes w64 (take 8 rest)) (room : 8 + n + 1 ≤ length rest) (fits : n < 2 ^ 64)
    (are : AreBytes rest) where
  abbrev payload : List ℕ
  payload = take n (drop 8 rest)

  length-payload : length payload ≡ n
  length-payload = omega (arith, room, length-take n (drop 8 rest), length-drop 8 rest)

  front : take (8 + n) rest ≡ framed payload
  front =
      take-add 8 n rest
      ∙ ap (λ (l : List ℕ). l ++ take n (drop 8 rest))
      (sym (be_bytes_8 (take 8 rest) (length payload) (omega (arith, room, length-take 8 rest)) (small rest 8 (omega (arith, room)) are)
      (length-payload ∙ is)))

  more : Walked (drop (8 + n) rest) → Walked (1 ∷ rest)
  more walked = record {
    records = payload ∷ walked.records;
    lengths = (omega (arith, length-payload, fits), walked.lengths);
    behind = walked.behind;
    bytes =
        ap (λ (l : List ℕ). 1 ∷ l) (sym (take-append-drop (8 + n) rest) ∙ ap (λ (l : List ℕ). l ++ drop (8 + n) rest) front
        ∙ ap (λ (l : List ℕ). framed payload ++ l) walked.bytes)
        ∙ sym (append_assoc (1 ∷ framed payload) (opened walked.records) walked.behind);
    ends = walked.ends;
  }

length_fits : (rest : List ℕ) → 8 ≤ length rest → AreBytes rest → from_be_bytes w64 (take 8 rest) < 2 ^ 64
length_fits rest long are =
    omega (
      arith,
      small rest 8 long are 0,
      small rest 8 long are 1,
      small rest 8 long are 2,
      small rest 8 long are 3,
      small rest 8 long are 4,
      small rest 8 long are 5,
      small rest 8 long are 6,
      small rest 8 long are 7,
    )

cut_short : (rest : List ℕ) → IsCutShort rest → Walked (1 ∷ rest)
cut_short rest short = record { records = []; lengths = tt; behind = 1 ∷ rest; bytes = refl; ends = inr (rest, refl, short) }

walked : (fuel : ℕ) (tail : List ℕ) → length tail ≤ fuel → 0 < length tail → AreBytes tail → Walked tail
walked fuel [] short some are = absurd (omega (arith, some))
walked zero (gate ∷ rest) short some are = absurd (omega (arith, short))
walked (suc fuel) (gate ∷ rest) short some are = elim (cases_eq gate 1) [
  | inr closed ↦ record { records = []; lengths = tt; behind = gate ∷ rest; bytes = refl; ends = inl (gate, rest, refl, closed) }
  | inl open_gate ↦
      let here : AreBytes rest = All-drop (λ byte. byte < 256) 1 (gate ∷ rest) are in
      let n : ℕ = from_be_bytes w64 (take 8 rest) in
      subst (λ (b : ℕ). Walked (b ∷ rest)) (sym open_gate) (elim (cases_lt (length rest) 8) [
        | inl few ↦ cut_short rest (inl few)
        | inr long ↦ elim (cases_lt (length rest) (8 + n + 1)) [
          | inl no_room ↦ cut_short rest (inr no_room)
          | inr room ↦ more rest n refl room (length_fits rest long here) here
              (walked fuel (drop (8 + n) rest) (omega (arith, short, length-drop (8 + n) rest))
              (omega (arith, room, length-drop (8 + n) rest)) (All-drop (λ byte. byte < 256) (8 + n) rest here))
        ]
      ])
]

-- what a file stands for, or its first fault
abbrev pub Reading : List ℕ → List ℕ → Type 0
Reading mark file =
    (records : List (List ℕ)) × (JournalStands mark records file ⊎ ((nth : ℕ) × (at : ℕ) × JournalBreaks mark records file nth at))

-- a file that is longer than a new journal and begins with the mark
from_walk : (mark file : List ℕ) → 16 < length file → file ≡ mark ++ drop (length mark) file → Walked (drop (length mark) file)
    → Reading mark file
from_walk mark file longer marked walk =
    let whole : file ≡ mark ++ opened walk.records ++ walk.behind =
    marked ∙ ap (λ (l : List ℕ). mark ++ l) walk.bytes ∙ sym (append_assoc mark (opened walk.records) walk.behind) in (
      walk.records,
      ⊎_elim
          (λ closed. inl (inr (
            longer,
            record {
              gate = closed.0;
              rest = closed.1;
              bytes = whole ∙ ap (λ (l : List ℕ). mark ++ opened walk.records ++ l) closed.2;
              closed = closed.3;
              lengths = walk.lengths;
            },
          )))
          (λ broken. inr (
            length walk.records,
            length mark + length (opened walk.records) + 1,
            (
              longer,
              inr (record {
                rest = broken.0;
                bytes = whole ∙ ap (λ (l : List ℕ). mark ++ opened walk.records ++ l) broken.1;
                short = broken.2;
                lengths = walk.lengths;
                number = refl;
                place = refl;
              }),
            ),
          ))
          walk.ends,
    )

begins : (mark file : List ℕ) → bytes_eq (take (length mark) file) mark ≡ true → file ≡ mark ++ drop (length mark) file
begins mark file same =
    sym (take-append-drop (length mark) file)
    ∙ ap (λ (l : List ℕ). l ++ drop (length mark) file) ((bytes_eq-Decides (take (length mark) file) mark).0 same)

marked : (mark file : List ℕ) (same : Bool) → bytes_eq (take (length mark) file) mark ≡ same → length mark ≡ 15 → 16 < length file
    → AreBytes file → Reading mark file
marked mark file true is fifteen longer are =
    from_walk mark file longer (begins mark file is)
    (walked (length file) (drop (length mark) file) (omega (arith, length-drop (length mark) file))
    (omega (arith, fifteen, longer, length-drop (length mark) file))
    (All-drop (λ byte. byte < 256) (length mark) file are))
marked mark file false is fifteen longer are =
    let differs : take (length mark) file ≢ mark =
    λ same. let yes : bytes_eq (take (length mark) file) mark ≡ true = (bytes_eq-Decides (take (length mark) file) mark).1 same in
    absurd (cc) in
    ([], inr (0, 0, (longer, inl (differs, refl, refl, refl))))

pub some-reading : (mark file : List ℕ) → length mark ≡ 15 → All (λ byte. byte < 256) file → Reading mark file
some-reading mark file fifteen are = elim (cases_lt 16 (length file)) [
  | inr short ↦ ([], inl (inl (short, refl)))
  | inl longer ↦ marked mark file (bytes_eq (take (length mark) file) mark) refl fifteen longer are
]
