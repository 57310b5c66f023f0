-- What a journal's file stands for while a record is appended.
use Rattle.std.proofs.Common.{inl, inr, ◌≡◌, ◌⊎◌, ◌+◌, ◌≤◌, ◌<◌, ◌^◌, ℕ, List, [], ◌∷◌, ◌++◌, length, get_or, take, drop, min, refl, sym}
use Rattle.std.proofs.Common.{◌∙◌, ap, subst, arith, append_assoc, length-append, take-append-drop}
use Rattle.std.proofs.lemmas.List.{append-nil, take_at, drop_at, drop_more}
use Rattle.std.proofs.lemmas.Bool.{cases_eq, cases_lt}
use Rattle.std.proofs.Math.Seq.{drop-append-add}
use Rattle.disk_model.specs.Disk.{written, Torn}
use Rattle.disk_model.specs.Journal.{framed, record_of, new_journal, opened, HaveLengths, Holds, JournalStands}
use Rattle.disk_model.proofs.Calls.{written-within}

pub opened-push : (records : List (List ℕ)) (payload : List ℕ) → opened (records ++ payload ∷ []) ≡ opened records ++ 1 ∷ framed payload
opened-push [] payload = ap (λ (l : List ℕ). 1 ∷ l) (append-nil (framed payload))
opened-push (p ∷ records) payload =
    ap (λ (l : List ℕ). 1 ∷ l)
    (ap (λ (l : List ℕ). framed p ++ l) (opened-push records payload) ∙ sym (append_assoc (framed p) (opened records) (1 ∷ framed payload)))

pub lengths-push : (records : List (List ℕ)) (payload : List ℕ) → HaveLengths records → length payload < 2 ^ 64
    → HaveLengths (records ++ payload ∷ [])
lengths-push [] payload have fits = (fits, tt)
lengths-push (p ∷ records) payload have fits = (have.0, lengths-push records payload have.1 fits)

-- the file with a record behind the gate
abbrev pub staged : List ℕ → ℕ → List ℕ → List ℕ → List ℕ
staged front gate payload rest = front ++ gate ∷ (record_of payload ++ drop (length (record_of payload)) rest)

-- the file with that gate open
abbrev pub appended : List ℕ → List ℕ → List ℕ → List ℕ
appended front payload rest = front ++ 1 ∷ (record_of payload ++ drop (length (record_of payload)) rest)

module _ (mark : List ℕ) (records : List (List ℕ)) (file : List ℕ) (holds : Holds mark records file) where
  abbrev pub front : List ℕ
  front = mark ++ opened records

  abbrev pub end : ℕ
  end = length mark + length (opened records) + 1

  length-front : length (mark ++ opened records) ≡ length mark + length (opened records)
  length-front = length-append mark (opened records)

  length-through : length (mark ++ opened records ++ holds.gate ∷ []) ≡ end
  length-through = omega (arith, length-front, length-append (mark ++ opened records) (holds.gate ∷ []))

  through : file ≡ (mark ++ opened records ++ holds.gate ∷ []) ++ holds.rest
  through = holds.bytes ∙ sym (append_assoc (mark ++ opened records) (holds.gate ∷ []) holds.rest)

  pub length-file : length file ≡ end + length holds.rest
  length-file = omega (arith, ap length through, length-append (mark ++ opened records ++ holds.gate ∷ []) holds.rest, length-through)

  take-end : take end file ≡ mark ++ opened records ++ holds.gate ∷ []
  take-end = ap (λ (l : List ℕ). take end l) through ∙ take_at (mark ++ opened records ++ holds.gate ∷ []) holds.rest end length-through

  -- any file that is the same up to the gate
  pub holds-same : (image : List ℕ) → take end image ≡ take end file → Holds mark records image
  holds-same image same = record {
    gate = holds.gate;
    rest = drop end image;
    bytes =
        sym (take-append-drop end image)
        ∙ ap (λ (l : List ℕ). l ++ drop end image) (same ∙ take-end)
        ∙ append_assoc (mark ++ opened records) (holds.gate ∷ []) (drop end image);
    closed = holds.closed;
    lengths = holds.lengths;
  }

  -- each outcome of a write behind the gate
  pub torn_behind : (n : ℕ) (image : List ℕ) → Torn end n file image → Holds mark records image
  torn_behind n image torn =
      let least : min end (length file) ≡ end = omega (arith, length-file) in
      holds-same image (subst (λ (k : ℕ). take k image ≡ take end file) least torn.before)

  module _ (payload : List ℕ) where
    pub written_behind : written end (record_of payload) file ≡ staged (mark ++ opened records) holds.gate payload holds.rest
    written_behind =
        let n = length (record_of payload) in
        let past : drop (end + n) file ≡ drop n holds.rest =
        ap (λ (l : List ℕ). drop (end + n) l) through
        ∙ ap (λ (k : ℕ). drop (k + n) ((mark ++ opened records ++ holds.gate ∷ []) ++ holds.rest)) (sym length-through)
        ∙ drop-append-add (mark ++ opened records ++ holds.gate ∷ []) holds.rest n in
        written-within end (record_of payload) file (omega (arith, length-file))
        ∙ ap (λ (l : List ℕ). l ++ record_of payload ++ drop (end + n) file) take-end
        ∙ ap (λ (l : List ℕ). mark ++ opened records ++ holds.gate ∷ [] ++ record_of payload ++ l) past
        ∙ append_assoc (mark ++ opened records ++ holds.gate ∷ []) (record_of payload) (drop n holds.rest)
        ∙ append_assoc (mark ++ opened records) (holds.gate ∷ []) (record_of payload ++ drop n holds.rest)

-- an open gate in front of a record adds it
pub holds-appended : (mark : List ℕ) (records : List (List ℕ)) (payload rest : List ℕ) → HaveLengths records → length payload < 2 ^ 64
    → Holds mark (records ++ payload ∷ []) (appended (mark ++ opened records) payload rest)
holds-appended mark records payload rest lengths fits = record {
  gate = 0;
  rest = drop (length (record_of payload)) rest;
  bytes =
      ap (λ (l : List ℕ). mark ++ opened records ++ 1 ∷ l) (append_assoc (framed payload) (0 ∷ []) (drop (length (record_of payload)) rest))
      ∙ sym (append_assoc (mark ++ opened records) (1 ∷ framed payload) (0 ∷ drop (length (record_of payload)) rest))
      ∙ ap (λ (l : List ℕ). l ++ 0 ∷ drop (length (record_of payload)) rest)
      (append_assoc mark (opened records) (1 ∷ framed payload) ∙ ap (λ (l : List ℕ). mark ++ l) (sym (opened-push records payload)));
  closed = omega arith;
  lengths = lengths-push records payload lengths fits;
}

-- a record behind any gate counts or it does not
abbrev pub IsBeforeOrAfter : List ℕ → List (List ℕ) → List ℕ → List ℕ → Type 0
IsBeforeOrAfter mark records payload file = Holds mark records file ⊎ Holds mark (records ++ payload ∷ []) file

pub holds-any_gate : (mark : List ℕ) (records : List (List ℕ)) (gate : ℕ) (payload rest : List ℕ) → HaveLengths records
    → length payload < 2 ^ 64
    → IsBeforeOrAfter mark records payload (staged (mark ++ opened records) gate payload rest)
holds-any_gate mark records gate payload rest lengths fits = elim (cases_eq gate 1) [
  | inl is_open ↦
      inr (subst (λ (g : ℕ). Holds mark (records ++ payload ∷ []) (staged (mark ++ opened records) g payload rest)) (sym is_open)
      (holds-appended mark records payload rest lengths fits))
  | inr shut ↦ inl (record {
    gate = gate;
    rest = record_of payload ++ drop (length (record_of payload)) rest;
    bytes = refl;
    closed = shut;
    lengths = lengths;
  })
]

module _ (mark : List ℕ) (records : List (List ℕ)) (gate : ℕ) (payload rest : List ℕ) where
  abbrev place : ℕ
  place = length mark + length (opened records)

  abbrev behind : List ℕ
  behind = record_of payload ++ drop (length (record_of payload)) rest

  at_place : length (mark ++ opened records) ≡ place
  at_place = length-append mark (opened records)

  length-one : length (mark ++ opened records ++ gate ∷ []) ≡ place + 1
  length-one = omega (arith, at_place, length-append (mark ++ opened records) (gate ∷ []))

  one : staged (mark ++ opened records) gate payload rest ≡ (mark ++ opened records ++ gate ∷ []) ++ behind
  one = sym (append_assoc (mark ++ opened records) (gate ∷ []) behind)

  length-staged : length (staged (mark ++ opened records) gate payload rest) ≡ place + 1 + length behind
  length-staged = omega (arith, ap length one, length-append (mark ++ opened records ++ gate ∷ []) behind, length-one)

  back : drop (place + 1) (staged (mark ++ opened records) gate payload rest) ≡ behind
  back = ap (λ (l : List ℕ). drop (place + 1) l) one ∙ drop_at (mark ++ opened records ++ gate ∷ []) behind (place + 1) length-one

  ahead : take place (staged (mark ++ opened records) gate payload rest) ≡ mark ++ opened records
  ahead = take_at (mark ++ opened records) (gate ∷ behind) place at_place

  -- each outcome of the write of the gate
  pub torn_gate : (image : List ℕ) → Torn place 1 (staged (mark ++ opened records) gate payload rest) image → HaveLengths records
      → length payload < 2 ^ 64
      → IsBeforeOrAfter mark records payload image
  torn_gate image torn lengths fits =
      let long : place < length image = omega (arith, torn.no_shorter, length-staged) in
      let is : ℕ = get_or image place 0 in
      let least : min place (length (staged (mark ++ opened records) gate payload rest)) ≡ place = omega (arith, length-staged) in
      let before : take place image ≡ mark ++ opened records =
      subst (λ (k : ℕ). take k image ≡ take place (staged (mark ++ opened records) gate payload rest)) least torn.before ∙ ahead in
      let last : drop place image ≡ is ∷ behind = drop_more image place 0 long ∙ ap (λ (l : List ℕ). is ∷ l) (torn.behind ∙ back) in
      let whole : image ≡ mark ++ opened records ++ is ∷ behind =
      sym (take-append-drop place image)
      ∙ ap (λ (l : List ℕ). l ++ drop place image) before
      ∙ ap (λ (l : List ℕ). mark ++ opened records ++ l) last in
      subst (IsBeforeOrAfter mark records payload) (sym whole) (holds-any_gate mark records is payload rest lengths fits)

  pub written_gate : written place (1 ∷ []) (staged (mark ++ opened records) gate payload rest)
      ≡ appended (mark ++ opened records) payload rest
  written_gate =
      written-within place (1 ∷ []) (staged (mark ++ opened records) gate payload rest) (omega (arith, length-staged))
      ∙ ap (λ (l : List ℕ). l ++ (1 ∷ []) ++ drop (place + 1) (staged (mark ++ opened records) gate payload rest)) ahead
      ∙ ap (λ (l : List ℕ). mark ++ opened records ++ (1 ∷ []) ++ l) back
      ∙ append_assoc (mark ++ opened records) (1 ∷ []) behind

-- what holds records stands for them
pub stands-holds : (mark : List ℕ) (records : List (List ℕ)) (file : List ℕ) → length mark ≡ 15 → Holds mark records file
    → JournalStands mark records file
stands-holds mark records file fifteen holds = elim (cases_lt 16 (length file)) [
  | inl longer ↦ inr (longer, holds)
  | inr short ↦ inl (short, none records holds.bytes (omega (arith, short)))
]
  where
    none : (rs : List (List ℕ)) → file ≡ mark ++ opened rs ++ holds.gate ∷ holds.rest → length file ≤ 16 → rs ≡ []
    none [] is short = refl
    none (p ∷ rs) is short =
        absurd (omega (
          arith,
          fifteen,
          short,
          ap length is,
          length-append (mark ++ opened (p ∷ rs)) (holds.gate ∷ holds.rest),
          length-append mark (opened (p ∷ rs)),
        ))

-- a file of at most sixteen bytes, whatever they are, and the new journal that is written over it
pub stands-short : (mark : List ℕ) (image : List ℕ) → length image ≤ 16 → JournalStands mark [] image
stands-short mark image short = inl (short, refl)

pub holds-new : (mark : List ℕ) → Holds mark [] (new_journal mark)
holds-new mark =
    record { gate = 0; rest = []; bytes = ap (λ (l : List ℕ). l ++ 0 ∷ []) (sym (append-nil mark)); closed = omega arith; lengths = tt }
