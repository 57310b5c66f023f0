-- Pieces of the worked examples.
use Rattle.std.proofs.Common.{◌≡◌, ℕ, zero, suc, ◌+◌, ◌/◌, ◌<◌, ◌≤◌, Bool, true, false, nat_lt, List, [], ◌∷◌, ◌++◌, length, get_or}
use Rattle.std.proofs.Common.{replicate, pos, cond, refl, ap, ◌∙◌, arith, inl, inr, IsTrue}
use Rattle.std.proofs.lemmas.Str.{IsUtf8-from_ascii}
use Rattle.std.proofs.lemmas.Bool.Decides.{nat_tests}
use Rattle.std.specs.Str.{IsUtf8}
use lib.Utf8.{encode, next, scalar, scalar_cases}
use Rattle.edn_model.specs.Form as form
use Rattle.edn_model.specs.Bytes.{colon, open_bracket, is_name_byte, is_plain, Each, TokenEnds, NoCharacter}
use Rattle.edn_model.specs.Tokens.{IsDecimal, unsigned, is_long, begins_keyword, Spells, nothing, plain}
use Rattle.edn_model.specs.Grammar.{no_gap, Text, atom, no_members, max_depth}
use Rattle.edn_model.specs.Faults.{Open, in_vector, wants_string, depth_of, Faultless, inside}
use Rattle.edn_model.proofs.Runs.{heads, Each-tail}

abbrev pub is_ascii : ℕ → Bool
is_ascii b = nat_lt b 128

ascii_bytes : (bytes : List ℕ) → Each is_ascii bytes → (i : ℕ) → get_or bytes i 0 < 128
ascii_bytes [] h i = omega arith
ascii_bytes (x ∷ bytes) h zero = let first = (Each-tail is_ascii x bytes h).0 in grind (arith, nat_tests)
ascii_bytes (x ∷ bytes) h (suc i) = ascii_bytes bytes (Each-tail is_ascii x bytes h).1 i

pub ascii_utf8 : (bytes : List ℕ) → Each is_ascii bytes → IsUtf8 bytes
ascii_utf8 bytes h = IsUtf8-from_ascii bytes (ascii_bytes bytes h)

-- a character's bytes, by how many they are
abbrev bytes_by : Bool → Bool → Bool → ℕ → List ℕ
bytes_by one two three c =
    cond one (c ∷ []) (cond two ((192 + c / 64) ∷ next c ∷ []) (cond three ((224 + c / 4096) ∷ next (c / 64) ∷ next c ∷ [])
    ((240 + c / 262144) ∷ next (c / 4096) ∷ next (c / 64) ∷ next c ∷ [])))

bytes_of : (c : ℕ) → encode c ≡ bytes_by (nat_lt c 0x80) (nat_lt c 0x800) (nat_lt c 0x1_0000) c
unfolding encode
bytes_of c = refl

first_below : (one two three : Bool) (c : ℕ) (bytes rest : List ℕ) → (one ≡ true → c < 0x80) → (two ≡ true → c < 0x800)
    → (three ≡ true → c < 0x1_0000)
    → c < 0x11_0000 → 255 ∷ bytes ≡ bytes_by one two three c ++ rest → ⊥
first_below true q r c bytes rest hp hq hr below e = let low = hp refl in let first = heads e in omega arith
first_below false true r c bytes rest hp hq hr below e = let low = hq refl in let first = heads e in omega arith
first_below false false true c bytes rest hp hq hr below e = let low = hr refl in let first = heads e in omega arith
first_below false false false c bytes rest hp hq hr below e = let first = heads e in omega arith

below : (c n : ℕ) → nat_lt c n ≡ true → c < n
below c n h = grind (arith, nat_tests)

scalar_below : (c : ℕ) → scalar c ≡ true → c < 0x11_0000
scalar_below c h = elim (scalar_cases c h) [
  | inl low ↦ omega arith
  | inr (high) ↦ high.1
]

-- no character begins with the highest byte
pub no_character_255 : (bytes : List ℕ) → NoCharacter (255 ∷ bytes)
no_character_255 bytes = λ c rest h e.
    first_below (nat_lt c 0x80) (nat_lt c 0x800) (nat_lt c 0x1_0000) c bytes rest (below c 0x80) (below c 0x800) (below c 0x1_0000)
    (scalar_below c h)
    (e ∙ ap (λ z. z ++ rest) (bytes_of c))

-- bytes that stand for themselves
pub spelled_plain : (text rest : List ℕ) → Each is_plain text → Spells (text ++ rest) text rest
spelled_plain [] rest h = nothing
spelled_plain (b ∷ text) rest h = let parts = Each-tail is_plain b text h in plain parts.0 (spelled_plain text rest parts.1)

-- an unsigned integer of more than one digit, or not 0
pub int_text : (depth n : ℕ) (digits rest : List ℕ) → IsDecimal n digits → IsTrue (is_long (pos n)) → TokenEnds rest
    → Text depth (form.integer (pos n)) (digits ++ rest) rest
int_text depth n digits rest is fits ends = atom digits (unsigned is refl, fits) refl ends

pub key_text : (depth : ℕ) (k rest : List ℕ) → 0 < length k → Each is_name_byte k → IsTrue (begins_keyword k) → Each is_ascii k
    → TokenEnds rest → Text depth (form.keyword k) (colon ∷ (k ++ rest)) rest
key_text depth k rest some each begin ascii ends = atom (colon ∷ k) (refl, (ascii_utf8 k ascii, inl ((some, each), begin))) refl ends

-- vectors that are open in one another
abbrev pub pile : ℕ → List Open → List Open
pile zero opens = opens
pile (suc k) opens = pile k (in_vector form.no_forms ∷ opens)

pub deeper : (k : ℕ) (bytes : List ℕ) (opens : List Open) (rest : List ℕ) → wants_string opens ≡ false → k + depth_of opens ≤ max_depth
    → Faultless bytes opens (replicate k open_bracket ++ rest) → Faultless bytes (pile k opens) rest
deeper zero bytes opens rest free fits stands = stands
deeper (suc k) bytes opens rest free fits stands =
    deeper k bytes (in_vector form.no_forms ∷ opens) rest refl (omega arith)
    (inside stands (rw free refl) (omega arith) (replicate k open_bracket ++ rest, refl, no_members no_gap))
