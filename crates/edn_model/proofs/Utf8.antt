-- Whole characters stand in one way in front of bytes with which no character begins.
use Rattle.std.proofs.Common.{◌≡◌, ℕ, zero, suc, ◌<◌, ◌≤◌, Bool, true, false, List, [], ◌∷◌, ◌++◌, ◌+◌, append_assoc, length, length-append}
use Rattle.std.proofs.Common.{get_or, take, drop, lit<, refl, ap, ◌∙◌, sym, subst, arith, inl, inr}
use Rattle.std.proofs.Math.Seq.{take-append_seam, drop-append_seam}
use Rattle.std.proofs.lemmas.Bool.{cases_lt}
use Rattle.std.proofs.lemmas.Str.{IsUtf8-from_ascii, IsUtf8-drop, IsCharBoundary-from_take}
use lib.Utf8.{scalar, scalars}
use Rattle.std.specs.Prelude.{IsUtf8, encode_utf8, encode_utf8_all}
use Rattle.std.specs.Str.{StartsWithNoChar}
use Rattle.edn_model.specs.Runs.{Each, Stops}
use Rattle.edn_model.specs.Bytes.{NoCharacter}
use Rattle.edn_model.proofs.Runs.{heads, tails, both, Each-tail, stop_differs}

-- ---- lists with the same bytes

pub data Meets (a x b y : List ℕ) : Type 0 where
  first : (c : List ℕ) → b ≡ a ++ c → x ≡ c ++ y → Meets a x b y
  second : (c : List ℕ) → a ≡ b ++ c → y ≡ c ++ x → Meets a x b y

pub same_cons : {b c : ℕ} {x y : List ℕ} → b ≡ c → x ≡ y → b ∷ x ≡ c ∷ y
same_cons e i = cc

meet_tails : {b c : ℕ} {a x d y : List ℕ} → b ≡ c → Meets a x d y → Meets (b ∷ a) x (c ∷ d) y
meet_tails e (first k i j) = first k (same_cons (sym e) i) j
meet_tails e (second k i j) = second k (same_cons e i) j

pub meets : (a x b y : List ℕ) → a ++ x ≡ b ++ y → Meets a x b y
meets [] x b y e = first b refl e
meets (p ∷ a) x [] y e = second (p ∷ a) refl (sym e)
meets (p ∷ a) x (q ∷ b) y e = meet_tails (heads e) (meets a x b y (tails e))

pub each_behind : (test : ℕ → Bool) (a c : List ℕ) → Each test (a ++ c) → Each test c
each_behind test [] c h = h
each_behind test (b ∷ a) c h = each_behind test a c (Each-tail test b (a ++ c) h).1

-- ---- characters

pub utf8_behind : (a c : List ℕ) → IsUtf8 a → IsUtf8 (a ++ c) → IsUtf8 c
utf8_behind a c u v =
    let size : length (a ++ c) ≡ length a + length c = length-append a c in
    let front : IsUtf8 (take (length a) (a ++ c)) = subst IsUtf8 (sym (take-append_seam a c)) u in
    subst IsUtf8 (drop-append_seam a c)
    (IsUtf8-drop (a ++ c) (length a) v (IsCharBoundary-from_take (a ++ c) (length a) v (omega arith) front))

-- a text that begins with a character
no_text_of : (cs l r : List ℕ) (b : ℕ) → scalars cs ≡ true → encode_utf8_all cs ≡ b ∷ l → StartsWithNoChar ((b ∷ l) ++ r) → ⊥
no_text_of [] l r b h e n = let wrong : [] ≡ b ∷ l = e in cc
no_text_of (c ∷ cs) l r b h e n =
    n c (encode_utf8_all cs ++ r) (both (scalar c) (scalars cs) h).0
    (ap (λ z. z ++ r) (sym e) ∙ append_assoc (encode_utf8 c) (encode_utf8_all cs) r)

no_text : (b : ℕ) (l r : List ℕ) → StartsWithNoChar ((b ∷ l) ++ r) → IsUtf8 (b ∷ l) → ⊥
no_text b l r n u = no_text_of u.0 l r b u.1.0 u.1.1 n

pub no_character_text : (c x y : List ℕ) → IsUtf8 c → NoCharacter x → x ≡ c ++ y → c ≡ []
no_character_text [] x y u n e = refl
no_character_text (b ∷ c) [] y u n e = absurd n
no_character_text (b ∷ c) (d ∷ x) y u n e =
    let none : StartsWithNoChar ((b ∷ c) ++ y) = subst StartsWithNoChar e n in
    absurd (no_text b c y none u)

low_at : (b : ℕ) → b < 128 → (i : ℕ) → get_or (b ∷ []) i 0 < 128
low_at b low zero = low
low_at b low (suc i) = lit< tt

pub one_low : (b : ℕ) → b < 128 → IsUtf8 (b ∷ [])
one_low b low = IsUtf8-from_ascii (b ∷ []) (low_at b low)

-- a byte with which no character begins is past ASCII
pub no_character_high : (b : ℕ) (bytes : List ℕ) → NoCharacter (b ∷ bytes) → 128 ≤ b
no_character_high b bytes n = elim (cases_lt b 128) [
  | inl low ↦ absurd (no_text b [] bytes n (one_low b low))
  | inr high ↦ high
]

pub one_cut : (a x b y : List ℕ) → IsUtf8 a → IsUtf8 b → NoCharacter x → NoCharacter y → a ++ x ≡ b ++ y → x ≡ y
one_cut a x b y u v n m e = elim (meets a x b y e) [
  | first c i j ↦ let none = no_character_text c x y (utf8_behind a c u (subst IsUtf8 i v)) n j in j ∙ ap (λ z. z ++ y) none
  | second c i j ↦ let none = no_character_text c y x (utf8_behind b c v (subst IsUtf8 i u)) m j in sym (j ∙ ap (λ z. z ++ x) none)
]

-- a run that stops, and bytes of it before one with which no character begins
module _ (test : ℕ → Bool) (high : (b : ℕ) → 128 ≤ b → test b ≡ true) where
  stops_at_none : (x : List ℕ) → Stops test x → NoCharacter x → ⊥
  stops_at_none [] stops n = n
  stops_at_none (b ∷ x) stops n = let passes : test b ≡ true = high b (no_character_high b x n) in let fails : test b ≡ false = stops in cc

  stops_later : (c x y : List ℕ) → Stops test x → Each test c → NoCharacter y → x ≡ c ++ y → ⊥
  stops_later [] x y stops each n e = stops_at_none x stops (subst NoCharacter (sym e) n)
  stops_later (b ∷ c) x y stops each n e = stop_differs test b x (c ++ y) stops e (Each-tail test b c each).0

  pub no_cut : (a x b y : List ℕ) → IsUtf8 a → Stops test x → Each test b → IsUtf8 b → NoCharacter y → a ++ x ≡ b ++ y → ⊥
  no_cut a x b y u stops each v n e = elim (meets a x b y e) [
    | first c i j ↦ stops_later c x y stops (each_behind test a c (subst (Each test) i each)) n j
    | second c i j ↦
        let none = no_character_text c y x (utf8_behind b c v (subst IsUtf8 i u)) n j in
        stops_at_none x stops (subst NoCharacter (j ∙ ap (λ z. z ++ x) none) n)
  ]
