-- So many bytes as a text that fits.
use Rattle.std.proofs.Common.{◌≡◌, ◌≤◌, ◌-◌, ℕ, Bool, true, false, cond, List, length, take, drop, ap, ◌∙◌, refl, arith}
use Rattle.std.specs.Prelude.{◌&&◌, nat_le, slice_range}
use Rattle.std.specs.Str.{IsUtf8, is_utf8}
use Rattle.std.proofs.lemmas.Str.{IsUtf8-from_is_utf8, is_utf8-from_IsUtf8}
use Rattle.std.proofs.lemmas.Bool.{le-leb}
use Rattle.std.proofs.lemmas.List.{take_rest}
use Rattle.log_model.specs.Fields.{Reading, found, misfit, and_then, that_fits, piece, is_text}

minus-none : (n : ℕ) → n - 0 ≡ n
minus-none n = omega arith

-- the first bytes of those from a place on
pub front-is_piece : (bytes front : List ℕ) (at len : ℕ) → front ≡ slice_range (take (length bytes - at) (drop at bytes)) 0 len
    → front ≡ take len (drop at bytes)
front-is_piece bytes front at len is = is ∙ (λ i. take (minus-none len i) (take_rest bytes at i))

module _ (test : List ℕ → Bool) (n : ℕ) (bytes : List ℕ) where
  abbrev front : List ℕ
  front = take n bytes

  abbrev behind : List ℕ
  behind = drop n bytes

  -- the piece, where it is there, and then the text, where it fits
  abbrev after_piece : Reading (List ℕ) → Reading (List ℕ)
  after_piece reading = and_then reading (λ text rest. cond (is_text test text) (found text rest) (misfit bytes))

  abbrev by_tests : Bool → Bool → Reading (List ℕ)
  by_tests utf8 passes = cond (utf8 && passes) (found front behind) (misfit bytes)

  pub text-fits : n ≤ length bytes → IsUtf8 front → test front ≡ true → that_fits (is_text test) (piece n) bytes ≡ found front behind
  text-fits room utf8 passes =
      ap (λ (b : Bool). after_piece (cond b (found front behind) (misfit bytes))) (le-leb n (length bytes) room)
      ∙ ap (λ (b : Bool). by_tests b (test front)) (is_utf8-from_IsUtf8 front utf8)
      ∙ ap (λ (b : Bool). by_tests true b) passes

  none : (room utf8 : Bool) → is_utf8 front ≡ utf8 → (utf8 ≡ true → ⊥)
      → after_piece (cond room (found front behind) (misfit bytes)) ≡ misfit bytes
  none false utf8 is bad = refl
  none true false is bad = ap (λ (b : Bool). by_tests b (test front)) is
  none true true is bad = absurd (bad refl)

  pub no-text : (IsUtf8 front → ⊥) → that_fits (is_text test) (piece n) bytes ≡ misfit bytes
  no-text bad = none (nat_le n (length bytes)) (is_utf8 front) refl (λ is. bad (IsUtf8-from_is_utf8 front is))
