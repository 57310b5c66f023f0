-- Where the characters of a run end, and bytes begin with which no character does.
use Rattle.std.proofs.Common.{◌≡◌, ℕ, ◌+◌, ◌-◌, ◌<◌, ◌≤◌, Bool, true, false, List, [], ◌∷◌, ◌++◌, take, drop, length, get_or, length-append}
use Rattle.std.proofs.Common.{length-drop, take-append-drop, refl, ap, ◌∙◌, sym, subst, arith, inl, inr}
use Rattle.std.proofs.Math.Seq.{take-add}
use Rattle.std.proofs.lemmas.Bool.{cases_lt}
use Rattle.std.proofs.lemmas.Bool.Decides.{nat_tests}
use Rattle.std.proofs.lemmas.List.{take_at, drop_at, take-append-le, drop-append-le, get_or_at}
use Rattle.std.proofs.lemmas.Str.{IsCharBoundary-after_ascii, IsUtf8-drop, IsUtf8-append, IsUtf8-encode, inside_one, length-encode}
use Rattle.std.proofs.lemmas.Str.{len_utf8_ascii, len_utf8_bounds}
use Rattle.std.specs.Prelude.{encode_utf8, IsUtf8, IsCharBoundary, not, if◌then◌else◌}
use Rattle.std.specs.Str.{StartsWithNoChar, IsValidUpTo}
use Rattle.edn_model.specs.Runs.{Each, Stops, IsRun}
use Rattle.edn_model.specs.Bytes.{ends_token, is_token_byte, begins_no_token, TokenEnds, NoCharacter}
use Rattle.edn_model.proofs.Runs.{Each-tail, both_true}
use Rattle.edn_token.specs.Fronts.{BrokenRun, TokenFront, BrokenToken}

pub each_front : (test : ℕ → Bool) (a c : List ℕ) → Each test (a ++ c) → Each test a
each_front test [] c h = refl
each_front test (b ∷ a) c h =
    let parts = Each-tail test b (a ++ c) h in
    both_true (test b) _ parts.0 (each_front test a c parts.1)

pub each_take : (test : ℕ → Bool) (n : ℕ) (bytes : List ℕ) → Each test bytes → Each test (take n bytes)
each_take test n bytes h = each_front test (take n bytes) (drop n bytes) (subst (Each test) (sym (take-append-drop n bytes)) h)

pub not_false : (b : Bool) → not b ≡ false → b ≡ true
not_false true h = refl
not_false false h = cc

no_character_of : (bytes : List ℕ) → 0 < length bytes → StartsWithNoChar bytes → NoCharacter bytes
no_character_of [] some none = absurd (omega arith)
no_character_of (b ∷ bytes) some none = none

-- each byte of a character but its first is past ASCII
later_high : (c i : ℕ) (rest bytes : List ℕ) → bytes ≡ encode_utf8 c ++ rest → 0 < i → i < length (encode_utf8 c) → 128 ≤ get_or bytes i 0
later_high c i rest bytes is later inside = elim (cases_lt (get_or bytes i 0) 128) [
  | inl low ↦
      let same : c ≡ get_or bytes i 0 = inside_one c rest bytes i is inside low in
      absurd (omega (arith, len_utf8_ascii c (omega arith), length-encode c))
  | inr high ↦ high
]

module _ (test : ℕ → Bool) (high : (b : ℕ) → 128 ≤ b → test b ≡ true) where
  -- a character that begins in a run ends in it
  fits : (run rest more : List ℕ) (c : ℕ) → 0 < length run → Stops test rest → run ++ rest ≡ encode_utf8 c ++ more
      → length (encode_utf8 c) ≤ length run
  fits run [] more c some stops e = omega (arith, length-append run [], length-append (encode_utf8 c) more, ap length e)
  fits run (b ∷ rest) more c some stops e = elim (cases_lt (length run) (length (encode_utf8 c))) [
    | inl over ↦
        let at : get_or (run ++ b ∷ rest) (length run) 0 ≡ b = get_or_at run b rest 0 (length run) refl in
        let past = later_high c (length run) more (run ++ b ∷ rest) e some over in
        let passes : test b ≡ true = high b (omega arith) in
        let fails : test b ≡ false = stops in
        absurd cc
    | inr within ↦ within
  ]

  no_character_behind : (run rest : List ℕ) (n : ℕ) → IsValidUpTo run n → Stops test rest → StartsWithNoChar (drop n run ++ rest)
  no_character_behind run rest n valid stops = λ c more scalar e.
      let short = valid.short in
      let size : length (drop n run) ≡ length run - n = length-drop n run in
      let len = length (encode_utf8 c) in
      let within : len ≤ length (drop n run) = fits (drop n run) rest more c (omega arith) stops e in
      let some : 0 < len = omega (arith, (len_utf8_bounds c).0, length-encode c) in
      let front : take len (drop n run) ≡ encode_utf8 c =
      sym (take-append-le len (drop n run) rest within) ∙ ap (take len) e ∙ take_at (encode_utf8 c) more len refl in
      let longer : take (n + len) run ≡ take n run ++ encode_utf8 c = take-add n len run ∙ ap (λ z. take n run ++ z) front in
      valid.longest (n + len) (omega arith)
      (subst IsUtf8 (sym longer) (IsUtf8-append (take n run) (encode_utf8 c) valid.front (IsUtf8-encode c scalar)))

  pub broken : (here run rest : List ℕ) (n : ℕ) → IsRun test here run rest → IsValidUpTo run n → BrokenRun test here n
  broken here run rest n is valid =
      let short : n < length run = valid.short in
      let front : take n here ≡ take n run = ap (take n) is.is ∙ take-append-le n run rest (omega arith) in
      let back : drop n here ≡ drop n run ++ rest = ap (drop n) is.is ∙ drop-append-le n run rest (omega arith) in
      let size : length here ≡ length run + length rest = ap length is.is ∙ length-append run rest in
      record {
        inside = omega arith;
        run = record {
          is = sym (take-append-drop n here);
          each = subst (Each test) (sym front) (each_take test n run is.each);
          utf8 = subst IsUtf8 (sym front) valid.front;
        };
        none =
            subst NoCharacter (sym back) (no_character_of _ (omega (arith, length-append (drop n run) rest, length-drop n run))
            (no_character_behind run rest n valid is.stops));
      }

-- what follows a whole run is the rest
pub run_back : (test : ℕ → Bool) (here run rest : List ℕ) → IsRun test here run rest → drop (length run) here ≡ rest
run_back test here run rest is = ap (drop (length run)) is.is ∙ drop_at run rest (length run) refl

-- ---- tokens

high_in_token : (b : ℕ) → 128 ≤ b → is_token_byte b ≡ true
high_in_token b h = grind (arith, nat_tests)

ends_where_stops : (rest : List ℕ) → Stops is_token_byte rest → TokenEnds rest
ends_where_stops [] stops = refl
ends_where_stops (b ∷ rest) stops = not_false (ends_token b) stops

pub token_front : (here run rest token : List ℕ) → IsRun is_token_byte here run rest → token ≡ run → IsUtf8 run
    → TokenFront here token (drop (length token) here)
token_front here run rest token is e utf8 =
    let back : drop (length token) here ≡ rest = ap (λ z. drop (length z) here) e ∙ run_back is_token_byte here run rest is in
    record {
      run = record {
        is = is.is ∙ ap (λ z. z ++ rest) (sym e) ∙ ap (λ z. token ++ z) (sym back);
        each = subst (Each is_token_byte) (sym e) is.each;
        utf8 = subst IsUtf8 (sym e) utf8;
      };
      ends = subst TokenEnds (sym back) (ends_where_stops rest is.stops);
    }

pub token_broken : (here run rest : List ℕ) (n place : ℕ) → IsRun is_token_byte here run rest → IsValidUpTo run n
    → place ≡ (if begins_no_token here then 0 else n)
    → BrokenToken here place
token_broken here run rest n place is valid e =
    record { at = n; broken = broken is_token_byte high_in_token here run rest n is valid; is = e }

-- ---- behind a byte of ASCII

pub cut_behind : (token behind : List ℕ) (b : ℕ) → token ≡ b ∷ behind → b < 128 → IsUtf8 token → IsCharBoundary token 1
cut_behind token behind b is low utf8 =
    let first : get_or token 0 0 ≡ b = ap (λ z. get_or z 0 0) is in
    IsCharBoundary-after_ascii token 0 utf8 (omega (arith, ap length is)) (omega arith)

pub utf8_behind : (token behind : List ℕ) (b : ℕ) → token ≡ b ∷ behind → b < 128 → IsUtf8 token → IsUtf8 behind
utf8_behind token behind b is low utf8 = subst IsUtf8 (ap (drop 1) is) (IsUtf8-drop token 1 utf8 (cut_behind token behind b is low utf8))
