-- With which bytes tokens begin.
use Rattle.std.proofs.Common.{◌≡◌, ℕ, ◌<◌, Bool, true, false, List, [], ◌∷◌, ◌++◌, length, lit<, refl, ap, ◌∙◌, sym, subst, arith, inl, inr}
use Rattle.std.proofs.Common.{codes}
use Rattle.std.proofs.lemmas.List.{append-nil}
use Rattle.std.proofs.lemmas.Bool.{cases_Bool}
use Rattle.std.proofs.lemmas.Bool.Decides.{nat_tests}
use Rattle.std.specs.Prelude.{◌==◌, ◌&&◌, ◌||◌, not}
use Rattle.edn_model.specs.Form as form
use Rattle.edn_model.specs.Bytes.{hash, plus, minus, point, slash, colon, backslash, is_digit, is_name_byte, is_token_byte, may_begin_token}
use Rattle.edn_model.specs.Bytes.{begins_no_token, Each}
use Rattle.edn_model.specs.Tokens.{IsName, IsSymbol, IsReserved, begins_symbol, IsKeyword, IsAtom}
use Rattle.edn_model.specs.Faults.{What, char, float, big_int, wide, namespaced_map, tag, DigitsBefore, IsUnsupported, IsNoToken}
use Rattle.edn_model.proofs.Runs.{heads, both, both_true, Each-tail}
use Rattle.edn_model.proofs.Utf8.{one_low}
use Rattle.edn_model.proofs.Pieces.{ascii_utf8}
use Rattle.edn_model.proofs.OneForm.{FirstByte, not_true}
use Rattle.edn_model.proofs.NoToken.{NumberFront, bare, signed, numeral_front, marked_front}

abbrev Begins : List ℕ → Type 0
Begins token = FirstByte may_begin_token token

name_begins : (b : ℕ) → is_name_byte b ≡ true → may_begin_token b ≡ true
name_begins b h = ap (λ z. z || (b == slash || b == backslash)) h

digit_begins : (b : ℕ) → is_digit b ≡ true → may_begin_token b ≡ true
digit_begins b h = grind (arith, nat_tests)

-- ---- forms

front_of_name : (name rest : List ℕ) → IsName name → Begins (name ++ rest)
front_of_name [] rest h = absurd (let some = h.0 in omega arith)
front_of_name (b ∷ name) rest h =
    record { first = b; others = name ++ rest; is = refl; passes = name_begins b (Each-tail is_name_byte b name h.1).0 }

front_of_symbol : (s : List ℕ) → IsSymbol s → Begins s
front_of_symbol s h = elim h.1 [
  | inl one ↦ record { first = slash; others = []; is = one; passes = refl }
  | inr (long) ↦ elim long.2 [
    | inl name ↦ subst Begins (append-nil s) (front_of_name s [] name)
    | inr two ↦ subst Begins (sym two.2) (front_of_name two.0 (slash ∷ two.1) two.3)
  ]
]

front_of_number : {token : List ℕ} → NumberFront token → Begins token
front_of_number (bare d others h) = record { first = d; others = others; is = refl; passes = digit_begins d h }
front_of_number (signed b d others (inl is) h) = record { first = b; others = d ∷ others; is = refl; passes = ap may_begin_token is }
front_of_number (signed b d others (inr is) h) = record { first = b; others = d ∷ others; is = refl; passes = ap may_begin_token is }

pub front_of_atom : (f : form.Form) (token : List ℕ) → IsAtom f token → Begins token
front_of_atom form.nil token h = record { first = 110; others = codes "il"; is = h; passes = refl }
front_of_atom (form.boolean true) token h = record { first = 116; others = codes "rue"; is = h; passes = refl }
front_of_atom (form.boolean false) token h = record { first = 102; others = codes "alse"; is = h; passes = refl }
front_of_atom (form.integer z) token h = front_of_number (numeral_front z token h.0)
front_of_atom (form.symbol s) token h = subst Begins (sym h.0) (front_of_symbol s h.1)
front_of_atom (form.keyword k) token h = record { first = colon; others = k; is = h.0; passes = refl }
front_of_atom _ token h = absurd h

-- ---- what is unsupported

pub front_of_unsupported : (what : What) (token : List ℕ) → IsUnsupported what token → Begins token
front_of_unsupported char token h = record { first = backslash; others = h.0; is = h.1; passes = refl }
front_of_unsupported float token (inl (h)) = front_of_number (marked_front h.0 token h.2)
front_of_unsupported float token (inr (h)) = record { first = hash; others = hash ∷ h.0; is = h.1; passes = refl }
front_of_unsupported big_int token h = front_of_number (marked_front 78 token h)
front_of_unsupported wide token h = front_of_number (numeral_front h.0 token h.1)
front_of_unsupported namespaced_map token h = record { first = hash; others = colon ∷ h.0; is = h.1; passes = refl }
front_of_unsupported tag token h = record { first = hash; others = h.0 ∷ h.1; is = h.2; passes = refl }

-- ---- other bytes

not_begun : (b : ℕ) (more : List ℕ) → may_begin_token b ≡ false → Begins (b ∷ more) → ⊥
not_begun b more fails h =
    let same : may_begin_token b ≡ may_begin_token h.first = ap may_begin_token (heads h.is) in
    let passes = h.passes in cc

hash_begins : (others : List ℕ) {token : List ℕ} → token ≡ hash ∷ others → Begins token
hash_begins others is = record { first = hash; others = others; is = is; passes = refl }

pub no_token_of : (b : ℕ) (more : List ℕ) → may_begin_token b ≡ false → IsNoToken (b ∷ more)
no_token_of b more fails = record {
  no_form = λ f h. not_begun b more fails (front_of_atom f (b ∷ more) h);
  supported = λ what h. not_begun b more fails (front_of_unsupported what (b ∷ more) h);
  no_tag = (λ e. not_begun b more fails (hash_begins (codes "inst") e), λ e. not_begun b more fails (hash_begins (codes "uuid") e));
}

none_begins : (b : ℕ) (bytes : List ℕ) → begins_no_token (b ∷ bytes) ≡ true → may_begin_token b ≡ false
none_begins b bytes h = not_true (may_begin_token b) (both (is_token_byte b) (not (may_begin_token b)) h).1

pub none_begun : (here token rest : List ℕ) → Begins token → here ≡ token ++ rest → begins_no_token here ≡ true → ⊥
none_begun here token rest h is none =
    let front : here ≡ h.first ∷ (h.others ++ rest) = is ∙ ap (λ z. z ++ rest) h.is in
    let fails = none_begins h.first (h.others ++ rest) (sym (ap begins_no_token front) ∙ none) in
    let passes = h.passes in cc

-- ---- a token for each other byte

-- the bytes of a token behind its first one
abbrev TokenOf : ℕ → Type 0
TokenOf b = (more : List ℕ) × (IsNoToken (b ∷ more) → ⊥)

equal : (a b : ℕ) → (a == b) ≡ true → a ≡ b
equal a b h = grind (arith, nat_tests)

one_byte : (test : ℕ → Bool) (b : ℕ) → test b ≡ true → Each test (b ∷ [])
one_byte test b h = both_true (test b) true h refl

float_of : (b : ℕ) → is_digit b ≡ true → TokenOf b
float_of b h =
    let before : DigitsBefore point (b ∷ point ∷ []) =
    record { sign = []; digits = b ∷ []; more = []; is = refl; signs = inl refl; some = lit< tt; each = one_byte is_digit b h } in
    (point ∷ [], λ none. none.supported float (inl (point, refl, before)))

keyword_a : IsKeyword (codes "a")
keyword_a = (ascii_utf8 (codes "a") refl, inl ((lit< tt, refl), refl))

keyword_of : TokenOf colon
keyword_of = (codes "a", λ none. none.no_form (form.keyword (codes "a")) (refl, keyword_a))

float_word : TokenOf hash
float_word = (hash ∷ [], λ none. none.supported float (inr ([], refl)))

slash_alone : TokenOf slash
slash_alone = ([], λ none. none.no_form (form.symbol (slash ∷ [])) (refl, (ascii_utf8 (slash ∷ []) refl, inl refl)))

char_of : TokenOf backslash
char_of = ([], λ none. none.supported char ([], refl))

begins_by : (digit colon hash sign : Bool) → digit ≡ false → colon ≡ false → hash ≡ false
    → (not digit && ((not colon && not hash) && not (sign && false))) ≡ true
begins_by true q r s hp hq hr = cc
begins_by false true r s hp hq hr = cc
begins_by false false true s hp hq hr = cc
begins_by false false false true hp hq hr = refl
begins_by false false false false hp hq hr = refl

one_unreserved : (b : ℕ) → IsReserved (b ∷ []) → ⊥
one_unreserved b (inl e) = let wrong = ap length e in omega arith
one_unreserved b (inr (inl e)) = let wrong = ap length e in omega arith
one_unreserved b (inr (inr e)) = let wrong = ap length e in omega arith

symbol_of : (b : ℕ) → b < 128 → is_name_byte b ≡ true → is_digit b ≡ false → (b == colon) ≡ false → (b == hash) ≡ false → TokenOf b
symbol_of b low name no_digit no_colon no_hash =
    let first : begins_symbol (b ∷ []) ≡ true =
    begins_by (is_digit b) (b == colon) (b == hash) (b == point || (b == plus || b == minus)) no_digit no_colon no_hash in
    let symbol : IsSymbol (b ∷ []) = (one_low b low, inr (first, one_unreserved b, inl (lit< tt, one_byte is_name_byte b name))) in
    ([], λ none. none.no_form (form.symbol (b ∷ [])) (refl, symbol))

-- a byte that stands in names
name_token : (b : ℕ) → b < 128 → is_name_byte b ≡ true → TokenOf b
name_token b low name = elim (cases_Bool (is_digit b)) [
  | inl digit ↦ float_of b digit
  | inr (no_digit) ↦ elim (cases_Bool (b == colon)) [
    | inl is ↦ subst TokenOf (sym (equal b colon is)) keyword_of
    | inr (no_colon) ↦ elim (cases_Bool (b == hash)) [
      | inl is ↦ subst TokenOf (sym (equal b hash is)) float_word
      | inr no_hash ↦ symbol_of b low name no_digit no_colon no_hash
    ]
  ]
]

either : (p q r : Bool) → (p || (q || r)) ≡ true → p ≡ false → q ≡ false → r ≡ true
either true q r h hp hq = cc
either false true r h hp hq = cc
either false false r h hp hq = h

pub token_of : (b : ℕ) → b < 128 → may_begin_token b ≡ true → TokenOf b
token_of b low may = elim (cases_Bool (is_name_byte b)) [
  | inl name ↦ name_token b low name
  | inr (no_name) ↦ elim (cases_Bool (b == slash)) [
    | inl is ↦ subst TokenOf (sym (equal b slash is)) slash_alone
    | inr no_slash ↦
        subst TokenOf (sym (equal b backslash (either (is_name_byte b) (b == slash) (b == backslash) may no_name no_slash))) char_of
  ]
]
