-- At one place stands one text, of one form; and a gap ends at one place.
use Rattle.std.proofs.Common.{◌≡◌, ◌≢◌, ℕ, Bool, true, false, List, [], ◌∷◌, ◌++◌, ℤ, pos, neg_ℤ, refl, ap, ◌∙◌, sym, subst, arith, inl}
use Rattle.std.proofs.Common.{inr, codes, IsTrue}
use Rattle.std.proofs.lemmas.Bool.{cases_Bool}
use Rattle.std.proofs.lemmas.Bool.Decides.{nat_tests}
use Rattle.std.specs.Prelude.{◌==◌, ◌&&◌, ◌||◌, not}
use Rattle.edn_model.specs.Form as form
use Rattle.edn_model.specs.Runs.{Each, Stops}
use Rattle.edn_model.specs.Bytes.{hash, plus, minus, point, slash, colon, is_digit, is_letter, is_name_byte, is_token_byte, ends_token}
use Rattle.edn_model.specs.Bytes.{begins, TokenEnds}
use Rattle.edn_model.specs.Tokens.{IsName, IsKeyword, IsSymbol, IsReserved, begins_symbol, number, IsDecimal, IsNumeral, unsigned, positive}
use Rattle.edn_model.specs.Tokens.{negative, IsAtom}
use Rattle.edn_model.proofs.Runs.{both, both_true, Each-append, Each-tail, Each-weaken, heads, tails}

-- ---- bytes

letter_in_token : (b : ℕ) → is_letter b ≡ true → is_token_byte b ≡ true
letter_in_token b h = grind (arith, nat_tests)

digit_in_token : (b : ℕ) → is_digit b ≡ true → is_token_byte b ≡ true
digit_in_token b h = grind (arith, nat_tests)

-- a byte that ends a token is no sign and no part of a character past ASCII
ender_no_name : (b : ℕ) → ends_token b ≡ true → is_name_byte b ≡ false
ender_no_name b h = grind (arith, nat_tests)

name_in_token : (b : ℕ) → is_name_byte b ≡ true → is_token_byte b ≡ true
name_in_token b h = elim (cases_Bool (ends_token b)) [
  | inl ends ↦ let fails = ender_no_name b ends in cc
  | inr stays ↦ ap not stays
]

pub token_stops : (rest : List ℕ) → TokenEnds rest → Stops is_token_byte rest
token_stops [] h = tt
token_stops (b ∷ rest) h = ap not h

-- ---- the bytes of a token

name_bytes : (bytes : List ℕ) → IsName bytes → Each is_token_byte bytes
name_bytes bytes h = Each-weaken is_name_byte is_token_byte name_in_token bytes h.1

joined_bytes : (a b bytes : List ℕ) → bytes ≡ a ++ slash ∷ b → Each is_token_byte a → Each is_token_byte b → Each is_token_byte bytes
joined_bytes a b bytes e h k =
    subst (Each is_token_byte) (sym e) (Each-append is_token_byte a (slash ∷ b) h (both_true (is_token_byte slash) _ refl k))

keyword_bytes : (k : List ℕ) → IsKeyword k → Each is_token_byte k
keyword_bytes k h = elim h.1 [
  | inl one ↦ name_bytes k one.0
  | inr two ↦ joined_bytes two.0 two.1 k two.2 (name_bytes two.0 two.3.0) (name_bytes two.1 two.4.0)
]

symbol_bytes : (s : List ℕ) → IsSymbol s → Each is_token_byte s
symbol_bytes s h = elim h.1 [
  | inl one ↦ subst (Each is_token_byte) (sym one) refl
  | inr (long) ↦ elim long.2 [
    | inl name ↦ name_bytes s name
    | inr two ↦ joined_bytes two.0 two.1 s two.2 (name_bytes two.0 two.3) (name_bytes two.1 two.4)
  ]
]

digits_bytes : (n : ℕ) (digits : List ℕ) → IsDecimal n digits → Each is_token_byte digits
digits_bytes n digits h = Each-weaken is_digit is_token_byte digit_in_token digits h.each

numeral_bytes : (z : ℤ) (bytes : List ℕ) → IsNumeral z bytes → Each is_token_byte bytes
numeral_bytes z bytes (unsigned {n = n} h e) = digits_bytes n bytes h
numeral_bytes z bytes (positive {n = n} {digits = digits} is h e) =
    subst (Each is_token_byte) (sym is) (both_true (is_token_byte plus) _ refl (digits_bytes n digits h))
numeral_bytes z bytes (negative {n = n} {digits = digits} is h e) =
    subst (Each is_token_byte) (sym is) (both_true (is_token_byte minus) _ refl (digits_bytes n digits h))

pub atom_bytes : (f : form.Form) (token : List ℕ) → IsAtom f token → Each is_token_byte token
atom_bytes form.nil token h = subst (Each is_token_byte) (sym h) refl
atom_bytes (form.boolean true) token h = subst (Each is_token_byte) (sym h) refl
atom_bytes (form.boolean false) token h = subst (Each is_token_byte) (sym h) refl
atom_bytes (form.integer z) token h = numeral_bytes z token h.0
atom_bytes (form.symbol s) token h = subst (Each is_token_byte) (sym h.0) (symbol_bytes s h.1)
atom_bytes (form.keyword k) token h = subst (Each is_token_byte) (sym h.0) (both_true (is_token_byte colon) _ refl (keyword_bytes k h.1))
atom_bytes _ token h = absurd h

-- ---- the first byte of a token

pub record FirstByte (test : ℕ → Bool) (bytes : List ℕ) : Type 0 where
  pub first : ℕ
  pub others : List ℕ
  pub is : bytes ≡ first ∷ others
  pub passes : test first ≡ true

-- neither a hash nor what ends a token
abbrev pub begins_atom : ℕ → Bool
begins_atom b = is_token_byte b && not (b == hash)

pub digits_first : (n : ℕ) (digits : List ℕ) → IsDecimal n digits → FirstByte is_digit digits
digits_first n [] h = absurd (let some = h.some in omega arith)
digits_first n (b ∷ digits) h = record { first = b; others = digits; is = refl; passes = (Each-tail is_digit b digits h.each).0 }

digit_begins : (b : ℕ) → is_digit b ≡ true → begins_atom b ≡ true
digit_begins b h = grind (arith, nat_tests)

numeral_first : (z : ℤ) (bytes : List ℕ) → IsNumeral z bytes → FirstByte begins_atom bytes
numeral_first z bytes (unsigned {n = n} h e) =
    let d = digits_first n bytes h in record { first = d.first; others = d.others; is = d.is; passes = digit_begins d.first d.passes }
numeral_first z bytes (positive {digits = digits} is h e) = record { first = plus; others = digits; is = is; passes = refl }
numeral_first z bytes (negative {digits = digits} is h e) = record { first = minus; others = digits; is = is; passes = refl }

pub record SymbolStart (b : ℕ) : Type 0 where
  pub no_digit : not (is_digit b) ≡ true
  pub no_hash : not (b == hash) ≡ true

-- no colon and no hash comes first
abbrev pub unmarked : ℕ → Bool
unmarked b = not (b == colon) && not (b == hash)

-- no digit stands behind a point, a plus or a minus
abbrev pub undivided : ℕ → List ℕ → Bool
undivided b s = not ((b == point || (b == plus || b == minus)) && begins is_digit s)

symbol_parts : (b : ℕ) (s : List ℕ) → IsTrue (begins_symbol (b ∷ s)) → SymbolStart b
symbol_parts b s h =
    let parts = both (not (is_digit b)) (unmarked b && undivided b s) h in
    let marks = both (unmarked b) (undivided b s) parts.1 in
    record { no_digit = parts.0; no_hash = (both (not (b == colon)) (not (b == hash)) marks.0).1 }

symbol_start : (s : List ℕ) → IsTrue (begins_symbol s) → Each is_token_byte s → FirstByte begins_atom s
symbol_start [] h each = absurd (let fails : false ≡ true = h in cc)
symbol_start (b ∷ s) h each =
    record {
      first = b;
      others = s;
      is = refl;
      passes = both_true (is_token_byte b) (not (b == hash)) (Each-tail is_token_byte b s each).0 (symbol_parts b s h).no_hash;
    }

symbol_first : (s : List ℕ) → IsSymbol s → FirstByte begins_atom s
symbol_first s h = elim h.1 [
  | inl one ↦ record { first = slash; others = []; is = one; passes = refl }
  | inr (long) ↦ symbol_start s long.0 (symbol_bytes s h)
]

pub atom_first : (f : form.Form) (token : List ℕ) → IsAtom f token → FirstByte begins_atom token
atom_first form.nil token h = record { first = 110; others = codes "il"; is = h; passes = refl }
atom_first (form.boolean true) token h = record { first = 116; others = codes "rue"; is = h; passes = refl }
atom_first (form.boolean false) token h = record { first = 102; others = codes "alse"; is = h; passes = refl }
atom_first (form.integer z) token h = numeral_first z token h.0
atom_first (form.symbol s) token h = subst (FirstByte begins_atom) (sym h.0) (symbol_first s h.1)
atom_first (form.keyword k) token h = record { first = colon; others = k; is = h.0; passes = refl }
atom_first _ token h = absurd h

-- ---- one form a token

-- the first bytes of one text are one byte
pub apart : (b c : ℕ) (x y bytes : List ℕ) → bytes ≡ b ∷ x → bytes ≡ c ∷ y → b ≡ c
apart b c x y bytes e i = heads (sym e ∙ i)

pub no_sign : (n b : ℕ) (bytes digits : List ℕ) → IsDecimal n bytes → bytes ≡ b ∷ digits → is_digit b ≡ false → ⊥
no_sign n b bytes digits h is fails =
    let d = digits_first n bytes h in
    let same : d.first ≡ b = heads (sym d.is ∙ is) in
    let passes : is_digit d.first ≡ true = d.passes in
    let digit : is_digit d.first ≡ is_digit b = ap is_digit same in
    cc

pub number_same : (m n : ℕ) (a b : List ℕ) → IsDecimal m a → IsDecimal n b → a ≡ b → m ≡ n
number_same m n a b h k e = h.is ∙ ap number e ∙ sym k.is

pub same_numeral : (z w : ℤ) (bytes : List ℕ) → IsNumeral z bytes → IsNumeral w bytes → z ≡ w
same_numeral z w bytes (unsigned {n = m} h e) (unsigned {n = n} k i) = e ∙ ap pos (number_same m n bytes bytes h k refl) ∙ sym i
same_numeral z w bytes (unsigned {n = m} h e) (positive {digits = b} js k i) = absurd (no_sign m plus bytes b h js refl)
same_numeral z w bytes (unsigned {n = m} h e) (negative {digits = b} js k i) = absurd (no_sign m minus bytes b h js refl)
same_numeral z w bytes (positive {digits = a} is h e) (unsigned {n = n} k i) = absurd (no_sign n plus bytes a k is refl)
same_numeral z w bytes (positive {n = m} {digits = a} is h e) (positive {n = n} {digits = b} js k i) =
    e ∙ ap pos (number_same m n a b h k (tails (sym is ∙ js))) ∙ sym i
same_numeral z w bytes (positive {digits = a} is h e) (negative {digits = b} js k i) =
    absurd (let wrong = apart plus minus a b bytes is js in omega arith)
same_numeral z w bytes (negative {digits = a} is h e) (unsigned {n = n} k i) = absurd (no_sign n minus bytes a k is refl)
same_numeral z w bytes (negative {digits = a} is h e) (positive {digits = b} js k i) =
    absurd (let wrong = apart minus plus a b bytes is js in omega arith)
same_numeral z w bytes (negative {n = m} {digits = a} is h e) (negative {n = n} {digits = b} js k i) =
    e ∙ ap (λ d. neg_ℤ (pos d)) (number_same m n a b h k (tails (sym is ∙ js))) ∙ sym i

-- what begins otherwise is no numeral
no_numeral : (z : ℤ) (b : ℕ) (bytes others : List ℕ) → IsNumeral z bytes → bytes ≡ b ∷ others → is_digit b ≡ false → b ≢ plus → b ≢ minus
    → ⊥
no_numeral z b bytes others (unsigned {n = n} h e) is fails no_plus no_minus = no_sign n b bytes others h is fails
no_numeral z b bytes others (positive js h e) is fails no_plus no_minus = no_plus (heads (sym is ∙ js))
no_numeral z b bytes others (negative js h e) is fails no_plus no_minus = no_minus (heads (sym is ∙ js))

pub reserved_no_numeral : (z : ℤ) (bytes : List ℕ) → IsReserved bytes → IsNumeral z bytes → ⊥
reserved_no_numeral z bytes (inl e) h = no_numeral z 110 bytes (codes "il") h e refl (λ i. omega arith) (λ i. omega arith)
reserved_no_numeral z bytes (inr (inl e)) h = no_numeral z 116 bytes (codes "rue") h e refl (λ i. omega arith) (λ i. omega arith)
reserved_no_numeral z bytes (inr (inr e)) h = no_numeral z 102 bytes (codes "alse") h e refl (λ i. omega arith) (λ i. omega arith)

reserved_no_slash : (bytes : List ℕ) → IsReserved bytes → bytes ≡ slash ∷ [] → ⊥
reserved_no_slash bytes (inl e) h = let wrong = apart 110 slash (codes "il") [] bytes e h in omega arith
reserved_no_slash bytes (inr (inl e)) h = let wrong = apart 116 slash (codes "rue") [] bytes e h in omega arith
reserved_no_slash bytes (inr (inr e)) h = let wrong = apart 102 slash (codes "alse") [] bytes e h in omega arith

reserved_no_symbol : (bytes : List ℕ) → IsReserved bytes → IsSymbol bytes → ⊥
reserved_no_symbol bytes r h = elim h.1 [
  | inl one ↦ reserved_no_slash bytes r one
  | inr (long) ↦ long.1 r
]

reserved_no_keyword : (bytes k : List ℕ) → IsReserved bytes → bytes ≡ colon ∷ k → ⊥
reserved_no_keyword bytes k (inl e) h = let wrong = apart 110 colon (codes "il") k bytes e h in omega arith
reserved_no_keyword bytes k (inr (inl e)) h = let wrong = apart 116 colon (codes "rue") k bytes e h in omega arith
reserved_no_keyword bytes k (inr (inr e)) h = let wrong = apart 102 colon (codes "alse") k bytes e h in omega arith

pub boolean_reserved : (b : Bool) (bytes : List ℕ) → IsAtom (form.boolean b) bytes → IsReserved bytes
boolean_reserved true bytes h = inr (inl h)
boolean_reserved false bytes h = inr (inr h)

pub not_true : (b : Bool) → not b ≡ true → b ≡ false
not_true true h = cc
not_true false h = refl

signed_no_symbol : (n b : ℕ) (bytes digits : List ℕ) → bytes ≡ b ∷ digits → IsDecimal n digits
    → (begins_symbol (b ∷ digits) ≡ true → begins is_digit digits ≡ false) → IsTrue (begins_symbol bytes) → ⊥
signed_no_symbol n b bytes digits is h fails start =
    let d = digits_first n digits h in
    let begin : begins is_digit digits ≡ is_digit d.first = ap (begins is_digit) d.is in
    let passes : is_digit d.first ≡ true = d.passes in
    let refused : begins is_digit digits ≡ false = fails (sym (ap begins_symbol is) ∙ start) in
    cc

numeral_no_long : (z : ℤ) (bytes : List ℕ) → IsNumeral z bytes → IsTrue (begins_symbol bytes) → ⊥
numeral_no_long z [] h start = let fails : false ≡ true = start in cc
numeral_no_long z (b ∷ bytes) (unsigned {n = n} h e) start =
    let digit : is_digit b ≡ true = (Each-tail is_digit b bytes h.each).0 in
    let fails : not (is_digit b) ≡ true = (symbol_parts b bytes start).no_digit in
    let turned : not (is_digit b) ≡ false = ap not digit in
    cc
numeral_no_long z (b ∷ bytes) (positive {n = n} {digits = digits} is h e) start =
    signed_no_symbol n plus (b ∷ bytes) digits is h (λ begin. not_true (begins is_digit digits) begin) start
numeral_no_long z (b ∷ bytes) (negative {n = n} {digits = digits} is h e) start =
    signed_no_symbol n minus (b ∷ bytes) digits is h (λ begin. not_true (begins is_digit digits) begin) start

pub numeral_no_symbol : (z : ℤ) (bytes : List ℕ) → IsNumeral z bytes → IsSymbol bytes → ⊥
numeral_no_symbol z bytes h k = elim k.1 [
  | inl one ↦ no_numeral z slash bytes [] h one refl (λ i. omega arith) (λ i. omega arith)
  | inr (long) ↦ numeral_no_long z bytes h long.0
]

pub numeral_no_keyword : (z : ℤ) (bytes k : List ℕ) → IsNumeral z bytes → bytes ≡ colon ∷ k → ⊥
numeral_no_keyword z bytes k h is = no_numeral z colon bytes k h is refl (λ i. omega arith) (λ i. omega arith)

pub symbol_no_keyword : (s k : List ℕ) → IsSymbol s → s ≡ colon ∷ k → ⊥
symbol_no_keyword s k h is = elim h.1 [
  | inl one ↦ let wrong = apart slash colon [] k s one is in omega arith
  | inr (long) ↦ let start : begins_symbol s ≡ true = long.0 in let fails : begins_symbol s ≡ false = ap begins_symbol is in cc
]

same_boolean : (a b : Bool) (token : List ℕ) → IsAtom (form.boolean a) token → IsAtom (form.boolean b) token
    → form.boolean a ≡ form.boolean b
same_boolean true true token h k = refl
same_boolean false false token h k = refl
same_boolean true false token h k = absurd (let wrong = apart 116 102 (codes "rue") (codes "alse") token h k in omega arith)
same_boolean false true token h k = absurd (let wrong = apart 102 116 (codes "alse") (codes "rue") token h k in omega arith)

nil_no_boolean : (b : Bool) (token : List ℕ) → token ≡ codes "nil" → IsAtom (form.boolean b) token → ⊥
nil_no_boolean true token h k = let wrong = apart 110 116 (codes "il") (codes "rue") token h k in omega arith
nil_no_boolean false token h k = let wrong = apart 110 102 (codes "il") (codes "alse") token h k in omega arith

pub same_atom : (f g : form.Form) (token : List ℕ) → IsAtom f token → IsAtom g token → f ≡ g
same_atom form.nil form.nil token h k = refl
same_atom form.nil (form.boolean b) token h k = absurd (nil_no_boolean b token h k)
same_atom form.nil (form.integer w) token h k = absurd (reserved_no_numeral w token (inl h) k.0)
same_atom form.nil (form.symbol t) token h k = absurd (reserved_no_symbol token (inl h) (subst IsSymbol (sym k.0) k.1))
same_atom form.nil (form.keyword t) token h k = absurd (reserved_no_keyword token t (inl h) k.0)
same_atom form.nil _ token h k = absurd k
same_atom (form.boolean a) form.nil token h k = absurd (nil_no_boolean a token k h)
same_atom (form.boolean a) (form.boolean b) token h k = same_boolean a b token h k
same_atom (form.boolean a) (form.integer w) token h k = absurd (reserved_no_numeral w token (boolean_reserved a token h) k.0)
same_atom (form.boolean a) (form.symbol t) token h k =
    absurd (reserved_no_symbol token (boolean_reserved a token h) (subst IsSymbol (sym k.0) k.1))
same_atom (form.boolean a) (form.keyword t) token h k = absurd (reserved_no_keyword token t (boolean_reserved a token h) k.0)
same_atom (form.boolean a) _ token h k = absurd k
same_atom (form.integer z) form.nil token h k = absurd (reserved_no_numeral z token (inl k) h.0)
same_atom (form.integer z) (form.boolean b) token h k = absurd (reserved_no_numeral z token (boolean_reserved b token k) h.0)
same_atom (form.integer z) (form.integer w) token h k = ap form.integer (same_numeral z w token h.0 k.0)
same_atom (form.integer z) (form.symbol t) token h k = absurd (numeral_no_symbol z token h.0 (subst IsSymbol (sym k.0) k.1))
same_atom (form.integer z) (form.keyword t) token h k = absurd (numeral_no_keyword z token t h.0 k.0)
same_atom (form.integer z) _ token h k = absurd k
same_atom (form.symbol s) form.nil token h k = absurd (reserved_no_symbol token (inl k) (subst IsSymbol (sym h.0) h.1))
same_atom (form.symbol s) (form.boolean b) token h k =
    absurd (reserved_no_symbol token (boolean_reserved b token k) (subst IsSymbol (sym h.0) h.1))
same_atom (form.symbol s) (form.integer w) token h k = absurd (numeral_no_symbol w token k.0 (subst IsSymbol (sym h.0) h.1))
same_atom (form.symbol s) (form.symbol t) token h k = ap form.symbol (sym h.0 ∙ k.0)
same_atom (form.symbol s) (form.keyword t) token h k = absurd (symbol_no_keyword s t h.1 (sym h.0 ∙ k.0))
same_atom (form.symbol s) _ token h k = absurd k
same_atom (form.keyword s) form.nil token h k = absurd (reserved_no_keyword token s (inl k) h.0)
same_atom (form.keyword s) (form.boolean b) token h k = absurd (reserved_no_keyword token s (boolean_reserved b token k) h.0)
same_atom (form.keyword s) (form.integer w) token h k = absurd (numeral_no_keyword w token s k.0 h.0)
same_atom (form.keyword s) (form.symbol t) token h k = absurd (symbol_no_keyword t s k.1 (sym k.0 ∙ h.0))
same_atom (form.keyword s) (form.keyword t) token h k = ap form.keyword (tails (sym h.0 ∙ k.0))
same_atom (form.keyword s) _ token h k = absurd k
same_atom _ g token h k = absurd h
