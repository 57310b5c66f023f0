-- Tokens that are none of the language.
use Rattle.std.proofs.Common.{◌≡◌, ◌≢◌, ◌⊎◌, ℕ, ℤ, ◌<◌, Bool, true, false, List, [], ◌∷◌, ◌++◌, length, length-append, refl, ap, ◌∙◌, sym}
use Rattle.std.proofs.Common.{subst, arith, inl, inr, codes}
use Rattle.std.proofs.lemmas.Bool.Decides.{nat_tests}
use Rattle.std.specs.Prelude.{◌==◌, ◌||◌, IsUtf8}
use Rattle.edn_model.specs.Form as form
use Rattle.edn_model.specs.Runs.{Each}
use Rattle.edn_model.specs.Bytes.{hash, plus, minus, slash, colon, backslash, is_digit, is_letter}
use Rattle.edn_model.specs.Tokens.{IsReserved, IsKeyword, IsKeywordName, IsSymbol, Joined, begins_symbol, IsNumeral, unsigned, positive}
use Rattle.edn_model.specs.Tokens.{negative, IsAtom}
use Rattle.edn_model.specs.Faults.{What, char, float, big_int, wide, namespaced_map, tag, DigitsBefore, is_float_mark, IsUnsupported}
use Rattle.edn_model.specs.Faults.{IsNoToken}
use Rattle.edn_model.proofs.Runs.{Each-tail, heads, tails}
use Rattle.edn_model.proofs.OneForm.{no_sign}
use Rattle.edn_token.specs.Names.{IsSymbolOrWord}
use Rattle.edn_token.specs.Judged.{NoWord}
use Rattle.edn_token.proofs.Signs.{empty_no_numeral}

-- behind digits it makes a number that is not supported
abbrev pub is_mark : ℕ → Bool
is_mark b = is_float_mark b || b == 78

-- behind a hash it makes a tag, or the front of a number or a map that is not supported
abbrev pub is_tag_mark : ℕ → Bool
is_tag_mark b = (b == hash || b == colon) || is_letter b

pub record NoKind (token : List ℕ) : Type 0 where
  pub no_word : ¬ IsReserved token
  pub no_numeral : (z : ℤ) → ¬ IsNumeral z token
  pub no_symbol : ¬ IsSymbol token
  pub no_keyword : (k : List ℕ) → token ≡ colon ∷ k → ¬ IsKeyword k
  pub no_char : (more : List ℕ) → token ≢ backslash ∷ more
  pub no_mark : (mark : ℕ) → is_mark mark ≡ true → ¬ DigitsBefore mark token
  pub no_tag : (b : ℕ) (more : List ℕ) → token ≡ hash ∷ b ∷ more → is_tag_mark b ≡ false

no_form : (token : List ℕ) → NoKind token → (f : form.Form) → ¬ IsAtom f token
no_form token h form.nil k = h.no_word (inl k)
no_form token h (form.boolean true) k = h.no_word (inr (inl k))
no_form token h (form.boolean false) k = h.no_word (inr (inr k))
no_form token h (form.integer z) k = h.no_numeral z k.0
no_form token h (form.symbol s) k = h.no_symbol (subst IsSymbol (sym k.0) k.1)
no_form token h (form.keyword s) k = h.no_keyword s k.0 k.1
no_form token h _ k = k

float_mark : (b : ℕ) → is_float_mark b ≡ true → is_mark b ≡ true
float_mark b h = grind (arith, nat_tests)

letter_mark : (b : ℕ) → is_letter b ≡ true → is_tag_mark b ≡ true
letter_mark b h = grind (arith, nat_tests)

supported : (token : List ℕ) → NoKind token → (what : What) → ¬ IsUnsupported what token
supported token h char k = h.no_char k.0 k.1
supported token h float (inl k) = h.no_mark k.0 (float_mark k.0 k.1) k.2
supported token h float (inr k) = let none : is_tag_mark hash ≡ false = h.no_tag hash k.0 k.1 in cc
supported token h big_int k = h.no_mark 78 refl k
supported token h wide k = h.no_numeral k.0 k.1
supported token h namespaced_map k = let none : is_tag_mark colon ≡ false = h.no_tag colon k.0 k.1 in cc
supported token h tag k =
    let none : is_tag_mark k.0 ≡ false = h.no_tag k.0 k.1 k.2 in
    let some : is_tag_mark k.0 ≡ true = letter_mark k.0 k.3 in
    cc

pub no_token : (token : List ℕ) → NoKind token → IsNoToken token
no_token token h = record {
  no_form = no_form token h;
  supported = supported token h;
  no_tag = (
    λ e. let none : is_tag_mark 105 ≡ false = h.no_tag 105 (codes "nst") e in cc,
    λ e. let none : is_tag_mark 117 ≡ false = h.no_tag 117 (codes "uid") e in cc,
  );
}

-- ---- first bytes

pub symbol_word : (token : List ℕ) → IsSymbol token → IsSymbolOrWord token
symbol_word token h = elim h.1 [
  | inl one ↦ inl one
  | inr (long) ↦ inr (long.0, long.2)
]

numeral_begins : (z : ℤ) (b : ℕ) (token more : List ℕ) → IsNumeral z token → token ≡ b ∷ more → is_digit b ≡ false → b ≢ plus → b ≢ minus
    → ⊥
numeral_begins z b token more (unsigned {n = n} h e) is fails no_plus no_minus = no_sign n b token more h is fails
numeral_begins z b token more (positive js h e) is fails no_plus no_minus = no_plus (heads (sym is ∙ js))
numeral_begins z b token more (negative js h e) is fails no_plus no_minus = no_minus (heads (sym is ∙ js))

pub digits_begin : (digits after more : List ℕ) (b : ℕ) → 0 < length digits → Each is_digit digits → digits ++ after ≡ b ∷ more
    → is_digit b ≡ true
digits_begin [] after more b some each e = absurd (omega arith)
digits_begin (d ∷ digits) after more b some each e =
    let digit : is_digit d ≡ true = (Each-tail is_digit d digits each).0 in
    let same : is_digit d ≡ is_digit b = ap is_digit (heads e) in
    cc

mark_begins : (mark b : ℕ) (token more : List ℕ) → DigitsBefore mark token → token ≡ b ∷ more → is_digit b ≡ false → b ≢ plus → b ≢ minus
    → ⊥
mark_begins mark b token more h is fails no_plus no_minus =
    let after = h.digits ++ mark ∷ h.more in
    elim h.signs [
      | inl none ↦
          let begin : is_digit b ≡ true =
          digits_begin h.digits (mark ∷ h.more) more b h.some h.each (sym (h.is ∙ ap (λ z. z ++ after) none) ∙ is) in
          cc
      | inr (inl sign) ↦ no_plus (heads (sym is ∙ h.is ∙ ap (λ z. z ++ after) sign))
      | inr (inr sign) ↦ no_minus (heads (sym is ∙ h.is ∙ ap (λ z. z ++ after) sign))
    ]

mark_some : (mark : ℕ) (token : List ℕ) → DigitsBefore mark token → token ≡ [] → ⊥
mark_some mark token h e =
    omega (arith, ap length h.is, ap length e, length-append h.sign (h.digits ++ mark ∷ h.more), length-append h.digits (mark ∷ h.more))

reserved_begins : (b : ℕ) (token more : List ℕ) → IsReserved token → token ≡ b ∷ more → is_letter b ≡ true
reserved_begins b token more (inl e) is = ap is_letter (heads (sym is ∙ e))
reserved_begins b token more (inr (inl e)) is = ap is_letter (heads (sym is ∙ e))
reserved_begins b token more (inr (inr e)) is = ap is_letter (heads (sym is ∙ e))

no_reserved_end : (token : List ℕ) → IsReserved token → token ≡ [] → ⊥
no_reserved_end token (inl e) i = let wrong = sym i ∙ e in cc
no_reserved_end token (inr (inl e)) i = let wrong = sym i ∙ e in cc
no_reserved_end token (inr (inr e)) i = let wrong = sym i ∙ e in cc

symbol_begins : (token : List ℕ) → begins_symbol token ≡ false → token ≢ slash ∷ [] → ¬ IsSymbol token
symbol_begins token fails no_slash h = elim h.1 [
  | inl one ↦ no_slash one
  | inr (long) ↦ let passes : begins_symbol token ≡ true = long.0 in cc
]

pub symbol_no_word : (token : List ℕ) → IsSymbol token → ¬ IsReserved token
symbol_no_word token h word = elim h.1 [
  | inl one ↦ let begin : is_letter slash ≡ true = reserved_begins slash token [] word one in cc
  | inr (long) ↦ long.1 word
]

pub symbol_of : (token : List ℕ) → IsUtf8 token → ¬ IsReserved token → IsSymbolOrWord token → IsSymbol token
symbol_of token utf8 no_word (inl one) = (utf8, inl one)
symbol_of token utf8 no_word (inr (long)) = (utf8, inr (long.0, no_word, long.1))

-- ---- tokens of no kind

pub no_empty : (token : List ℕ) → token ≡ [] → IsNoToken token
no_empty token e = no_token token (record {
  no_word = λ h. no_reserved_end token h e;
  no_numeral = empty_no_numeral token e;
  no_symbol = symbol_begins token (ap begins_symbol e) (λ i. let wrong = sym e ∙ i in cc);
  no_keyword = λ k i. absurd (let wrong = sym e ∙ i in cc);
  no_char = λ more i. let wrong = sym e ∙ i in cc;
  no_mark = λ mark _ h. mark_some mark token h e;
  no_tag = λ b more i. absurd (let wrong = sym e ∙ i in cc);
})

pub no_colon : (name : List ℕ) → ¬ (IsKeywordName name ⊎ Joined IsKeywordName IsKeywordName name) → IsNoToken (colon ∷ name)
no_colon name none = no_token (colon ∷ name) (record {
  no_word = λ h. let begin : is_letter colon ≡ true = reserved_begins colon (colon ∷ name) name h refl in cc;
  no_numeral = λ z h. numeral_begins z colon (colon ∷ name) name h refl refl (λ e. omega arith) (λ e. omega arith);
  no_symbol = symbol_begins (colon ∷ name) refl (λ e. let wrong = heads e in omega arith);
  no_keyword = λ k e h. none (subst (λ z. IsKeywordName z ⊎ Joined IsKeywordName IsKeywordName z) (sym (tails e)) h.1);
  no_char = λ more e. let wrong = heads e in omega arith;
  no_mark = λ mark _ h. mark_begins mark colon (colon ∷ name) name h refl refl (λ e. omega arith) (λ e. omega arith);
  no_tag = λ b more e. absurd (let wrong = heads e in omega arith);
})

pub no_hash : (token behind : List ℕ) → token ≡ hash ∷ behind
    → ((b : ℕ) (more : List ℕ) → behind ≡ b ∷ more → is_tag_mark b ≡ false) → IsNoToken token
no_hash token behind is none = no_token token (record {
  no_word = λ h. let begin : is_letter hash ≡ true = reserved_begins hash token behind h is in cc;
  no_numeral = λ z h. numeral_begins z hash token behind h is refl (λ e. omega arith) (λ e. omega arith);
  no_symbol = symbol_begins token (ap begins_symbol is) (λ e. let wrong = heads (sym is ∙ e) in omega arith);
  no_keyword = λ k e. absurd (let wrong = heads (sym is ∙ e) in omega arith);
  no_char = λ more e. let wrong = heads (sym is ∙ e) in omega arith;
  no_mark = λ mark _ h. mark_begins mark hash token behind h is refl (λ e. omega arith) (λ e. omega arith);
  no_tag = λ b more e. none b more (tails (sym is ∙ e));
})

other_mark : (b : ℕ) → b ≢ hash → b ≢ colon → is_letter b ≡ false → is_tag_mark b ≡ false
other_mark b no_hash no_colon no_letter = grind (arith, nat_tests)

pub no_hash_but : (token behind more : List ℕ) (second : ℕ) → token ≡ hash ∷ behind → behind ≡ second ∷ more → second ≢ hash
    → second ≢ colon → is_letter second ≡ false → IsNoToken token
no_hash_but token behind more second is next unlike_hash unlike_colon no_letter =
    no_hash token behind is (λ b rest e. ap is_tag_mark (heads (sym e ∙ next)) ∙ other_mark second unlike_hash unlike_colon no_letter)

pub no_number : (token : List ℕ) → NoWord token
    → ((z : ℤ) → ¬ IsNumeral z token) → ((mark : ℕ) → is_mark mark ≡ true → ¬ DigitsBefore mark token) → IsNoToken token
no_number token word no_numeral no_mark = no_token token (record {
  no_word = word.no_word;
  no_numeral = no_numeral;
  no_symbol = λ h. word.no_symbol (symbol_word token h);
  no_keyword = λ k e. absurd (word.begins.no_keyword k e);
  no_char = word.begins.no_char;
  no_mark = no_mark;
  no_tag = λ b more e. absurd (word.begins.no_tag (b ∷ more) e);
})
