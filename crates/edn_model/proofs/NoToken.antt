-- A token that is unsupported is none of a form, and is unsupported in one way.
use Rattle.std.proofs.Common.{◌≡◌, ◌≢◌, ◌⊎◌, ℕ, ℤ, ◌<◌, Bool, true, false, List, [], ◌∷◌, ◌++◌, length, refl, ap, ◌∙◌, sym, subst, arith}
use Rattle.std.proofs.Common.{inl, inr, codes}
use Rattle.std.proofs.lemmas.List.{append-nil}
use Rattle.std.proofs.lemmas.Bool.Decides.{nat_tests}
use Rattle.std.specs.Prelude.{◌==◌, ◌&&◌, not, if◌then◌else◌}
use Rattle.edn_model.specs.Form as form
use Rattle.edn_model.specs.Bytes.{hash, plus, minus, slash, colon, backslash, is_digit, is_letter, is_name_byte, begins, Each}
use Rattle.edn_model.specs.Tokens.{IsName, IsSymbol, IsReserved, begins_symbol, IsNumeral, unsigned, positive, negative, IsLong, IsAtom}
use Rattle.edn_model.specs.Faults.{What, char, float, big_int, wide, namespaced_map, tag, DigitsBefore, is_float_mark, IsUnsupported}
use Rattle.edn_model.specs.Runs.{Stops}
use Rattle.edn_model.proofs.Runs.{heads, tails, both, Each-tail, one_run}
use Rattle.edn_model.proofs.OneForm.{begins_atom, atom_first, numeral_no_symbol, numeral_no_keyword, reserved_no_numeral, same_numeral}
use Rattle.edn_model.proofs.OneForm.{boolean_reserved, apart}

-- ---- a sign and digits in front

data IsSign : List ℕ → Type 0 where
  no_sign : IsSign []
  plus_sign : IsSign (plus ∷ [])
  minus_sign : IsSign (minus ∷ [])

record SignedDigits (token rest : List ℕ) : Type 0 where
  sign : List ℕ
  digits : List ℕ
  is : token ≡ sign ++ (digits ++ rest)
  signs : IsSign sign
  some : 0 < length digits
  each : Each is_digit digits

sign_of : (sign : List ℕ) → (sign ≡ []) ⊎ ((sign ≡ plus ∷ []) ⊎ (sign ≡ minus ∷ [])) → IsSign sign
sign_of sign (inl e) = subst IsSign (sym e) no_sign
sign_of sign (inr (inl e)) = subst IsSign (sym e) plus_sign
sign_of sign (inr (inr e)) = subst IsSign (sym e) minus_sign

before_mark : (mark : ℕ) (token : List ℕ) (h : DigitsBefore mark token) → SignedDigits token (mark ∷ h.more)
before_mark mark token h =
    record { sign = h.sign; digits = h.digits; is = h.is; signs = sign_of h.sign h.signs; some = h.some; each = h.each }

numeral_digits : (z : ℤ) (token : List ℕ) → IsNumeral z token → SignedDigits token []
numeral_digits z token (unsigned h e) =
    record { sign = []; digits = token; is = sym (append-nil token); signs = no_sign; some = h.some; each = h.each }
numeral_digits z token (positive {digits = digits} is h e) =
    record {
      sign = plus ∷ [];
      digits = digits;
      is = is ∙ ap (λ x. plus ∷ x) (sym (append-nil digits));
      signs = plus_sign;
      some = h.some;
      each = h.each;
    }
numeral_digits z token (negative {digits = digits} is h e) =
    record {
      sign = minus ∷ [];
      digits = digits;
      is = is ∙ ap (λ x. minus ∷ x) (sym (append-nil digits));
      signs = minus_sign;
      some = h.some;
      each = h.each;
    }

digit_differs : (digits more other : List ℕ) (b : ℕ) → 0 < length digits → Each is_digit digits → is_digit b ≡ false
    → digits ++ more ≡ b ∷ other → ⊥
digit_differs [] more other b some each fails e = omega arith
digit_differs (d ∷ digits) more other b some each fails e =
    let same : is_digit d ≡ is_digit b = ap is_digit (heads e) in
    let passes = (Each-tail is_digit d digits each).0 in cc

strip : {s t : List ℕ} → IsSign s → IsSign t → (a x b y : List ℕ) → 0 < length a → 0 < length b → Each is_digit a → Each is_digit b
    → s ++ (a ++ x) ≡ t ++ (b ++ y) → a ++ x ≡ b ++ y
strip no_sign no_sign a x b y sa sb ha hb e = e
strip no_sign plus_sign a x b y sa sb ha hb e = absurd (digit_differs a x (b ++ y) plus sa ha refl e)
strip no_sign minus_sign a x b y sa sb ha hb e = absurd (digit_differs a x (b ++ y) minus sa ha refl e)
strip plus_sign no_sign a x b y sa sb ha hb e = absurd (digit_differs b y (a ++ x) plus sb hb refl (sym e))
strip plus_sign plus_sign a x b y sa sb ha hb e = tails e
strip plus_sign minus_sign a x b y sa sb ha hb e = absurd (let wrong = heads e in omega arith)
strip minus_sign no_sign a x b y sa sb ha hb e = absurd (digit_differs b y (a ++ x) minus sb hb refl (sym e))
strip minus_sign plus_sign a x b y sa sb ha hb e = absurd (let wrong = heads e in omega arith)
strip minus_sign minus_sign a x b y sa sb ha hb e = tails e

-- no digit comes next
abbrev NoDigit : List ℕ → Type 0
NoDigit bytes = begins is_digit bytes ≡ false

stops_digits : (rest : List ℕ) → NoDigit rest → Stops is_digit rest
stops_digits [] h = tt
stops_digits (b ∷ rest) h = h

same_behind : (token rest more : List ℕ) → SignedDigits token rest → SignedDigits token more → NoDigit rest → NoDigit more → rest ≡ more
same_behind token rest more h k stops ends =
    (one_run is_digit h.digits k.digits rest more h.each k.each (stops_digits rest stops) (stops_digits more ends)
    (strip h.signs k.signs h.digits rest k.digits more h.some k.some h.each k.each (sym h.is ∙ k.is))).1

pub float_no_digit : (b : ℕ) → is_float_mark b ≡ true → is_digit b ≡ false
float_no_digit b h = grind (arith, nat_tests)

pub mark_no_numeral : (mark : ℕ) (z : ℤ) (token : List ℕ) → is_digit mark ≡ false → DigitsBefore mark token → IsNumeral z token → ⊥
mark_no_numeral mark z token fails h k =
    let gone : mark ∷ h.more ≡ [] = same_behind token (mark ∷ h.more) [] (before_mark mark token h) (numeral_digits z token k) fails refl in
    cc

pub one_mark : (m n : ℕ) (token : List ℕ) → is_digit m ≡ false → is_digit n ≡ false → DigitsBefore m token → DigitsBefore n token → m ≡ n
one_mark m n token fails none h k =
    heads (same_behind token (m ∷ h.more) (n ∷ k.more) (before_mark m token h) (before_mark n token k) fails none)

-- how such a token begins
pub data NumberFront : List ℕ → Type 0 where
  bare : (d : ℕ) (others : List ℕ) → is_digit d ≡ true → NumberFront (d ∷ others)
  signed : (b d : ℕ) (others : List ℕ) → (b ≡ plus) ⊎ (b ≡ minus) → is_digit d ≡ true → NumberFront (b ∷ d ∷ others)

front_of : {sign : List ℕ} → IsSign sign → (digits rest : List ℕ) → 0 < length digits → Each is_digit digits
    → NumberFront (sign ++ (digits ++ rest))
front_of s [] rest some each = absurd (omega arith)
front_of no_sign (d ∷ digits) rest some each = bare d (digits ++ rest) (Each-tail is_digit d digits each).0
front_of plus_sign (d ∷ digits) rest some each = signed plus d (digits ++ rest) (inl refl) (Each-tail is_digit d digits each).0
front_of minus_sign (d ∷ digits) rest some each = signed minus d (digits ++ rest) (inr refl) (Each-tail is_digit d digits each).0

number_front : (token rest : List ℕ) → SignedDigits token rest → NumberFront token
number_front token rest h = subst NumberFront (sym h.is) (front_of h.signs h.digits rest h.some h.each)

digit_no_sign : (d b : ℕ) → is_digit d ≡ true → is_digit b ≡ false → d ≡ b → ⊥
digit_no_sign d b passes fails e = let same : is_digit d ≡ is_digit b = ap is_digit e in cc

-- neither a digit nor a sign
abbrev pub begins_no_number : ℕ → Bool
begins_no_number b = not (is_digit b) && (not (b == plus) && not (b == minus))

digit_begins_number : (d : ℕ) → is_digit d ≡ true → begins_no_number d ≡ false
digit_begins_number d h = grind (arith, nat_tests)

pub number_first : {token : List ℕ} → NumberFront token → (b : ℕ) (others : List ℕ) → token ≡ b ∷ others → begins_no_number b ≡ true → ⊥
number_first (bare d more h) b others e fails =
    let same : begins_no_number d ≡ begins_no_number b = ap begins_no_number (heads e) in
    let digit = digit_begins_number d h in cc
number_first (signed s d more (inl is) h) b others e fails =
    let same : begins_no_number plus ≡ begins_no_number b = ap begins_no_number (sym is ∙ heads e) in cc
number_first (signed s d more (inr is) h) b others e fails =
    let same : begins_no_number minus ≡ begins_no_number b = ap begins_no_number (sym is ∙ heads e) in cc

number_no_long : {token : List ℕ} → NumberFront token → begins_symbol token ≡ true → ⊥
number_no_long (bare d more h) start =
    let fails = (both (not (is_digit d)) _ start).0 in
    let turned : not (is_digit d) ≡ false = ap not h in cc
number_no_long (signed s d more (inl is) h) start =
    let fails : not (is_digit d) ≡ true = subst (λ z. begins_symbol (z ∷ d ∷ more) ≡ true) is start in
    let turned : not (is_digit d) ≡ false = ap not h in cc
number_no_long (signed s d more (inr is) h) start =
    let fails : not (is_digit d) ≡ true = subst (λ z. begins_symbol (z ∷ d ∷ more) ≡ true) is start in
    let turned : not (is_digit d) ≡ false = ap not h in cc

pub number_no_symbol : {token : List ℕ} → NumberFront token → IsSymbol token → ⊥
number_no_symbol n h = elim h.1 [
  | inl one ↦ number_first n slash [] one refl
  | inr (long) ↦ number_no_long n long.0
]

pub number_no_reserved : {token : List ℕ} → NumberFront token → IsReserved token → ⊥
number_no_reserved n (inl e) = number_first n 110 (codes "il") e refl
number_no_reserved n (inr (inl e)) = number_first n 116 (codes "rue") e refl
number_no_reserved n (inr (inr e)) = number_first n 102 (codes "alse") e refl

-- ---- no form

-- digits before a mark, or an integer that has no 64 bits
marked_no_atom : (mark : ℕ) (f : form.Form) (token : List ℕ) → is_digit mark ≡ false → DigitsBefore mark token → IsAtom f token → ⊥
marked_no_atom mark form.nil token fails h k = number_no_reserved (number_front token _ (before_mark mark token h)) (inl k)
marked_no_atom mark (form.boolean b) token fails h k =
    number_no_reserved (number_front token _ (before_mark mark token h)) (boolean_reserved b token k)
marked_no_atom mark (form.integer z) token fails h k = mark_no_numeral mark z token fails h k.0
marked_no_atom mark (form.symbol s) token fails h k =
    number_no_symbol (number_front token _ (before_mark mark token h)) (subst IsSymbol (sym k.0) k.1)
marked_no_atom mark (form.keyword s) token fails h k = number_first (number_front token _ (before_mark mark token h)) colon s k.0 refl
marked_no_atom mark _ token fails h k = absurd k

wide_no_atom : (z : ℤ) (f : form.Form) (token : List ℕ) → IsNumeral z token → ¬ IsLong z → IsAtom f token → ⊥
wide_no_atom z form.nil token h long k = reserved_no_numeral z token (inl k) h
wide_no_atom z (form.boolean b) token h long k = reserved_no_numeral z token (boolean_reserved b token k) h
wide_no_atom z (form.integer w) token h long k = long (subst IsLong (same_numeral w z token k.0 h) k.1)
wide_no_atom z (form.symbol s) token h long k = numeral_no_symbol z token h (subst IsSymbol (sym k.0) k.1)
wide_no_atom z (form.keyword s) token h long k = numeral_no_keyword z token s h k.0
wide_no_atom z _ token h long k = absurd k

pub hash_no_atom : (f : form.Form) (token others : List ℕ) → IsAtom f token → token ≡ hash ∷ others → ⊥
hash_no_atom f token others h e =
    let a = atom_first f token h in
    let same : begins_atom a.first ≡ begins_atom hash = ap begins_atom (heads (sym a.is ∙ e)) in
    let passes = a.passes in cc

name_first : (name rest others : List ℕ) (b : ℕ) → IsName name → is_name_byte b ≡ false → name ++ rest ≡ b ∷ others → ⊥
name_first [] rest others b h fails e = let some = h.0 in omega arith
name_first (c ∷ name) rest others b h fails e =
    let same : is_name_byte c ≡ is_name_byte b = ap is_name_byte (heads e) in
    let passes = (Each-tail is_name_byte c name h.1).0 in cc

backslash_no_symbol : (s others : List ℕ) → IsSymbol s → s ≡ backslash ∷ others → ⊥
backslash_no_symbol s others h e = elim h.1 [
  | inl one ↦ let wrong = apart slash backslash [] others s one e in omega arith
  | inr (long) ↦ elim long.2 [
    | inl name ↦ name_first s [] others backslash name refl (append-nil s ∙ e)
    | inr two ↦ name_first two.0 (slash ∷ two.1) others backslash two.3 refl (sym two.2 ∙ e)
  ]
]

char_no_atom : (f : form.Form) (token others : List ℕ) → IsAtom f token → token ≡ backslash ∷ others → ⊥
char_no_atom form.nil token others h e = let wrong = apart 110 backslash (codes "il") others token h e in omega arith
char_no_atom (form.boolean true) token others h e = let wrong = apart 116 backslash (codes "rue") others token h e in omega arith
char_no_atom (form.boolean false) token others h e = let wrong = apart 102 backslash (codes "alse") others token h e in omega arith
char_no_atom (form.integer z) token others h e = number_first (number_front token [] (numeral_digits z token h.0)) backslash others e refl
char_no_atom (form.symbol s) token others h e = backslash_no_symbol s others h.1 (sym h.0 ∙ e)
char_no_atom (form.keyword k) token others h e = let wrong = apart colon backslash k others token h.0 e in omega arith
char_no_atom _ token others h e = absurd h

pub unsupported_no_atom : (what : What) (f : form.Form) (token : List ℕ) → IsUnsupported what token → IsAtom f token → ⊥
unsupported_no_atom char f token h k = char_no_atom f token h.0 k h.1
unsupported_no_atom float f token (inl (h)) k = marked_no_atom h.0 f token (float_no_digit h.0 h.1) h.2 k
unsupported_no_atom float f token (inr (h)) k = hash_no_atom f token (hash ∷ h.0) k h.1
unsupported_no_atom big_int f token h k = marked_no_atom 78 f token refl h k
unsupported_no_atom wide f token h k = wide_no_atom h.0 f token h.1 h.2 k
unsupported_no_atom namespaced_map f token h k = hash_no_atom f token (colon ∷ h.0) k h.1
unsupported_no_atom tag f token h k = hash_no_atom f token (h.0 ∷ h.1) k h.2

-- ---- unsupported in one way

abbrev pub hash_class : List ℕ → ℕ
hash_class [] = 0
hash_class (b ∷ bytes) = if b == hash then 2 else (if b == colon then 3 else (if is_letter b then 4 else 0))

abbrev pub token_class : List ℕ → ℕ
token_class [] = 0
token_class (b ∷ bytes) = if b == backslash then 1 else (if b == hash then hash_class bytes else 0)

data Class (token : List ℕ) : What → Type 0 where
  is_char : (more : List ℕ) → token ≡ backslash ∷ more → Class token char
  is_hashes : (more : List ℕ) → token ≡ hash ∷ hash ∷ more → Class token float
  is_namespaced : (more : List ℕ) → token ≡ hash ∷ colon ∷ more → Class token namespaced_map
  is_tag : (b : ℕ) (more : List ℕ) → token ≡ hash ∷ b ∷ more → is_letter b ≡ true → token ≢ codes "#inst" → token ≢ codes "#uuid"
      → Class token tag
  is_float : (mark : ℕ) → is_float_mark mark ≡ true → DigitsBefore mark token → Class token float
  is_big : DigitsBefore 78 token → Class token big_int
  is_wide : (z : ℤ) → IsNumeral z token → Class token wide

class_of : (what : What) (token : List ℕ) → IsUnsupported what token → Class token what
class_of char token h = is_char h.0 h.1
class_of float token (inl (h)) = is_float h.0 h.1 h.2
class_of float token (inr (h)) = is_hashes h.0 h.1
class_of big_int token h = is_big h
class_of wide token h = is_wide h.0 h.1
class_of namespaced_map token h = is_namespaced h.0 h.1
class_of tag token h = is_tag h.0 h.1 h.2 h.3 h.4 h.5

abbrev class_number : {token : List ℕ} {what : What} → Class token what → ℕ
class_number (is_char more e) = 1
class_number (is_hashes more e) = 2
class_number (is_namespaced more e) = 3
class_number (is_tag b more e h n m) = 4
class_number (is_float mark f h) = 0
class_number (is_big h) = 0
class_number (is_wide z h) = 0

abbrev class_by : Bool → Bool → Bool → ℕ
class_by p q r = if p then 2 else (if q then 3 else (if r then 4 else 0))

letter_class : (p q r : Bool) → p ≡ false → q ≡ false → r ≡ true → class_by p q r ≡ 4
letter_class true q r hp hq hr = cc
letter_class false true r hp hq hr = cc
letter_class false false true hp hq hr = refl
letter_class false false false hp hq hr = cc

letter_no_hash : (b : ℕ) → is_letter b ≡ true → (b == hash) ≡ false
letter_no_hash b h = grind (arith, nat_tests)

letter_no_colon : (b : ℕ) → is_letter b ≡ true → (b == colon) ≡ false
letter_no_colon b h = grind (arith, nat_tests)

tag_class : (b : ℕ) (more : List ℕ) → is_letter b ≡ true → token_class (hash ∷ b ∷ more) ≡ 4
tag_class b more h = letter_class (b == hash) (b == colon) (is_letter b) (letter_no_hash b h) (letter_no_colon b h) h

abbrev by_two : Bool → Bool → ℕ → ℕ
by_two p q n = if p then 1 else (if q then n else 0)

two_tests : (p q : Bool) (n : ℕ) → p ≡ false → q ≡ false → by_two p q n ≡ 0
two_tests true q n hp hq = cc
two_tests false true n hp hq = cc
two_tests false false n hp hq = refl

digit_no_backslash : (d : ℕ) → is_digit d ≡ true → (d == backslash) ≡ false
digit_no_backslash d h = grind (arith, nat_tests)

digit_no_hash : (d : ℕ) → is_digit d ≡ true → (d == hash) ≡ false
digit_no_hash d h = grind (arith, nat_tests)

pub number_class : {token : List ℕ} → NumberFront token → token_class token ≡ 0
number_class (bare d more h) = two_tests (d == backslash) (d == hash) (hash_class more) (digit_no_backslash d h) (digit_no_hash d h)
number_class (signed b d more (inl is) h) = ap (λ z. token_class (z ∷ d ∷ more)) is
number_class (signed b d more (inr is) h) = ap (λ z. token_class (z ∷ d ∷ more)) is

class_is : {token : List ℕ} {what : What} (c : Class token what) → token_class token ≡ class_number c
class_is (is_char more e) = ap token_class e
class_is (is_hashes more e) = ap token_class e
class_is (is_namespaced more e) = ap token_class e
class_is (is_tag b more e h n m) = ap token_class e ∙ tag_class b more h
class_is {token = token} (is_float mark f h) = number_class (number_front token _ (before_mark mark token h))
class_is {token = token} (is_big h) = number_class (number_front token _ (before_mark 78 token h))
class_is {token = token} (is_wide z h) = number_class (number_front token [] (numeral_digits z token h))

same_class : {token : List ℕ} {a b : What} (c : Class token a) (d : Class token b) → class_number c ≡ class_number d
same_class c d = sym (class_is c) ∙ class_is d

same_what : {token : List ℕ} {a b : What} → Class token a → Class token b → a ≡ b
same_what (is_char more e) (is_char rest i) = refl
same_what (is_char more e) d = absurd (let same = same_class (is_char more e) d in omega arith)
same_what (is_hashes more e) (is_hashes rest i) = refl
same_what (is_hashes more e) d = absurd (let same = same_class (is_hashes more e) d in omega arith)
same_what (is_namespaced more e) (is_namespaced rest i) = refl
same_what (is_namespaced more e) d = absurd (let same = same_class (is_namespaced more e) d in omega arith)
same_what (is_tag b more e h n m) (is_tag c rest i k o p) = refl
same_what (is_tag b more e h n m) d = absurd (let same = same_class (is_tag b more e h n m) d in omega arith)
same_what (is_float mark f h) (is_float other g k) = refl
same_what {token = token} (is_float mark f h) (is_big k) =
    absurd
    (let same : is_float_mark mark ≡ is_float_mark 78 = ap is_float_mark (one_mark mark 78 token (float_no_digit mark f) refl h k) in cc)
same_what {token = token} (is_float mark f h) (is_wide z k) = absurd (mark_no_numeral mark z token (float_no_digit mark f) h k)
same_what (is_float mark f h) d = absurd (let same = same_class (is_float mark f h) d in omega arith)
same_what {token = token} (is_big h) (is_float mark f k) =
    absurd
    (let same : is_float_mark mark ≡ is_float_mark 78 = ap is_float_mark (one_mark mark 78 token (float_no_digit mark f) refl k h) in cc)
same_what (is_big h) (is_big k) = refl
same_what {token = token} (is_big h) (is_wide z k) = absurd (mark_no_numeral 78 z token refl h k)
same_what (is_big h) d = absurd (let same = same_class (is_big h) d in omega arith)
same_what {token = token} (is_wide z h) (is_float mark f k) = absurd (mark_no_numeral mark z token (float_no_digit mark f) k h)
same_what {token = token} (is_wide z h) (is_big k) = absurd (mark_no_numeral 78 z token refl k h)
same_what (is_wide z h) (is_wide w k) = refl
same_what (is_wide z h) d = absurd (let same = same_class (is_wide z h) d in omega arith)

pub one_what : (a b : What) (token : List ℕ) → IsUnsupported a token → IsUnsupported b token → a ≡ b
one_what a b token h k = same_what (class_of a token h) (class_of b token k)

-- the two tags that are read are supported
tag_supported : {token : List ℕ} {what : What} → Class token what → (name : List ℕ) → token_class name ≡ 4
    → (name ≡ codes "#inst") ⊎ (name ≡ codes "#uuid") → token ≡ name → ⊥
tag_supported (is_tag b more e h n m) name four (inl is) i = n (i ∙ is)
tag_supported (is_tag b more e h n m) name four (inr is) i = m (i ∙ is)
tag_supported c name four is i = let same : token_class name ≡ class_number c = sym (ap token_class i) ∙ class_is c in omega arith

pub inst_supported : (what : What) (token : List ℕ) → IsUnsupported what token → token ≡ codes "#inst" → ⊥
inst_supported what token h e = tag_supported (class_of what token h) (codes "#inst") refl (inl refl) e

pub uuid_supported : (what : What) (token : List ℕ) → IsUnsupported what token → token ≡ codes "#uuid" → ⊥
uuid_supported what token h e = tag_supported (class_of what token h) (codes "#uuid") refl (inr refl) e

append_nothing : (a b : List ℕ) → a ++ b ≡ [] → b ≡ []
append_nothing [] b e = e
append_nothing (x ∷ a) b e = absurd (let wrong = e in cc)

numeral_some : (z : ℤ) (token : List ℕ) → IsNumeral z token → token ≡ [] → ⊥
numeral_some z token (unsigned h e) i = let some = h.some in let none = ap length i in omega arith
numeral_some z token (positive is h e) i = let wrong = sym is ∙ i in cc
numeral_some z token (negative is h e) i = let wrong = sym is ∙ i in cc

marked_some : (mark : ℕ) (token : List ℕ) → DigitsBefore mark token → token ≡ [] → ⊥
marked_some mark token h i =
    let wrong : mark ∷ h.more ≡ [] =
    append_nothing h.digits (mark ∷ h.more) (append_nothing h.sign (h.digits ++ mark ∷ h.more) (sym h.is ∙ i)) in
    cc

pub unsupported_some : (what : What) (token : List ℕ) → IsUnsupported what token → token ≡ [] → ⊥
unsupported_some char token h i = let wrong = sym h.1 ∙ i in cc
unsupported_some float token (inl (h)) i = marked_some h.0 token h.2 i
unsupported_some float token (inr (h)) i = let wrong = sym h.1 ∙ i in cc
unsupported_some big_int token h i = marked_some 78 token h i
unsupported_some wide token h i = numeral_some h.0 token h.1 i
unsupported_some namespaced_map token h i = let wrong = sym h.1 ∙ i in cc
unsupported_some tag token h i = let wrong = sym h.2 ∙ i in cc

-- ---- how an unsupported token begins

pub numeral_front : (z : ℤ) (token : List ℕ) → IsNumeral z token → NumberFront token
numeral_front z token h = number_front token [] (numeral_digits z token h)

pub marked_front : (mark : ℕ) (token : List ℕ) → DigitsBefore mark token → NumberFront token
marked_front mark token h = number_front token (mark ∷ h.more) (before_mark mark token h)

zero_front : {token : List ℕ} {what : What} (c : Class token what) → token_class token ≡ 0 → NumberFront token
zero_front {token = token} (is_float mark f h) zero = marked_front mark token h
zero_front {token = token} (is_big h) zero = marked_front 78 token h
zero_front {token = token} (is_wide z h) zero = numeral_front z token h
zero_front c zero = absurd (let number = class_is c in omega arith)

-- none of the marks of other kinds comes first
pub unsupported_zero : (what : What) (token : List ℕ) → token_class token ≡ 0 → IsUnsupported what token → NumberFront token
unsupported_zero what token zero h = zero_front (class_of what token h) zero

-- a sign or none and digits, with what stands behind them
pub digits_front : (token rest sign digits : List ℕ) → token ≡ sign ++ (digits ++ rest)
    → (sign ≡ []) ⊎ ((sign ≡ plus ∷ []) ⊎ (sign ≡ minus ∷ [])) → 0 < length digits → Each is_digit digits → NumberFront token
digits_front token rest sign digits is signs some each =
    number_front token rest (record { sign = sign; digits = digits; is = is; signs = sign_of sign signs; some = some; each = each })

-- where nothing stands behind the digits, no mark does
pub no_mark : (mark : ℕ) (token sign digits : List ℕ) → is_digit mark ≡ false → DigitsBefore mark token → token ≡ sign ++ (digits ++ [])
    → (sign ≡ []) ⊎ ((sign ≡ plus ∷ []) ⊎ (sign ≡ minus ∷ [])) → 0 < length digits → Each is_digit digits → ⊥
no_mark mark token sign digits no_digit h is signs some each =
    let alone : SignedDigits token [] =
    record { sign = sign; digits = digits; is = is; signs = sign_of sign signs; some = some; each = each } in
    let gone : mark ∷ h.more ≡ [] = same_behind token (mark ∷ h.more) [] (before_mark mark token h) alone no_digit refl in cc
