-- What the first bytes say of the step that reads them.
use Rattle.std.proofs.Common.{◌≡◌, ◌≢◌, ◌⊎◌, ℕ, ◌≤◌, Bool, true, false, List, [], ◌∷◌, ◌++◌, refl, ap, ◌∙◌, sym, arith, inl, inr}
use Rattle.std.proofs.lemmas.Bool.Decides.{nat_tests}
use Rattle.std.specs.Prelude.{◌==◌, ◌&&◌, ◌||◌, not, if◌then◌else◌}
use Rattle.edn_model.specs.Form as form
use Rattle.edn_model.specs.Bytes.{quote, hash, open_paren, close_paren, semicolon, open_bracket, close_bracket, underscore, open_brace}
use Rattle.edn_model.specs.Bytes.{close_brace, is_blank, is_opening, is_closing, is_token_byte, ends_token, may_begin_token}
use Rattle.edn_model.specs.Bytes.{begins_no_token, Each, NoCharacter}
use Rattle.edn_model.specs.Tokens.{IsAtom}
use Rattle.edn_model.specs.Faults.{Open, in_list, in_vector, in_map, behind_key, in_set, behind_discard, behind_inst, behind_uuid, closes}
use Rattle.edn_model.specs.Faults.{opens_collection, opens_discard, TokenAt}
use Rattle.edn_model.proofs.Runs.{both, Each-tail}
use Rattle.edn_model.proofs.Utf8.{no_character_high}
use Rattle.edn_model.proofs.OneForm.{not_true, atom_first}
use Rattle.edn_model.proofs.OnePlace.{first_here}

-- ---- kinds

abbrev pub behind_hash : List ℕ → ℕ
behind_hash [] = 10
behind_hash (b ∷ bytes) = if b == underscore then 8 else (if b == open_brace then 5 else 10)

abbrev pub by_tests : Bool → Bool → Bool → Bool → Bool → Bool → Bool → Bool → ℕ → ℕ
by_tests blank comment closing string paren bracket brace marked n =
    if blank then 1 else (if comment then 2 else (if closing then 3 else (if string then 4 else (if paren then 5 else (if bracket then 5
    else (if brace then 5 else (if marked then n else 10)))))))

-- 0 the end, 1 white space, 2 a comment, 3 a closing bracket, 4 a string, 5 an opening bracket, 8 a discard,
-- 10 a token
abbrev pub front : List ℕ → ℕ
front [] = 0
front (b ∷ bytes) =
    by_tests (is_blank b) (b == semicolon) (is_closing b) (b == quote) (b == open_paren) (b == open_bracket) (b == open_brace) (b == hash)
    (behind_hash bytes)

-- ---- white space and closing brackets

blank_first : (p q r s t u v w : Bool) (n : ℕ) → p ≡ true → by_tests p q r s t u v w n ≡ 1
blank_first true q r s t u v w n h = refl
blank_first false q r s t u v w n h = cc

pub blank_front : (b : ℕ) (bytes : List ℕ) → is_blank b ≡ true → front (b ∷ bytes) ≡ 1
blank_front b bytes h =
    blank_first (is_blank b) (b == semicolon) (is_closing b) (b == quote) (b == open_paren) (b == open_bracket) (b == open_brace)
    (b == hash) (behind_hash bytes) h

closing_first : (p q r s t u v w : Bool) (n : ℕ) → p ≡ false → q ≡ false → r ≡ true → by_tests p q r s t u v w n ≡ 3
closing_first true q r s t u v w n hp hq hr = cc
closing_first false true r s t u v w n hp hq hr = cc
closing_first false false true s t u v w n hp hq hr = refl
closing_first false false false s t u v w n hp hq hr = cc

closing_no_blank : (b : ℕ) → is_closing b ≡ true → is_blank b ≡ false
closing_no_blank b h = grind (arith, nat_tests)

closing_no_comment : (b : ℕ) → is_closing b ≡ true → (b == semicolon) ≡ false
closing_no_comment b h = grind (arith, nat_tests)

pub closing_front : (b : ℕ) (bytes : List ℕ) → is_closing b ≡ true → front (b ∷ bytes) ≡ 3
closing_front b bytes h =
    closing_first (is_blank b) (b == semicolon) (is_closing b) (b == quote) (b == open_paren) (b == open_bracket) (b == open_brace)
    (b == hash) (behind_hash bytes) (closing_no_blank b h) (closing_no_comment b h) h

paren_closes : (b : ℕ) → (b == close_paren) ≡ true → is_closing b ≡ true
paren_closes b h = grind (arith, nat_tests)

bracket_closes : (b : ℕ) → (b == close_bracket) ≡ true → is_closing b ≡ true
bracket_closes b h = grind (arith, nat_tests)

brace_closes : (b : ℕ) → (b == close_brace) ≡ true → is_closing b ≡ true
brace_closes b h = grind (arith, nat_tests)

pub closes_closing : (inner : Open) (outer : List Open) (b : ℕ) → closes (inner ∷ outer) b ≡ true → is_closing b ≡ true
closes_closing (in_list fs) outer b h = paren_closes b h
closes_closing (in_vector fs) outer b h = bracket_closes b h
closes_closing (in_map ps) outer b h = brace_closes b h
closes_closing (in_set fs) outer b h = brace_closes b h
closes_closing (behind_key ps k) outer b h = cc
closes_closing behind_discard outer b h = cc
closes_closing behind_inst outer b h = cc
closes_closing behind_uuid outer b h = cc

-- ---- tokens

record Tests (b : ℕ) : Type 0 where
  blank : is_blank b ≡ false
  comment : (b == semicolon) ≡ false
  closing : is_closing b ≡ false
  string : (b == quote) ≡ false
  paren : (b == open_paren) ≡ false
  bracket : (b == open_bracket) ≡ false
  brace : (b == open_brace) ≡ false

neither : (a b : Bool) → (a || b) ≡ false → (a ≡ false) × (b ≡ false)
neither true b h = cc
neither false b h = (refl, h)

token_tests : (b : ℕ) → is_token_byte b ≡ true → Tests b
token_tests b h =
    let stays = not_true (ends_token b) h in
    let blank = neither (is_blank b) ((is_opening b || is_closing b) || (b == quote || b == semicolon)) stays in
    let others = neither (is_opening b || is_closing b) (b == quote || b == semicolon) blank.1 in
    let brackets = neither (is_opening b) (is_closing b) others.0 in
    let paren = neither (b == open_paren) (b == open_bracket || b == open_brace) brackets.0 in
    let square = neither (b == open_bracket) (b == open_brace) paren.1 in
    let marks = neither (b == quote) (b == semicolon) others.1 in
    record {
      blank = blank.0;
      comment = marks.1;
      closing = brackets.1;
      string = marks.0;
      paren = paren.0;
      bracket = square.0;
      brace = square.1;
    }

token_first : (p q r s t u v w : Bool) (n : ℕ) → p ≡ false → q ≡ false → r ≡ false → s ≡ false → t ≡ false → u ≡ false → v ≡ false
    → (w ≡ true → n ≡ 10) → by_tests p q r s t u v w n ≡ 10
token_first true q r s t u v w n hp hq hr hs ht hu hv hw = cc
token_first false true r s t u v w n hp hq hr hs ht hu hv hw = cc
token_first false false true s t u v w n hp hq hr hs ht hu hv hw = cc
token_first false false false true t u v w n hp hq hr hs ht hu hv hw = cc
token_first false false false false true u v w n hp hq hr hs ht hu hv hw = cc
token_first false false false false false true v w n hp hq hr hs ht hu hv hw = cc
token_first false false false false false false true w n hp hq hr hs ht hu hv hw = cc
token_first false false false false false false false true n hp hq hr hs ht hu hv hw = hw refl
token_first false false false false false false false false n hp hq hr hs ht hu hv hw = refl

token_byte_front : (b : ℕ) (bytes : List ℕ) → is_token_byte b ≡ true → ((b == hash) ≡ true → behind_hash bytes ≡ 10)
    → front (b ∷ bytes) ≡ 10
token_byte_front b bytes h k =
    let t = token_tests b h in
    token_first (is_blank b) (b == semicolon) (is_closing b) (b == quote) (b == open_paren) (b == open_bracket) (b == open_brace)
    (b == hash) (behind_hash bytes)
    t.blank t.comment t.closing t.string t.paren t.bracket t.brace k

abbrev by_two : Bool → Bool → ℕ
by_two p q = if p then 8 else (if q then 5 else 10)

hash_kind : (p q : Bool) → p ≡ false → q ≡ false → by_two p q ≡ 10
hash_kind true q hp hq = cc
hash_kind false true hp hq = cc
hash_kind false false hp hq = refl

equal : (a b : ℕ) → (a == b) ≡ true → a ≡ b
equal a b h = grind (arith, nat_tests)

unequal : (a b : ℕ) → a ≢ b → (a == b) ≡ false
unequal a b h = grind (arith, nat_tests)

lone_hash : (bytes : List ℕ)
    → ((more : List ℕ) → bytes ≢ underscore ∷ more) → ((more : List ℕ) → bytes ≢ open_brace ∷ more) → behind_hash bytes ≡ 10
lone_hash [] h k = refl
lone_hash (b ∷ bytes) h k =
    hash_kind (b == underscore) (b == open_brace) (unequal b underscore (λ e. h bytes (ap (λ z. z ∷ bytes) e)))
    (unequal b open_brace (λ e. k bytes (ap (λ z. z ∷ bytes) e)))

hash_then : (b : ℕ) (bytes more : List ℕ) (c : ℕ) → (b == hash) ≡ true → bytes ≡ c ∷ more → b ∷ bytes ≡ hash ∷ c ∷ more
hash_then b bytes more c h e = let same = equal b hash h in cc

whole_front : (here bytes : List ℕ) (b : ℕ) → here ≡ b ∷ bytes → is_token_byte b ≡ true
    → ((more : List ℕ) → here ≢ hash ∷ underscore ∷ more) → ((more : List ℕ) → here ≢ hash ∷ open_brace ∷ more) → front here ≡ 10
whole_front here bytes b is h discard set =
    ap front is ∙ token_byte_front b bytes h
    (λ e. lone_hash bytes (λ more i. discard more (is ∙ hash_then b bytes more underscore e i))
    (λ more i. set more (is ∙ hash_then b bytes more open_brace e i)))

pub stands_front : (here token rest : List ℕ) → TokenAt here token rest → token ≢ [] → front here ≡ 10
stands_front here [] rest h some = absurd (some refl)
stands_front here (b ∷ token) rest h some =
    whole_front here (token ++ rest) b h.is (Each-tail is_token_byte b token h.each).0 h.no_discard h.no_set

high_in_token : (b : ℕ) → 128 ≤ b → is_token_byte b ≡ true
high_in_token b h = grind (arith, nat_tests)

high_no_hash : (b : ℕ) → 128 ≤ b → (b == hash) ≡ false
high_no_hash b h = grind (arith, nat_tests)

no_character_front : (rest : List ℕ) → NoCharacter rest → front rest ≡ 10
no_character_front [] n = absurd n
no_character_front (b ∷ rest) n =
    let high = no_character_high b rest n in
    let other = high_no_hash b high in
    token_byte_front b rest (high_in_token b high) (λ e. absurd (let wrong : true ≡ false = sym e ∙ other in cc))

pub character_front : (here token rest : List ℕ) → TokenAt here token rest → NoCharacter rest → front here ≡ 10
character_front here [] rest h n = ap front h.is ∙ no_character_front rest n
character_front here (b ∷ token) rest h n = stands_front here (b ∷ token) rest h (λ e. let wrong = e in cc)

no_token_front_of : (b : ℕ) (bytes : List ℕ) → is_token_byte b ≡ true → may_begin_token b ≡ false → front (b ∷ bytes) ≡ 10
no_token_front_of b bytes h fails =
    token_byte_front b bytes h
    (λ e. absurd (let same : may_begin_token b ≡ may_begin_token hash = ap may_begin_token (equal b hash e) in cc))

pub no_token_front : (here : List ℕ) → begins_no_token here ≡ true → front here ≡ 10
no_token_front [] h = cc
no_token_front (b ∷ bytes) h =
    let parts = both (is_token_byte b) (not (may_begin_token b)) h in
    no_token_front_of b bytes parts.0 (not_true (may_begin_token b) parts.1)

pub atom_front : (f : form.Form) (here token rest : List ℕ) → IsAtom f token → here ≡ token ++ rest → front here ≡ 10
atom_front f here token rest h is =
    let a = atom_first f token h in
    let parts = both (is_token_byte a.first) (not (a.first == hash)) a.passes in
    let other = not_true (a.first == hash) parts.1 in
    ap front (first_here token rest here a.others a.first is a.is)
    ∙ token_byte_front a.first (a.others ++ rest) parts.0 (λ e. absurd (let wrong : true ≡ false = sym e ∙ other in cc))

-- ---- opening brackets

data Opening (here : List ℕ) : Type 0 where
  a_paren : (inside : List ℕ) → here ≡ open_paren ∷ inside → Opening here
  a_bracket : (inside : List ℕ) → here ≡ open_bracket ∷ inside → Opening here
  a_brace : (inside : List ℕ) → here ≡ open_brace ∷ inside → Opening here
  a_set : (inside : List ℕ) → here ≡ hash ∷ open_brace ∷ inside → Opening here

opening_front : {here : List ℕ} → Opening here → front here ≡ 5
opening_front (a_paren inside e) = ap front e
opening_front (a_bracket inside e) = ap front e
opening_front (a_brace inside e) = ap front e
opening_front (a_set inside e) = ap front e

first_is : (b c : ℕ) (bytes : List ℕ) → (b == c) ≡ true → b ∷ bytes ≡ c ∷ bytes
first_is b c bytes h = ap (λ z. z ∷ bytes) (equal b c h)

either : (p q : Bool) → (p || q) ≡ true → (p ≡ true) ⊎ (q ≡ true)
either true q h = inl refl
either false q h = inr h

bracket_opening : (b : ℕ) (bytes : List ℕ) → is_opening b ≡ true → Opening (b ∷ bytes)
bracket_opening b bytes h = elim (either (b == open_paren) (b == open_bracket || b == open_brace) h) [
  | inl e ↦ a_paren bytes (first_is b open_paren bytes e)
  | inr (k) ↦ elim (either (b == open_bracket) (b == open_brace) k) [
    | inl e ↦ a_bracket bytes (first_is b open_bracket bytes e)
    | inr e ↦ a_brace bytes (first_is b open_brace bytes e)
  ]
]

opening_of : (here : List ℕ) → opens_collection here ≡ true → Opening here
opening_of [] h = cc
opening_of (b ∷ []) h = bracket_opening b [] h
opening_of (b ∷ c ∷ bytes) h = elim (either (is_opening b) (b == hash && c == open_brace) h) [
  | inl e ↦ bracket_opening b (c ∷ bytes) e
  | inr k ↦
      let parts = both (b == hash) (c == open_brace) k in
      let one = equal b hash parts.0 in
      let two = equal c open_brace parts.1 in
      a_set bytes cc
]

pub collection_front : (here : List ℕ) → opens_collection here ≡ true → front here ≡ 5
collection_front here h = opening_front (opening_of here h)

pub record Discards (here : List ℕ) : Type 0 where
  pub inside : List ℕ
  pub is : here ≡ hash ∷ underscore ∷ inside

pub discard_of : (here : List ℕ) → opens_discard here ≡ true → Discards here
discard_of [] h = cc
discard_of (b ∷ []) h = cc
discard_of (b ∷ c ∷ bytes) h =
    let parts = both (b == hash) (c == underscore) h in
    let one = equal b hash parts.0 in
    let two = equal c underscore parts.1 in
    record { inside = bytes; is = cc }
