-- At one place stands a text of one form, and it ends at one place; so do gaps, members and entries.
use Rattle.std.proofs.Common.{◌≡◌, ℕ, ◌<◌, Bool, true, false, List, [], ◌∷◌, ◌++◌, refl, ap, ◌∙◌, sym, subst, arith, lit<, codes, IsTrue}
use Rattle.std.proofs.Common.{Some}
use Rattle.std.proofs.lemmas.Bool.Decides.{nat_tests}
use Rattle.std.proofs.lemmas.List.{append-nil}
use Rattle.std.specs.Prelude.{◌==◌, ◌&&◌, ◌||◌, not, if◌then◌else◌, encode_utf8}
use Rattle.std.specs.Int.{w128, from_be_bytes}
use Rattle.uuid.specs.Text.{parsed}
use Rattle.edn_model.specs.Form as form
use Rattle.edn_model.specs.Bytes.{quote, hash, open_paren, semicolon, open_bracket, underscore, open_brace, line_feed, backslash, is_blank}
use Rattle.edn_model.specs.Bytes.{is_opening, is_closing, is_token_byte, ends_token, is_line_byte, is_plain, begins, TokenEnds}
use Rattle.edn_model.specs.Tokens.{IsAtom, Spells, nothing, plain, escape, code, IsCode, escape_of, StringAt}
use Rattle.edn_model.specs.Instants.{IsInstant}
use Rattle.edn_model.specs.Uuids.{IsUuid}
use Rattle.edn_model.specs.Grammar.{CommentAt, LastComment, Gap, no_gap, blank, comment, last_comment, discard, Text, atom, string, list}
use Rattle.edn_model.specs.Grammar.{vector, map, set, instant, uuid, Members, no_members, member, Entries, no_entries, entry, FormAt}
use Rattle.edn_model.specs.Grammar.{OnlyGap, IsWholeTextOf}
use Rattle.edn_model.proofs.Runs.{both, heads, tails, one_run}
use Rattle.edn_model.proofs.OneInstant.{one_instant}
use Rattle.edn_model.proofs.Places.{one_place}
use Rattle.edn_model.proofs.OneForm.{begins_atom, not_true, token_stops, atom_bytes, atom_first, same_atom}

-- ---- strings

pub plain_is_none : (b : ℕ) (x bytes : List ℕ) → is_plain b ≡ true → b ∷ x ≡ quote ∷ bytes → ⊥
plain_is_none b x bytes h e = let same : is_plain b ≡ is_plain quote = ap is_plain (heads e) in cc

pub plain_no_escape : (b : ℕ) (x bytes : List ℕ) → is_plain b ≡ true → b ∷ x ≡ backslash ∷ bytes → ⊥
plain_no_escape b x bytes h e = let same : is_plain b ≡ is_plain backslash = ap is_plain (heads e) in cc

pub quote_no_escape : (here x y : List ℕ) → here ≡ quote ∷ x → here ≡ backslash ∷ y → ⊥
quote_no_escape here x y e i = let wrong = heads (sym e ∙ i) in omega arith

pub no_code_letter : (b e : ℕ) → escape_of b ≡ Some e → b ≡ 117 → ⊥
no_code_letter b e h is = let same : escape_of b ≡ escape_of 117 = ap escape_of is in cc

pub record SameText (s t r u : List ℕ) : Type 0 where
  pub text : s ≡ t
  pub rest : r ≡ u

pub same_code : (a b c d p q r s m n : ℕ) → a ≡ p → b ≡ q → c ≡ r → d ≡ s → IsCode a b c d m → IsCode p q r s n → m ≡ n
same_code a b c d p q r s m n e1 e2 e3 e4 h k =
    let one = subst (λ z. IsCode z b c d m) e1 h in
    let two = subst (λ z. IsCode p z c d m) e2 one in
    let three = subst (λ z. IsCode p q z d m) e3 two in
    let four = subst (λ z. IsCode p q r z m) e4 three in
    four.is ∙ sym k.is

same_spelling : {here there s t r u : List ℕ} → Spells here s r → Spells there t u → here ≡ there → (x y : List ℕ) → r ≡ quote ∷ x
    → u ≡ quote ∷ y → SameText s t r u
same_spelling nothing nothing same x y e i = record { text = refl; rest = same }
same_spelling nothing (plain {b = b} {here = h} p k) same x y e i = absurd (plain_is_none b h x p (sym same ∙ e))
same_spelling nothing (escape {after = h} is p k) same x y e i = absurd (quote_no_escape _ x _ e (same ∙ is))
same_spelling nothing (code is p k a) same x y e i = absurd (quote_no_escape _ x _ e (same ∙ is))
same_spelling (plain {b = b} {here = h} p k) nothing same x y e i = absurd (plain_is_none b h y p (same ∙ i))
same_spelling (plain {b = b} {text = s} p h) (plain {b = c} {text = t} q k) same x y e i =
    let others = same_spelling h k (tails same) x y e i in
    let first : b ≡ c = heads same in
    let text : s ≡ t = others.text in
    record { text = cc; rest = others.rest }
same_spelling (plain {b = b} {here = h} p k) (escape is q l) same x y e i = absurd (plain_no_escape b h _ p (same ∙ is))
same_spelling (plain {b = b} {here = h} p k) (code is q l a) same x y e i = absurd (plain_no_escape b h _ p (same ∙ is))
same_spelling (escape is p h) nothing same x y e i = absurd (quote_no_escape _ y _ i (sym same ∙ is))
same_spelling (escape is p h) (plain {b = b} {here = k} q l) same x y e i = absurd (plain_no_escape b k _ q (sym same ∙ is))
same_spelling (escape {b = b} {e = c} {text = s} is p h) (escape {b = d} {e = f} {text = t} js q k) same x y e i =
    let letters = tails (sym is ∙ same ∙ js) in
    let value : escape_of b ≡ escape_of d = ap escape_of (heads letters) in
    let others = same_spelling h k (tails letters) x y e i in
    let text : s ≡ t = others.text in
    let found : Some c ≡ Some f = sym p ∙ value ∙ q in
    record { text = cc; rest = others.rest }
same_spelling (escape {b = b} {e = c} is p h) (code js q k a) same x y e i =
    absurd (no_code_letter b c p (heads (tails (sym is ∙ same ∙ js))))
same_spelling (code is p h a) nothing same x y e i = absurd (quote_no_escape _ y _ i (sym same ∙ is))
same_spelling (code is p h a) (plain {b = b} {here = k} q l) same x y e i = absurd (plain_no_escape b k _ q (sym same ∙ is))
same_spelling (code is p h a) (escape {b = b} {e = c} js q k) same x y e i =
    absurd (no_code_letter b c q (heads (tails (sym js ∙ sym same ∙ is))))
same_spelling (code {a = a1} {b = b1} {c = c1} {d = d1} {n = m} {text = s} is p h l)
    (code {a = a2} {b = b2} {c = c2} {d = d2} {n = n} {text = t} js q k o) same x y e i =
    let first = tails (tails (sym is ∙ same ∙ js)) in
    let second = tails first in
    let third = tails second in
    let fourth = tails third in
    let others = same_spelling h k (tails fourth) x y e i in
    let number : m ≡ n = same_code a1 b1 c1 d1 a2 b2 c2 d2 m n (heads first) (heads second) (heads third) (heads fourth) p q in
    record { text = l ∙ ap (λ z. encode_utf8 z ++ s) number ∙ ap (λ z. encode_utf8 n ++ z) others.text ∙ sym o; rest = others.rest }

pub same_string : {s t here there r u : List ℕ} → StringAt s here r → StringAt t there u → here ≡ there → SameText s t r u
same_string h k same =
    let inside = tails (sym h.opens ∙ same ∙ k.opens) in
    let found = same_spelling h.spells k.spells inside _ _ refl refl in
    record { text = found.text; rest = tails found.rest }

-- ---- what the first bytes say

abbrev pub hash_kind : List ℕ → ℕ
hash_kind [] = 8
hash_kind (b ∷ bytes) = if b == open_brace then 5 else (if b == 105 then 6 else (if b == 117 then 7 else 8))

abbrev pub front_kind : List ℕ → ℕ
front_kind [] = 9
front_kind (b ∷ bytes) =
    if b == quote then 1 else (if b == open_paren then 2 else (if b == open_bracket then 3 else (if b == open_brace then 4
    else (if b == hash then hash_kind bytes else 0))))

abbrev pub text_kind : {depth : ℕ} {f : form.Form} {here rest : List ℕ} → Text depth f here rest → ℕ
text_kind (atom token h is ends) = 0
text_kind (string h) = 1
text_kind (list is h) = 2
text_kind (vector is h) = 3
text_kind (map is h d) = 4
text_kind (set is h d) = 5
text_kind (instant tag gap s i) = 6
text_kind (uuid tag gap s i) = 7

-- what a byte is not that begins a token
pub record Ordinary (b : ℕ) : Type 0 where
  pub no_blank : is_blank b ≡ false
  pub no_quote : (b == quote) ≡ false
  pub no_semicolon : (b == semicolon) ≡ false
  pub no_paren : (b == open_paren) ≡ false
  pub no_bracket : (b == open_bracket) ≡ false
  pub no_brace : (b == open_brace) ≡ false
  pub no_closing : is_closing b ≡ false
  pub no_hash : (b == hash) ≡ false

neither : (a b : Bool) → (a || b) ≡ false → (a ≡ false) × (b ≡ false)
neither true b h = cc
neither false b h = (refl, h)

pub ordinary : (b : ℕ) → begins_atom b ≡ true → Ordinary b
ordinary b h =
    let parts = both (is_token_byte b) (not (b == hash)) h in
    let stays = not_true (ends_token b) parts.0 in
    let blank = neither (is_blank b) ((is_opening b || is_closing b) || (b == quote || b == semicolon)) stays in
    let others = neither (is_opening b || is_closing b) (b == quote || b == semicolon) blank.1 in
    let brackets = neither (is_opening b) (is_closing b) others.0 in
    let paren = neither (b == open_paren) (b == open_bracket || b == open_brace) brackets.0 in
    let square = neither (b == open_bracket) (b == open_brace) paren.1 in
    let marks = neither (b == quote) (b == semicolon) others.1 in
    record {
      no_blank = blank.0;
      no_quote = marks.0;
      no_semicolon = marks.1;
      no_paren = paren.0;
      no_bracket = square.0;
      no_brace = square.1;
      no_closing = brackets.1;
      no_hash = not_true (b == hash) parts.1;
    }

none_of_five : (p q r s t : Bool) (n : ℕ) → p ≡ false → q ≡ false → r ≡ false → s ≡ false → t ≡ false
    → (if p then 1 else (if q then 2 else (if r then 3 else (if s then 4 else (if t then n else 0))))) ≡ 0
none_of_five true q r s t n hp hq hr hs ht = cc
none_of_five false true r s t n hp hq hr hs ht = cc
none_of_five false false true s t n hp hq hr hs ht = cc
none_of_five false false false true t n hp hq hr hs ht = cc
none_of_five false false false false true n hp hq hr hs ht = cc
none_of_five false false false false false n hp hq hr hs ht = refl

atom_kind : (b : ℕ) (bytes : List ℕ) → begins_atom b ≡ true → front_kind (b ∷ bytes) ≡ 0
atom_kind b bytes h =
    let o = ordinary b h in
    none_of_five (b == quote) (b == open_paren) (b == open_bracket) (b == open_brace) (b == hash)
    (hash_kind bytes) o.no_quote o.no_paren o.no_bracket o.no_brace o.no_hash

pub first_here : (token rest here others : List ℕ) (b : ℕ) → here ≡ token ++ rest → token ≡ b ∷ others → here ≡ b ∷ (others ++ rest)
first_here token rest here others b is first = is ∙ ap (λ z. z ++ rest) first

pub kind_is : {depth : ℕ} {f : form.Form} {here rest : List ℕ} (t : Text depth f here rest) → front_kind here ≡ text_kind t
kind_is {f = f} {here = here} {rest = rest} (atom token h is ends) =
    let a = atom_first f token h in
    ap front_kind (first_here token rest here a.others a.first is a.is) ∙ atom_kind a.first (a.others ++ rest) a.passes
kind_is (string h) = ap front_kind h.opens
kind_is (list is h) = ap front_kind is
kind_is (vector is h) = ap front_kind is
kind_is (map is h d) = ap front_kind is
kind_is (set is h d) = ap front_kind is
kind_is (instant tag gap s i) = ap front_kind tag.is
kind_is (uuid tag gap s i) = ap front_kind tag.is

same_kind : {m n : ℕ} {f g : form.Form} {here there r u : List ℕ} (x : Text m f here r) (y : Text n g there u) → here ≡ there
    → text_kind x ≡ text_kind y
same_kind x y e = sym (kind_is x) ∙ ap front_kind e ∙ kind_is y

-- ---- gaps

-- nothing of a gap, white space, a comment, a discard
abbrev pub gap_kind : List ℕ → ℕ
gap_kind [] = 0
gap_kind (b ∷ bytes) =
    if is_blank b then 1 else (if b == semicolon then 2 else (if b == hash && begins (λ c. c == underscore) bytes then 3 else 0))

-- no gap goes on here
abbrev pub GapEnds : List ℕ → Type 0
GapEnds bytes = gap_kind bytes ≡ 0

abbrev pub gap_number : {depth : ℕ} {here rest : List ℕ} → Gap depth here rest → ℕ
gap_number (no_gap {here = here}) = gap_kind here
gap_number (blank p g) = 1
gap_number (comment c g) = 2
gap_number (last_comment c) = 2
gap_number (discard is g t h) = 3

abbrev pub of_three : Bool → Bool → Bool → Bool → ℕ
of_three p q r x = if p then 1 else (if q then 2 else (if r && x then 3 else 0))

first_of_three : (p q r x : Bool) → p ≡ true → of_three p q r x ≡ 1
first_of_three true q r x h = refl
first_of_three false q r x h = cc

pub none_of_three : (p q r x : Bool) → p ≡ false → q ≡ false → r ≡ false → of_three p q r x ≡ 0
none_of_three true q r x hp hq hr = cc
none_of_three false true r x hp hq hr = cc
none_of_three false false true x hp hq hr = cc
none_of_three false false false x hp hq hr = refl

blank_kind : (b : ℕ) (bytes : List ℕ) → is_blank b ≡ true → gap_kind (b ∷ bytes) ≡ 1
blank_kind b bytes h = first_of_three (is_blank b) (b == semicolon) (b == hash) (begins (λ c. c == underscore) bytes) h

pub gap_kind_is : {depth : ℕ} {here rest : List ℕ} (g : Gap depth here rest) → gap_kind here ≡ gap_number g
gap_kind_is no_gap = refl
gap_kind_is (blank {b = b} {here = here} p g) = blank_kind b here p
gap_kind_is (comment c g) = ap gap_kind c.is
gap_kind_is (last_comment c) = ap gap_kind c.is
gap_kind_is (discard is g t h) = ap gap_kind is

same_gap_kind : {m n : ℕ} {here there r u : List ℕ} (x : Gap m here r) (y : Gap n there u) → here ≡ there → gap_number x ≡ gap_number y
same_gap_kind x y e = sym (gap_kind_is x) ∙ ap gap_kind e ∙ gap_kind_is y

-- a gap that has something in it stands where none ends
goes_on : {n : ℕ} {here there u : List ℕ} (y : Gap n there u) → here ≡ there → GapEnds here → gap_number y ≡ 0
goes_on y e ends = sym (gap_kind_is y) ∙ sym (ap gap_kind e) ∙ ends

atom_gap : (b : ℕ) (bytes : List ℕ) → begins_atom b ≡ true → gap_kind (b ∷ bytes) ≡ 0
atom_gap b bytes h =
    let o = ordinary b h in
    none_of_three (is_blank b) (b == semicolon) (b == hash) (begins (λ c. c == underscore) bytes) o.no_blank o.no_semicolon o.no_hash

-- no gap goes on where a text begins
pub text_ends_gap : {depth : ℕ} {f : form.Form} {here rest : List ℕ} → Text depth f here rest → GapEnds here
text_ends_gap {f = f} {here = here} {rest = rest} (atom token h is ends) =
    let a = atom_first f token h in
    ap gap_kind (first_here token rest here a.others a.first is a.is) ∙ atom_gap a.first (a.others ++ rest) a.passes
text_ends_gap (string h) = ap gap_kind h.opens
text_ends_gap (list is h) = ap gap_kind is
text_ends_gap (vector is h) = ap gap_kind is
text_ends_gap (map is h d) = ap gap_kind is
text_ends_gap (set is h d) = ap gap_kind is
text_ends_gap (instant tag gap s i) = ap gap_kind tag.is
text_ends_gap (uuid tag gap s i) = ap gap_kind tag.is

-- a closing bracket stands here
abbrev pub Closes : List ℕ → Type 0
Closes bytes = IsTrue (begins is_closing bytes)

closing_not_blank : (b : ℕ) → is_closing b ≡ true → is_blank b ≡ false
closing_not_blank b h = grind (arith, nat_tests)

closing_not_semicolon : (b : ℕ) → is_closing b ≡ true → (b == semicolon) ≡ false
closing_not_semicolon b h = grind (arith, nat_tests)

closing_not_hash : (b : ℕ) → is_closing b ≡ true → (b == hash) ≡ false
closing_not_hash b h = grind (arith, nat_tests)

pub closing_ends_gap : (bytes : List ℕ) → Closes bytes → GapEnds bytes
closing_ends_gap [] h = refl
closing_ends_gap (b ∷ bytes) h =
    none_of_three (is_blank b) (b == semicolon) (b == hash) (begins (λ c. c == underscore) bytes) (closing_not_blank b h)
    (closing_not_semicolon b h) (closing_not_hash b h)

atom_no_closing : (b : ℕ) → begins_atom b ≡ true → is_closing b ≡ false
atom_no_closing b h = (ordinary b h).no_closing

pub text_no_closing : {depth : ℕ} {f : form.Form} {here rest : List ℕ} → Text depth f here rest → begins is_closing here ≡ false
text_no_closing {f = f} {here = here} {rest = rest} (atom token h is ends) =
    let a = atom_first f token h in
    ap (begins is_closing) (first_here token rest here a.others a.first is a.is) ∙ atom_no_closing a.first a.passes
text_no_closing (string h) = ap (begins is_closing) h.opens
text_no_closing (list is h) = ap (begins is_closing) is
text_no_closing (vector is h) = ap (begins is_closing) is
text_no_closing (map is h d) = ap (begins is_closing) is
text_no_closing (set is h d) = ap (begins is_closing) is
text_no_closing (instant tag gap s i) = ap (begins is_closing) tag.is
text_no_closing (uuid tag gap s i) = ap (begins is_closing) tag.is

-- ---- tokens

pub record SameForm (f g : form.Form) (r u : List ℕ) : Type 0 where
  pub same : f ≡ g
  pub rest : r ≡ u

pub same_token : (f g : form.Form) (a b r u : List ℕ) → IsAtom f a → IsAtom g b → TokenEnds r → TokenEnds u → a ++ r ≡ b ++ u
    → SameForm f g r u
same_token f g a b r u h k ends stops e =
    let run = one_run is_token_byte a b r u (atom_bytes f a h) (atom_bytes g b k) (token_stops r ends) (token_stops u stops) e in
    record { same = same_atom f g b (subst (IsAtom f) run.0 h) k; rest = run.1 }

-- ---- comments

pub same_comment : {here there r u : List ℕ} → CommentAt here r → CommentAt there u → here ≡ there → r ≡ u
same_comment {r = r} {u = u} h k e =
    tails
    (one_run is_line_byte h.text k.text (line_feed ∷ r) (line_feed ∷ u) h.one_line k.one_line refl refl (tails (sym h.is ∙ e ∙ k.is))).1

pub comment_goes_on : {here there r : List ℕ} → CommentAt here r → LastComment there → here ≡ there → ⊥
comment_goes_on {r = r} h k e =
    let gone =
    (one_run is_line_byte h.text k.text (line_feed ∷ r) [] h.one_line k.one_line refl tt
    (tails (sym h.is ∙ e ∙ k.is) ∙ sym (append-nil k.text))).1 in
    cc

-- ---- forms

pub record SameForms (fs gs : form.Forms) (r u : List ℕ) : Type 0 where
  pub forms : fs ≡ gs
  pub rest : r ≡ u

pub record SamePairs (ps qs : form.Pairs) (r u : List ℕ) : Type 0 where
  pub pairs : ps ≡ qs
  pub rest : r ≡ u

closing_no_text : {depth : ℕ} {f : form.Form} {here rest : List ℕ} (bytes : List ℕ) → Closes bytes → Text depth f here rest → bytes ≡ here
    → ⊥
closing_no_text bytes closes t e =
    let wrong : begins is_closing bytes ≡ false = ap (begins is_closing) e ∙ text_no_closing t in
    let right : begins is_closing bytes ≡ true = closes in
    cc

pub behind_inst : (x y : List ℕ) → hash ∷ (codes "inst" ++ x) ≡ hash ∷ (codes "inst" ++ y) → x ≡ y
behind_inst x y e = tails (tails (tails (tails (tails e))))

pub behind_uuid : (x y : List ℕ) → hash ∷ (codes "uuid" ++ x) ≡ hash ∷ (codes "uuid" ++ y) → x ≡ y
behind_uuid x y e = tails (tails (tails (tails (tails e))))

pub one_uuid : (m n : ℕ) (s t : List ℕ) → IsUuid m s → IsUuid n t → s ≡ t → m ≡ n
one_uuid m n s t h k e =
    let found : Some h.bytes ≡ Some k.bytes = sym h.reads ∙ ap parsed e ∙ k.reads in
    let bytes : h.bytes ≡ k.bytes = cc in
    h.is ∙ ap (from_be_bytes w128) bytes ∙ sym k.is

mutual
  pub same_text : {m n : ℕ} {f g : form.Form} {here there r u : List ℕ} → Text m f here r → Text n g there u → here ≡ there
      → SameForm f g r u
  same_text {f = f} {g = g} {r = r} {u = u} (atom token h is ends) (atom other k js stops) e =
      same_token f g token other r u h k ends stops (sym is ∙ e ∙ js)
  same_text (atom {depth = d} {f = a} token h is ends) y e =
      absurd (let same = same_kind (atom {depth = d} {f = a} token h is ends) y e in omega arith)
  same_text (string h) (string k) e = let same = same_string h k e in record { same = ap form.string same.text; rest = same.rest }
  same_text (string {depth = d} h) y e = absurd (let same = same_kind (string {depth = d} h) y e in omega arith)
  same_text (list is h) (list js k) e =
      let same = same_members h k (tails (sym is ∙ e ∙ js)) refl refl in
      record { same = ap form.list same.forms; rest = tails same.rest }
  same_text (list is h) y e = absurd (let same = same_kind (list is h) y e in omega arith)
  same_text (vector is h) (vector js k) e =
      let same = same_members h k (tails (sym is ∙ e ∙ js)) refl refl in
      record { same = ap form.vector same.forms; rest = tails same.rest }
  same_text (vector is h) y e = absurd (let same = same_kind (vector is h) y e in omega arith)
  same_text (map is h d) (map js k c) e =
      let same = same_entries h k (tails (sym is ∙ e ∙ js)) refl refl in
      record { same = ap form.map same.pairs; rest = tails same.rest }
  same_text (map is h d) y e = absurd (let same = same_kind (map is h d) y e in omega arith)
  same_text (set is h d) (set js k c) e =
      let same = same_members h k (tails (tails (sym is ∙ e ∙ js))) refl refl in
      record { same = ap form.set same.forms; rest = tails same.rest }
  same_text (set is h d) y e = absurd (let same = same_kind (set is h d) y e in omega arith)
  same_text (instant {z = z} {s = s} tag gap h i) (instant {z = w} {s = t} mark space k j) e =
      let after = behind_inst _ _ (sym tag.is ∙ e ∙ mark.is) in
      let there = same_gap gap space after (ap gap_kind h.opens) (ap gap_kind k.opens) in
      let same = same_string h k there in
      record { same = ap form.instant (one_instant z w s i (subst (IsInstant w) (sym same.text) j)); rest = same.rest }
  same_text (instant tag gap h i) y e = absurd (let same = same_kind (instant tag gap h i) y e in omega arith)
  same_text (uuid {n = m} {s = s} tag gap h i) (uuid {n = n} {s = t} mark space k j) e =
      let after = behind_uuid _ _ (sym tag.is ∙ e ∙ mark.is) in
      let there = same_gap gap space after (ap gap_kind h.opens) (ap gap_kind k.opens) in
      let same = same_string h k there in
      record { same = ap form.uuid (one_uuid m n s t i j same.text); rest = same.rest }
  same_text (uuid tag gap h i) y e = absurd (let same = same_kind (uuid tag gap h i) y e in omega arith)

  pub same_gap : {m n : ℕ} {here there r u : List ℕ} → Gap m here r → Gap n there u → here ≡ there → GapEnds r → GapEnds u → r ≡ u
  same_gap no_gap no_gap e a b = e
  same_gap no_gap y e a b = absurd (let same = goes_on y e a in omega arith)
  same_gap (blank p g) no_gap e a b = absurd (let same = goes_on (blank p g) (sym e) b in omega arith)
  same_gap (blank p g) (blank q h) e a b = same_gap g h (tails e) a b
  same_gap (blank p g) y e a b = absurd (let same = same_gap_kind (blank p g) y e in omega arith)
  same_gap (comment c g) no_gap e a b = absurd (let same = goes_on (comment c g) (sym e) b in omega arith)
  same_gap (comment c g) (comment d h) e a b = same_gap g h (same_comment c d e) a b
  same_gap (comment c g) (last_comment d) e a b = absurd (comment_goes_on c d e)
  same_gap (comment c g) y e a b = absurd (let same = same_gap_kind (comment c g) y e in omega arith)
  same_gap (last_comment {depth = d} c) no_gap e a b = absurd (let same = goes_on (last_comment {depth = d} c) (sym e) b in omega arith)
  same_gap (last_comment c) (last_comment d) e a b = refl
  same_gap (last_comment c) (comment d h) e a b = absurd (comment_goes_on d c (sym e))
  same_gap (last_comment {depth = d} c) y e a b = absurd (let same = same_gap_kind (last_comment {depth = d} c) y e in omega arith)
  same_gap (discard is g t h) no_gap e a b = absurd (let same = goes_on (discard is g t h) (sym e) b in omega arith)
  same_gap (discard is g t h) (discard js k v l) e a b =
      let there = same_gap g k (tails (tails (sym is ∙ e ∙ js))) (text_ends_gap t) (text_ends_gap v) in
      let gone = same_text t v there in
      same_gap h l gone.rest a b
  same_gap (discard is g t h) y e a b = absurd (let same = same_gap_kind (discard is g t h) y e in omega arith)

  pub same_members : {m n : ℕ} {fs gs : form.Forms} {here there r u : List ℕ} → Members m fs here r → Members n gs there u → here ≡ there
      → Closes r → Closes u → SameForms fs gs r u
  same_members {r = r} {u = u} (no_members g) (no_members h) e a b =
      record { forms = refl; rest = same_gap g h e (closing_ends_gap r a) (closing_ends_gap u b) }
  same_members {r = r} (no_members g) (member h t n) e a b =
      absurd (closing_no_text r a t (same_gap g h e (closing_ends_gap r a) (text_ends_gap t)))
  same_members {u = u} (member g t m) (no_members h) e a b =
      absurd (closing_no_text u b t (sym (same_gap g h e (text_ends_gap t) (closing_ends_gap u b))))
  same_members (member {f = f} {fs = fs} g t m) (member {f = k} {fs = gs} h v n) e a b =
      let first = same_text t v (same_gap g h e (text_ends_gap t) (text_ends_gap v)) in
      let others = same_members m n first.rest a b in
      record { forms = ap (λ z. form.form z fs) first.same ∙ ap (form.form k) others.forms; rest = others.rest }

  pub same_entries : {m n : ℕ} {ps qs : form.Pairs} {here there r u : List ℕ} → Entries m ps here r → Entries n qs there u → here ≡ there
      → Closes r → Closes u → SamePairs ps qs r u
  same_entries {r = r} {u = u} (no_entries g) (no_entries h) e a b =
      record { pairs = refl; rest = same_gap g h e (closing_ends_gap r a) (closing_ends_gap u b) }
  same_entries {r = r} (no_entries g) (entry h t o v n) e a b =
      absurd (closing_no_text r a t (same_gap g h e (closing_ends_gap r a) (text_ends_gap t)))
  same_entries {u = u} (entry g t o v m) (no_entries h) e a b =
      absurd (closing_no_text u b t (sym (same_gap g h e (text_ends_gap t) (closing_ends_gap u b))))
  same_entries (entry {v = v1} {ps = ps} g t o v m) (entry {k = k2} {v = v2} h s p w n) e a b =
      let key = same_text t s (same_gap g h e (text_ends_gap t) (text_ends_gap s)) in
      let value = same_text v w (same_gap o p key.rest (text_ends_gap v) (text_ends_gap w)) in
      let others = same_entries m n value.rest a b in
      record {
        pairs = ap (λ z. form.pair z v1 ps) key.same ∙ ap (λ z. form.pair k2 z ps) value.same ∙ ap (form.pair k2 v2) others.pairs;
        rest = others.rest;
      }

-- ---- what stands next

kind_below : {depth : ℕ} {f : form.Form} {here rest : List ℕ} (t : Text depth f here rest) → text_kind t < 9
kind_below (atom token h is ends) = lit< tt
kind_below (string h) = lit< tt
kind_below (list is h) = lit< tt
kind_below (vector is h) = lit< tt
kind_below (map is h d) = lit< tt
kind_below (set is h d) = lit< tt
kind_below (instant tag gap s i) = lit< tt
kind_below (uuid tag gap s i) = lit< tt

-- no text is empty
pub text_not_empty : {depth : ℕ} {f : form.Form} {here rest : List ℕ} → Text depth f here rest → here ≡ [] → ⊥
text_not_empty t e =
    let kind : front_kind [] ≡ text_kind t = sym (ap front_kind e) ∙ kind_is t in
    let below = kind_below t in
    omega arith

pub record SameNext (f g : form.Form) (m n : ℕ) : Type 0 where
  pub same : f ≡ g
  pub next : m ≡ n

pub one_next : (bytes : List ℕ) (at : ℕ) (f g : form.Form) (m n : ℕ) → FormAt bytes at f m → FormAt bytes at g n → SameNext f g m n
one_next bytes at f g m n h k =
    let start = same_gap h.before k.before refl (text_ends_gap h.text) (text_ends_gap k.text) in
    let text = same_text h.text k.text start in
    record { same = text.same; next = one_place bytes m n h.order.1 k.order.1 text.rest }

pub no_form_in_gap : (bytes : List ℕ) (at : ℕ) (f : form.Form) (next : ℕ) → OnlyGap bytes at → FormAt bytes at f next → ⊥
no_form_in_gap bytes at f next only h = text_not_empty h.text (sym (same_gap only h.before refl refl (text_ends_gap h.text)))

pub one_whole : (bytes : List ℕ) (f g : form.Form) → IsWholeTextOf f bytes → IsWholeTextOf g bytes → f ≡ g
one_whole bytes f g h k = (same_text h k refl).same
