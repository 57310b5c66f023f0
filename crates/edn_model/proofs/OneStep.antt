-- From one state leads one step at most.
use Rattle.std.proofs.Common.{◌≡◌, ◌≢◌, ℕ, ◌≤◌, ◌<◌, Bool, true, false, List, [], ◌∷◌, ◌++◌, length, refl, ap, ◌∙◌, sym, subst, arith}
use Rattle.std.proofs.Common.{codes}
use Rattle.std.proofs.lemmas.List.{append-nil}
use Rattle.std.proofs.lemmas.Bool.Decides.{nat_tests}
use Rattle.std.proofs.lemmas.Str.{IsUtf8-append}
use Rattle.std.specs.Prelude.{ℤ, not, IsUtf8}
use Rattle.edn_model.specs.Form as form
use Rattle.edn_model.specs.Bytes.{quote, hash, colon, plus, minus, semicolon, line_feed, is_blank, is_digit, is_token_byte, is_line_byte}
use Rattle.edn_model.specs.Bytes.{begins_no_token, Each, TokenEnds, NoCharacter}
use Rattle.edn_model.specs.Tokens.{IsAtom, IsDecimal, IsNumeral, unsigned, positive, negative}
use Rattle.edn_model.specs.Instants.{IsInstant}
use Rattle.edn_model.specs.Uuids.{IsUuid}
use Rattle.edn_model.specs.Grammar.{TagAt, CommentAt, LastComment}
use Rattle.edn_model.specs.Faults.{What, Open, in_list, in_vector, in_map, behind_key, in_set, behind_discard, behind_inst, behind_uuid}
use Rattle.edn_model.specs.Faults.{wants_string, room, closes, begins_no_string, Fault, unsupported, TokenAt, IsUnsupported, Stuck, ends}
use Rattle.edn_model.specs.Faults.{closes_nothing, no_string, deep_collection, deep_discard, no_token, bad_character, bad_token}
use Rattle.edn_model.specs.Faults.{unsupported_token, in_string, in_comment, no_instant, no_uuid}
use Rattle.edn_model.specs.Steps.{Frames, frame, opens_of, fault, State, going, ended, land, closed, Step, blank, comment, last_comment}
use Rattle.edn_model.specs.Steps.{discard, list, vector, map, set, inst, uuid, atom, string, close, instant, identifier, stuck, end}
use Rattle.edn_model.proofs.Runs.{heads, tails, both, Each-weaken, one_run}
use Rattle.edn_model.proofs.Utf8.{one_cut, no_cut}
use Rattle.edn_model.proofs.Pieces.{is_ascii, ascii_utf8}
use Rattle.edn_model.proofs.Spelled.{SameFault, one_string_fault, string_or_fault}
use Rattle.edn_model.proofs.NoToken.{unsupported_no_atom, one_what, inst_supported, uuid_supported, unsupported_some}
use Rattle.edn_model.proofs.TokenFronts.{front_of_atom, front_of_unsupported, none_begun}
use Rattle.edn_model.proofs.OneForm.{begins_atom, atom_bytes, atom_first, token_stops, not_true}
use Rattle.edn_model.proofs.OneInstant.{one_instant}
use Rattle.edn_model.proofs.OnePlace.{same_string, same_token, same_comment, comment_goes_on, first_here, one_uuid}
use Rattle.edn_model.proofs.OnePlace as place
use Rattle.edn_model.proofs.Fronts.{front, blank_front, closing_front, closes_closing, stands_front, character_front, atom_front}
use Rattle.edn_model.proofs.Fronts.{no_token_front, collection_front, discard_of}

-- ---- tokens, as the bytes that stand in them

digit_ascii : (b : ℕ) → is_digit b ≡ true → is_ascii b ≡ true
digit_ascii b h = grind (arith, nat_tests)

digits_utf8 : (n : ℕ) (digits : List ℕ) → IsDecimal n digits → IsUtf8 digits
digits_utf8 n digits h = ascii_utf8 digits (Each-weaken is_digit is_ascii digit_ascii digits h.each)

behind_one : (b : ℕ) (bytes : List ℕ) → IsUtf8 (b ∷ []) → IsUtf8 bytes → IsUtf8 (b ∷ bytes)
behind_one b bytes u v = IsUtf8-append (b ∷ []) bytes u v

numeral_utf8 : (z : ℤ) (token : List ℕ) → IsNumeral z token → IsUtf8 token
numeral_utf8 z token (unsigned {n = n} h e) = digits_utf8 n token h
numeral_utf8 z token (positive {n = n} {digits = digits} is h e) =
    subst IsUtf8 (sym is) (behind_one plus digits (ascii_utf8 (plus ∷ []) refl) (digits_utf8 n digits h))
numeral_utf8 z token (negative {n = n} {digits = digits} is h e) =
    subst IsUtf8 (sym is) (behind_one minus digits (ascii_utf8 (minus ∷ []) refl) (digits_utf8 n digits h))

pub atom_utf8 : (f : form.Form) (token : List ℕ) → IsAtom f token → IsUtf8 token
atom_utf8 form.nil token h = subst IsUtf8 (sym h) (ascii_utf8 (codes "nil") refl)
atom_utf8 (form.boolean true) token h = subst IsUtf8 (sym h) (ascii_utf8 (codes "true") refl)
atom_utf8 (form.boolean false) token h = subst IsUtf8 (sym h) (ascii_utf8 (codes "false") refl)
atom_utf8 (form.integer z) token h = numeral_utf8 z token h.0
atom_utf8 (form.symbol s) token h = subst IsUtf8 (sym h.0) h.1.0
atom_utf8 (form.keyword k) token h = subst IsUtf8 (sym h.0) (behind_one colon k (ascii_utf8 (colon ∷ []) refl) h.1.0)
atom_utf8 _ token h = absurd h

-- a token that stands whole
record Whole (here token rest : List ℕ) : Type 0 where
  is : here ≡ token ++ rest
  each : Each is_token_byte token
  utf8 : IsUtf8 token
  ends : TokenEnds rest

whole_atom : (f : form.Form) (here token rest : List ℕ) → IsAtom f token → here ≡ token ++ rest → TokenEnds rest → Whole here token rest
whole_atom f here token rest h is halts = record { is = is; each = atom_bytes f token h; utf8 = atom_utf8 f token h; ends = halts }

whole_inst : {here rest : List ℕ} → TagAt (codes "inst") here rest → Whole here (codes "#inst") rest
whole_inst t = record { is = t.is; each = refl; utf8 = ascii_utf8 (codes "#inst") refl; ends = t.ends }

whole_uuid : {here rest : List ℕ} → TagAt (codes "uuid") here rest → Whole here (codes "#uuid") rest
whole_uuid t = record { is = t.is; each = refl; utf8 = ascii_utf8 (codes "#uuid") refl; ends = t.ends }

whole_token : {here token rest : List ℕ} → TokenAt here token rest → TokenEnds rest → Whole here token rest
whole_token t halts = record { is = t.is; each = t.each; utf8 = t.utf8; ends = halts }

one_token : {here there a b x y : List ℕ} → Whole here a x → Whole there b y → here ≡ there → a ≡ b
one_token {a = a} {b = b} {x = x} {y = y} h k e =
    (one_run is_token_byte a b x y h.each k.each (token_stops x h.ends) (token_stops y k.ends) (sym h.is ∙ e ∙ k.is)).0

high_in_token : (b : ℕ) → 128 ≤ b → is_token_byte b ≡ true
high_in_token b h = grind (arith, nat_tests)

high_in_line : (b : ℕ) → 128 ≤ b → is_line_byte b ≡ true
high_in_line b h = grind (arith, nat_tests)

token_no_cut : {here there a b x y : List ℕ} → Whole here a x → TokenAt there b y → NoCharacter y → here ≡ there → ⊥
token_no_cut {a = a} {b = b} {x = x} {y = y} h k n e =
    no_cut is_token_byte high_in_token a x b y h.utf8 (token_stops x h.ends) k.each k.utf8 n (sym h.is ∙ e ∙ k.is)

comment_no_cut : {here there rest : List ℕ} (text place : List ℕ) → CommentAt here rest → there ≡ semicolon ∷ (text ++ place)
    → Each is_line_byte text → IsUtf8 text → NoCharacter place → here ≡ there → ⊥
comment_no_cut {rest = rest} text place c is each u n e =
    no_cut is_line_byte high_in_line c.text (line_feed ∷ rest) text place c.utf8 refl each u n (tails (sym c.is ∙ e ∙ is))

last_no_cut : {here there : List ℕ} (text place : List ℕ) → LastComment here → there ≡ semicolon ∷ (text ++ place) → Each is_line_byte text
    → IsUtf8 text → NoCharacter place → here ≡ there → ⊥
last_no_cut text place c is each u n e =
    no_cut is_line_byte high_in_line c.text [] text place c.utf8 tt each u n (append-nil c.text ∙ tails (sym c.is ∙ e ∙ is))

-- ---- what is at fault, is so in one way

abbrev stuck_front : {opens : List Open} {why : Fault} {here place : List ℕ} → Stuck opens here why place → ℕ
stuck_front ends = 0
stuck_front (closes_nothing c n) = 3
stuck_front (no_string {here = here} w b) = front here
stuck_front (deep_collection w r o) = 5
stuck_front (deep_discard r o) = 8
stuck_front (no_token w b) = 10
stuck_front (bad_character w b t n) = 10
stuck_front (bad_token w t e s n) = 10
stuck_front (unsupported_token w t e u) = 10
stuck_front (in_string f) = 4
stuck_front (in_comment e u n) = 2
stuck_front (no_instant h n) = 4
stuck_front (no_uuid h n) = 4

some_token : (token : List ℕ) → 0 < length token → token ≢ []
some_token token h e = let none = ap length e in omega arith

stuck_front_is : {opens : List Open} {why : Fault} {here place : List ℕ} (k : Stuck opens here why place) → front here ≡ stuck_front k
stuck_front_is ends = refl
stuck_front_is (closes_nothing {b = b} {rest = rest} c n) = closing_front b rest c
stuck_front_is (no_string w b) = refl
stuck_front_is (deep_collection {here = here} w r o) = collection_front here o
stuck_front_is (deep_discard {here = here} r o) = ap front (discard_of here o).is
stuck_front_is (no_token {here = here} w b) = no_token_front here b
stuck_front_is (bad_character {here = here} {token = token} {rest = rest} w b t n) = character_front here token rest t n
stuck_front_is (bad_token {here = here} {token = token} {rest = rest} w t e s n) = stands_front here token rest t (some_token token s)
stuck_front_is (unsupported_token {what = what} {here = here} {token = token} {rest = rest} w t e u) =
    stands_front here token rest t (λ i. unsupported_some what token u i)
stuck_front_is (in_string f) = refl
stuck_front_is (in_comment e u n) = refl
stuck_front_is (no_instant h n) = ap front h.opens
stuck_front_is (no_uuid h n) = ap front h.opens

stuck_apart : {opens other : List Open} {why reason : Fault} {here there place at : List ℕ} (k : Stuck opens here why place)
    (l : Stuck other there reason at)
    → here ≡ there → stuck_front k ≡ stuck_front l
stuck_apart k l e = sym (stuck_front_is k) ∙ ap front e ∙ stuck_front_is l

-- where a string is wanted, and where none is
wants_apart : (opens other : List Open) → wants_string opens ≡ true → wants_string other ≡ false → opens ≡ other → ⊥
wants_apart opens other h k e = let same : wants_string opens ≡ wants_string other = ap wants_string e in cc

-- what a begun string is not
no_string_at : (here there : List ℕ) → begins_no_string here ≡ true → here ≡ there → begins_no_string there ≡ false → ⊥
no_string_at here there h e k = let same : begins_no_string here ≡ begins_no_string there = ap begins_no_string e in cc

-- no token begins here, and one may
begins_apart : (here there : List ℕ) → begins_no_token here ≡ true → begins_no_token there ≡ false → here ≡ there → ⊥
begins_apart here there h k e = let same : begins_no_token here ≡ begins_no_token there = ap begins_no_token e in cc

-- what is unsupported begins with a byte with which tokens do
unsupported_begun : {here there : List ℕ} (what : What) (token rest : List ℕ) → begins_no_token here ≡ true → IsUnsupported what token
    → there ≡ token ++ rest → here ≡ there → ⊥
unsupported_begun {here = here} what token rest none h is e = none_begun here token rest (front_of_unsupported what token h) (e ∙ is) none

same_place : {why : Fault} {x y : List ℕ} → x ≡ y → SameFault why why x y
same_place e = record { fault = refl; place = e }

one_stuck : {opens other : List Open} {why reason : Fault} {here there place at : List ℕ} → Stuck opens here why place
    → Stuck other there reason at → opens ≡ other → here ≡ there → SameFault why reason place at
one_stuck ends ends o e = same_place refl
one_stuck ends (no_string w b) o e = absurd (no_string_at _ [] b (sym e) refl)
one_stuck (ends {inner = inner} {outer = outer}) l o e =
    absurd (let same = stuck_apart (ends {inner = inner} {outer = outer}) l e in omega arith)
one_stuck (closes_nothing c n) (closes_nothing d m) o e = same_place e
one_stuck (closes_nothing c n) (no_string w b) o e = same_place e
one_stuck {opens = opens} (closes_nothing c n) l o e =
    absurd (let same = stuck_apart {opens = opens} (closes_nothing c n) l e in omega arith)
one_stuck (no_string w b) ends o e = absurd (no_string_at _ [] b e refl)
one_stuck (no_string w b) (closes_nothing d m) o e = same_place e
one_stuck (no_string w b) (no_string v c) o e = same_place e
one_stuck {opens = opens} {other = other} (no_string w b) (deep_collection v r p) o e = absurd (wants_apart opens other w v o)
one_stuck (no_string {here = here} w b) (deep_discard {here = there} r p) o e =
    absurd (no_string_at here _ b (e ∙ (discard_of there p).is) refl)
one_stuck {opens = opens} {other = other} (no_string w b) (no_token v c) o e = absurd (wants_apart opens other w v o)
one_stuck {opens = opens} {other = other} (no_string w b) (bad_character v c t n) o e = absurd (wants_apart opens other w v o)
one_stuck {opens = opens} {other = other} (no_string w b) (bad_token v t i s n) o e = absurd (wants_apart opens other w v o)
one_stuck {opens = opens} {other = other} (no_string w b) (unsupported_token v t i u) o e = absurd (wants_apart opens other w v o)
one_stuck (no_string {here = here} w b) (in_string {bytes = bytes} f) o e = absurd (no_string_at here (quote ∷ bytes) b e refl)
one_stuck (no_string {here = here} w b) (in_comment {text = text} {place = place} i u n) o e =
    absurd (no_string_at here (semicolon ∷ (text ++ place)) b e refl)
one_stuck (no_string {here = here} w b) (no_instant h n) o e = absurd (no_string_at here (quote ∷ h.inside) b (e ∙ h.opens) refl)
one_stuck (no_string {here = here} w b) (no_uuid h n) o e = absurd (no_string_at here (quote ∷ h.inside) b (e ∙ h.opens) refl)
one_stuck {opens = opens} {other = other} (deep_collection w r p) (no_string v b) o e = absurd (wants_apart other opens v w (sym o))
one_stuck (deep_collection w r p) (deep_collection v s q) o e = same_place e
one_stuck {opens = opens} (deep_collection w r p) l o e =
    absurd (let same = stuck_apart {opens = opens} (deep_collection w r p) l e in omega arith)
one_stuck (deep_discard {here = here} r p) (no_string {here = there} v b) o e =
    absurd (no_string_at there _ b (sym e ∙ (discard_of here p).is) refl)
one_stuck (deep_discard r p) (deep_discard s q) o e = same_place e
one_stuck {opens = opens} (deep_discard r p) l o e = absurd (let same = stuck_apart {opens = opens} (deep_discard r p) l e in omega arith)
one_stuck {opens = opens} {other = other} (no_token w c) (no_string v b) o e = absurd (wants_apart other opens v w (sym o))
one_stuck (no_token w c) (no_token v d) o e = same_place e
one_stuck (no_token {here = here} w c) (bad_character {here = there} v d t n) o e = absurd (begins_apart here there c d e)
one_stuck (no_token w c) (bad_token v t i s n) o e = same_place e
one_stuck (no_token w c) (unsupported_token {what = what} {token = token} {rest = rest} v t i u) o e =
    absurd (unsupported_begun what token rest c u t.is e)
one_stuck {opens = opens} (no_token w c) l o e = absurd (let same = stuck_apart {opens = opens} (no_token w c) l e in omega arith)
one_stuck {opens = opens} {other = other} (bad_character w c t n) (no_string v b) o e = absurd (wants_apart other opens v w (sym o))
one_stuck (bad_character {here = here} w c t n) (no_token {here = there} v d) o e = absurd (begins_apart there here d c (sym e))
one_stuck (bad_character {token = a} {rest = x} w c t n) (bad_character {token = b} {rest = y} v d u m) o e =
    same_place (one_cut a x b y t.utf8 u.utf8 n m (sym t.is ∙ e ∙ u.is))
one_stuck (bad_character w c t n) (bad_token v u i s m) o e = absurd (token_no_cut (whole_token u i) t n (sym e))
one_stuck (bad_character w c t n) (unsupported_token v u i s) o e = absurd (token_no_cut (whole_token u i) t n (sym e))
one_stuck {opens = opens} (bad_character w c t n) l o e =
    absurd (let same = stuck_apart {opens = opens} (bad_character w c t n) l e in omega arith)
one_stuck {opens = opens} {other = other} (bad_token w t i s n) (no_string v b) o e = absurd (wants_apart other opens v w (sym o))
one_stuck (bad_token w t i s n) (no_token v c) o e = same_place e
one_stuck (bad_token w t i s n) (bad_character v c u m) o e = absurd (token_no_cut (whole_token t i) u m e)
one_stuck (bad_token w t i s n) (bad_token v u j r m) o e = same_place e
one_stuck (bad_token w t i s n) (unsupported_token {what = what} v u j r) o e =
    absurd (n.supported what (subst (IsUnsupported what) (sym (one_token (whole_token t i) (whole_token u j) e)) r))
one_stuck {opens = opens} (bad_token w t i s n) l o e =
    absurd (let same = stuck_apart {opens = opens} (bad_token w t i s n) l e in omega arith)
one_stuck {opens = opens} {other = other} (unsupported_token w t i s) (no_string v b) o e = absurd (wants_apart other opens v w (sym o))
one_stuck (unsupported_token {what = what} {token = token} {rest = rest} w t i u) (no_token v c) o e =
    absurd (unsupported_begun what token rest c u t.is (sym e))
one_stuck (unsupported_token w t i s) (bad_character v c u m) o e = absurd (token_no_cut (whole_token t i) u m e)
one_stuck (unsupported_token {what = what} w t i s) (bad_token v u j r m) o e =
    absurd (m.supported what (subst (IsUnsupported what) (one_token (whole_token t i) (whole_token u j) e) s))
one_stuck (unsupported_token {what = a} w t i s) (unsupported_token {what = b} {token = token} v u j r) o e =
    record {
      fault = ap unsupported (one_what a b token (subst (IsUnsupported a) (one_token (whole_token t i) (whole_token u j) e) s) r);
      place = e;
    }
one_stuck {opens = opens} (unsupported_token w t i s) l o e =
    absurd (let same = stuck_apart {opens = opens} (unsupported_token w t i s) l e in omega arith)
one_stuck (in_string {bytes = bytes} f) (no_string {here = there} v b) o e = absurd (no_string_at there (quote ∷ bytes) b (sym e) refl)
one_stuck (in_string f) (in_string g) o e = one_string_fault f g (tails e)
one_stuck (in_string f) (no_instant h n) o e = absurd (string_or_fault h f (sym e))
one_stuck (in_string f) (no_uuid h n) o e = absurd (string_or_fault h f (sym e))
one_stuck {opens = opens} (in_string f) l o e = absurd (let same = stuck_apart {opens = opens} (in_string f) l e in omega arith)
one_stuck (in_comment {text = text} {place = place} i u n) (no_string {here = there} v b) o e =
    absurd (no_string_at there (semicolon ∷ (text ++ place)) b (sym e) refl)
one_stuck (in_comment {text = a} {place = x} i u n) (in_comment {text = b} {place = y} j v m) o e =
    same_place (one_cut a x b y u v n m (tails e))
one_stuck {opens = opens} (in_comment {text = text} {place = place} i u n) l o e =
    absurd (let same = stuck_apart {opens = opens} (in_comment {text = text} {place = place} i u n) l e in omega arith)
one_stuck (no_instant h n) (no_string {here = there} v b) o e = absurd (no_string_at there (quote ∷ h.inside) b (sym e ∙ h.opens) refl)
one_stuck (no_instant h n) (in_string g) o e = absurd (string_or_fault h g e)
one_stuck (no_instant h n) (no_instant k m) o e = same_place e
one_stuck (no_instant h n) (no_uuid k m) o e = same_place e
one_stuck {opens = opens} (no_instant {outer = outer} h n) l o e =
    absurd (let same = stuck_apart (no_instant {outer = outer} h n) l e in omega arith)
one_stuck (no_uuid h n) (no_string {here = there} v b) o e = absurd (no_string_at there (quote ∷ h.inside) b (sym e ∙ h.opens) refl)
one_stuck (no_uuid h n) (in_string g) o e = absurd (string_or_fault h g e)
one_stuck (no_uuid h n) (no_instant k m) o e = same_place e
one_stuck (no_uuid h n) (no_uuid k m) o e = same_place e
one_stuck {opens = opens} (no_uuid {outer = outer} h n) l o e =
    absurd (let same = stuck_apart (no_uuid {outer = outer} h n) l e in omega arith)

-- ---- steps

abbrev left : State → List ℕ
left (going frames here) = here
left (ended outcome) = []

abbrev step_front : {s t : State} → Step s t → ℕ
step_front (blank e p) = 1
step_front (comment c) = 2
step_front (last_comment c) = 2
step_front (discard e r) = 8
step_front (list e f r) = 5
step_front (vector e f r) = 5
step_front (map e f r) = 5
step_front (set e f r) = 5
step_front (inst t f) = 10
step_front (uuid t f) = 10
step_front (atom f token rest h is stops free) = 10
step_front (string h f) = 4
step_front (close e h) = 3
step_front (instant h i) = 4
step_front (identifier h i) = 4
step_front (stuck k) = stuck_front k
step_front end = 0

step_front_is : {s t : State} (x : Step s t) → front (left s) ≡ step_front x
step_front_is (blank {b = b} {rest = rest} e p) = ap front e ∙ blank_front b rest p
step_front_is (comment c) = ap front c.is
step_front_is (last_comment c) = ap front c.is
step_front_is (discard e r) = ap front e
step_front_is (list e f r) = ap front e
step_front_is (vector e f r) = ap front e
step_front_is (map e f r) = ap front e
step_front_is (set e f r) = ap front e
step_front_is (inst t f) = ap front t.is
step_front_is (uuid t f) = ap front t.is
step_front_is (atom {here = here} f token rest h is stops free) = atom_front f here token rest h is
step_front_is (string h f) = ap front h.opens
step_front_is (close {inner = inner} {outer = outer} {b = b} {rest = rest} e h) =
    ap front e ∙ closing_front b rest (closes_closing inner (opens_of outer) b h)
step_front_is (instant h i) = ap front h.opens
step_front_is (identifier h i) = ap front h.opens
step_front_is (stuck k) = stuck_front_is k
step_front_is end = refl

apart : {s t u : State} (x : Step s t) (y : Step s u) → step_front x ≡ step_front y
apart x y = sym (step_front_is x) ∙ step_front_is y

fault_apart : {opens : List Open} {frames : Frames} {why : Fault} {here there place : List ℕ} {t : State} (k : Stuck opens here why place)
    (y : Step (going frames there) t)
    → here ≡ there → stuck_front k ≡ step_front y
fault_apart k y e = sym (stuck_front_is k) ∙ ap front e ∙ step_front_is y

tag_no_close : (inner : Open) (outer : List Open) (b : ℕ) → wants_string (inner ∷ outer) ≡ true → closes (inner ∷ outer) b ≡ true → ⊥
tag_no_close (in_list fs) outer b h k = cc
tag_no_close (in_vector fs) outer b h k = cc
tag_no_close (in_map ps) outer b h k = cc
tag_no_close (in_set fs) outer b h k = cc
tag_no_close (behind_key ps f) outer b h k = cc
tag_no_close behind_discard outer b h k = cc
tag_no_close behind_inst outer b h k = cc
tag_no_close behind_uuid outer b h k = cc

abbrev is_inst : List Open → Bool
is_inst (behind_inst ∷ outer) = true
is_inst _ = false

no_room : (opens other : List Open) → room opens ≡ 0 → 0 < room other → opens ≡ other → ⊥
no_room opens other none some e = let same = ap room e in omega arith

close_apart : (opens other : List Open) (b c : ℕ) → closes opens b ≡ false → closes other c ≡ true → opens ≡ other → b ≡ c → ⊥
close_apart opens other b c none some e i =
    let one : closes opens b ≡ closes other b = ap (λ z. closes z b) e in
    let two : closes other b ≡ closes other c = ap (closes other) i in cc

ended_same : {why reason : Fault} {place at : List ℕ} → SameFault why reason place at → ended (fault why place) ≡ ended (fault reason at)
ended_same {why = why} {reason = reason} {place = p} {at = q} s =
    ap (λ z. ended (fault z p)) s.fault ∙ ap (λ z. ended (fault reason z)) s.place

only_stuck : {opens : List Open} {frames : Frames} {why : Fault} {here there place : List ℕ} {t : State} → Stuck opens here why place
    → opens ≡ opens_of frames → here ≡ there → Step (going frames there) t → ended (fault why place) ≡ t
only_stuck k o e (stuck l) = ended_same (one_stuck k l o e)
only_stuck ends o e end = absurd (let wrong = o in cc)
only_stuck (ends {inner = inner} {outer = outer}) o e y =
    absurd (let same = fault_apart (ends {inner = inner} {outer = outer}) y e in omega arith)
only_stuck (closes_nothing {opens = opens} {b = b} c n) o e (close {inner = inner} {outer = outer} {b = d} i h) =
    absurd (close_apart opens (inner ∷ opens_of outer) b d n h o (heads (e ∙ i)))
only_stuck {opens = opens} (closes_nothing c n) o e y =
    absurd (let same = fault_apart {opens = opens} (closes_nothing c n) y e in omega arith)
only_stuck (no_string {here = here} w b) o e (blank {b = c} {rest = rest} i p) =
    absurd
    (let first = (both (not (is_blank c)) _ (sym (ap begins_no_string (e ∙ i)) ∙ b)).0 in let fails = not_true (is_blank c) first in cc)
only_stuck (no_string {here = here} w b) o e (comment {rest = rest} c) = absurd (no_string_at here _ b (e ∙ c.is) refl)
only_stuck (no_string {here = here} w b) o e (last_comment c) = absurd (no_string_at here _ b (e ∙ c.is) refl)
only_stuck (no_string {here = here} w b) o e (discard i r) = absurd (no_string_at here _ b (e ∙ i) refl)
only_stuck {frames = frames} (no_string {opens = opens} w b) o e (list i f r) = absurd (wants_apart opens (opens_of frames) w f o)
only_stuck {frames = frames} (no_string {opens = opens} w b) o e (vector i f r) = absurd (wants_apart opens (opens_of frames) w f o)
only_stuck {frames = frames} (no_string {opens = opens} w b) o e (map i f r) = absurd (wants_apart opens (opens_of frames) w f o)
only_stuck {frames = frames} (no_string {opens = opens} w b) o e (set i f r) = absurd (wants_apart opens (opens_of frames) w f o)
only_stuck {frames = frames} (no_string {opens = opens} w b) o e (inst i f) = absurd (wants_apart opens (opens_of frames) w f o)
only_stuck {frames = frames} (no_string {opens = opens} w b) o e (uuid i f) = absurd (wants_apart opens (opens_of frames) w f o)
only_stuck {frames = frames} (no_string {opens = opens} w b) o e (atom g token rest h is stops f) =
    absurd (wants_apart opens (opens_of frames) w f o)
only_stuck {frames = frames} (no_string {opens = opens} w b) o e (string h f) = absurd (wants_apart opens (opens_of frames) w f o)
only_stuck (no_string {opens = opens} w b) o e (close {inner = inner} {outer = outer} {b = c} i h) =
    absurd (tag_no_close inner (opens_of outer) c (sym (ap wants_string o) ∙ w) h)
only_stuck (no_string {here = here} w b) o e (instant h i) = absurd (no_string_at here _ b (e ∙ h.opens) refl)
only_stuck (no_string {here = here} w b) o e (identifier h i) = absurd (no_string_at here _ b (e ∙ h.opens) refl)
only_stuck (no_string {here = here} w b) o e end = absurd (no_string_at here [] b e refl)
only_stuck {frames = frames} (deep_collection {opens = opens} w r p) o e (list i f s) = absurd (no_room opens (opens_of frames) r s o)
only_stuck {frames = frames} (deep_collection {opens = opens} w r p) o e (vector i f s) = absurd (no_room opens (opens_of frames) r s o)
only_stuck {frames = frames} (deep_collection {opens = opens} w r p) o e (map i f s) = absurd (no_room opens (opens_of frames) r s o)
only_stuck {frames = frames} (deep_collection {opens = opens} w r p) o e (set i f s) = absurd (no_room opens (opens_of frames) r s o)
only_stuck {opens = opens} (deep_collection w r p) o e y =
    absurd (let same = fault_apart {opens = opens} (deep_collection w r p) y e in omega arith)
only_stuck {frames = frames} (deep_discard {opens = opens} r p) o e (discard i s) = absurd (no_room opens (opens_of frames) r s o)
only_stuck {opens = opens} (deep_discard r p) o e y = absurd (let same = fault_apart {opens = opens} (deep_discard r p) y e in omega arith)
only_stuck (no_token {here = here} w c) o e (inst i f) = absurd (begins_apart here _ c refl (e ∙ i.is))
only_stuck (no_token {here = here} w c) o e (uuid i f) = absurd (begins_apart here _ c refl (e ∙ i.is))
only_stuck (no_token {here = here} w c) o e (atom g token rest h is stops f) =
    absurd (none_begun here token rest (front_of_atom g token h) (e ∙ is) c)
only_stuck {opens = opens} (no_token w c) o e y = absurd (let same = fault_apart {opens = opens} (no_token w c) y e in omega arith)
only_stuck (bad_character w c t n) o e (inst i f) = absurd (token_no_cut (whole_inst i) t n (sym e))
only_stuck (bad_character w c t n) o e (uuid i f) = absurd (token_no_cut (whole_uuid i) t n (sym e))
only_stuck {there = there} (bad_character w c t n) o e (atom g token rest h is stops f) =
    absurd (token_no_cut (whole_atom g there token rest h is stops) t n (sym e))
only_stuck {opens = opens} (bad_character w c t n) o e y =
    absurd (let same = fault_apart {opens = opens} (bad_character w c t n) y e in omega arith)
only_stuck (bad_token w t i s n) o e (inst j f) = absurd (n.no_tag.0 (one_token (whole_token t i) (whole_inst j) e))
only_stuck (bad_token w t i s n) o e (uuid j f) = absurd (n.no_tag.1 (one_token (whole_token t i) (whole_uuid j) e))
only_stuck {there = there} (bad_token w t i s n) o e (atom g token rest h is stops f) =
    absurd (n.no_form g (subst (IsAtom g) (sym (one_token (whole_token t i) (whole_atom g there token rest h is stops) e)) h))
only_stuck {opens = opens} (bad_token w t i s n) o e y =
    absurd (let same = fault_apart {opens = opens} (bad_token w t i s n) y e in omega arith)
only_stuck (unsupported_token {what = what} {token = a} w t i s) o e (inst j f) =
    absurd (inst_supported what a s (one_token (whole_token t i) (whole_inst j) e))
only_stuck (unsupported_token {what = what} {token = a} w t i s) o e (uuid j f) =
    absurd (uuid_supported what a s (one_token (whole_token t i) (whole_uuid j) e))
only_stuck {there = there} (unsupported_token {what = what} w t i s) o e (atom g token rest h is stops f) =
    absurd (unsupported_no_atom what g token
    (subst (IsUnsupported what) (one_token (whole_token t i) (whole_atom g there token rest h is stops) e) s) h)
only_stuck {opens = opens} (unsupported_token w t i s) o e y =
    absurd (let same = fault_apart {opens = opens} (unsupported_token w t i s) y e in omega arith)
only_stuck (in_string f) o e (string h i) = absurd (string_or_fault h f (sym e))
only_stuck (in_string f) o e (instant h i) = absurd (string_or_fault h f (sym e))
only_stuck (in_string f) o e (identifier h i) = absurd (string_or_fault h f (sym e))
only_stuck {opens = opens} (in_string f) o e y = absurd (let same = fault_apart {opens = opens} (in_string f) y e in omega arith)
only_stuck (in_comment {text = text} {place = place} i u n) o e (comment c) = absurd (comment_no_cut text place c (sym e) i u n refl)
only_stuck (in_comment {text = text} {place = place} i u n) o e (last_comment c) = absurd (last_no_cut text place c (sym e) i u n refl)
only_stuck {opens = opens} (in_comment {text = text} {place = place} i u n) o e y =
    absurd (let same = fault_apart {opens = opens} (in_comment {text = text} {place = place} i u n) y e in omega arith)
only_stuck {frames = frames} (no_instant {outer = outer} h n) o e (string k f) =
    absurd (wants_apart (behind_inst ∷ outer) (opens_of frames) refl f o)
only_stuck (no_instant {s = s} h n) o e (instant {z = z} k i) = absurd (n z (subst (IsInstant z) (sym (same_string h k e).text) i))
only_stuck (no_instant h n) o e (identifier k i) = absurd (let wrong : true ≡ false = ap is_inst o in cc)
only_stuck (no_instant {outer = outer} h n) o e y = absurd (let same = fault_apart (no_instant {outer = outer} h n) y e in omega arith)
only_stuck {frames = frames} (no_uuid {outer = outer} h n) o e (string k f) =
    absurd (wants_apart (behind_uuid ∷ outer) (opens_of frames) refl f o)
only_stuck (no_uuid h n) o e (instant k i) = absurd (let wrong : false ≡ true = ap is_inst o in cc)
only_stuck (no_uuid {s = s} h n) o e (identifier {n = m} k i) = absurd (n m (subst (IsUuid m) (sym (same_string h k e).text) i))
only_stuck (no_uuid {outer = outer} h n) o e y = absurd (let same = fault_apart (no_uuid {outer = outer} h n) y e in omega arith)

-- ---- one step

atom_no_hash : (f : form.Form) (here token rest others : List ℕ) → IsAtom f token → here ≡ token ++ rest → here ≡ hash ∷ others → ⊥
atom_no_hash f here token rest others h is e =
    let a = atom_first f token h in
    let same : begins_atom a.first ≡ begins_atom hash =
    ap begins_atom (heads (sym (first_here token rest here a.others a.first is a.is) ∙ e)) in
    let passes = a.passes in cc

same_landing : (frames : Frames) (f g : form.Form) (at r u : List ℕ) → f ≡ g → r ≡ u → land frames f at r ≡ land frames g at u
same_landing frames f g at r u e i = ap (λ z. land frames z at r) e ∙ ap (land frames g at) i

pub one_step : {s t u : State} → Step s t → Step s u → t ≡ u
one_step (stuck k) y = only_stuck k refl refl y
one_step x (stuck k) = sym (only_stuck k refl refl x)
one_step (blank {frames = frames} e p) (blank i q) = ap (going frames) (tails (sym e ∙ i))
one_step (blank e p) y = absurd (let same = apart (blank e p) y in omega arith)
one_step (comment {frames = frames} c) (comment d) = ap (going frames) (same_comment c d refl)
one_step (comment c) (last_comment d) = absurd (comment_goes_on c d refl)
one_step (comment c) y = absurd (let same = apart (comment c) y in omega arith)
one_step (last_comment c) (comment d) = absurd (comment_goes_on d c refl)
one_step (last_comment c) (last_comment d) = refl
one_step (last_comment c) y = absurd (let same = apart (last_comment c) y in omega arith)
one_step (discard {frames = frames} {here = here} e r) (discard i s) =
    ap (going (frame behind_discard here frames)) (tails (tails (sym e ∙ i)))
one_step (discard e r) y = absurd (let same = apart (discard e r) y in omega arith)
one_step (list {frames = frames} {here = here} e f r) (list i g s) =
    ap (going (frame (in_list form.no_forms) here frames)) (tails (sym e ∙ i))
one_step (list e f r) (vector i g s) = absurd (let wrong = heads (sym e ∙ i) in omega arith)
one_step (list e f r) (map i g s) = absurd (let wrong = heads (sym e ∙ i) in omega arith)
one_step (list e f r) (set i g s) = absurd (let wrong = heads (sym e ∙ i) in omega arith)
one_step (list e f r) y = absurd (let same = apart (list e f r) y in omega arith)
one_step (vector e f r) (list i g s) = absurd (let wrong = heads (sym e ∙ i) in omega arith)
one_step (vector {frames = frames} {here = here} e f r) (vector i g s) =
    ap (going (frame (in_vector form.no_forms) here frames)) (tails (sym e ∙ i))
one_step (vector e f r) (map i g s) = absurd (let wrong = heads (sym e ∙ i) in omega arith)
one_step (vector e f r) (set i g s) = absurd (let wrong = heads (sym e ∙ i) in omega arith)
one_step (vector e f r) y = absurd (let same = apart (vector e f r) y in omega arith)
one_step (map e f r) (list i g s) = absurd (let wrong = heads (sym e ∙ i) in omega arith)
one_step (map e f r) (vector i g s) = absurd (let wrong = heads (sym e ∙ i) in omega arith)
one_step (map {frames = frames} {here = here} e f r) (map i g s) = ap (going (frame (in_map form.no_pairs) here frames)) (tails (sym e ∙ i))
one_step (map e f r) (set i g s) = absurd (let wrong = heads (sym e ∙ i) in omega arith)
one_step (map e f r) y = absurd (let same = apart (map e f r) y in omega arith)
one_step (set e f r) (list i g s) = absurd (let wrong = heads (sym e ∙ i) in omega arith)
one_step (set e f r) (vector i g s) = absurd (let wrong = heads (sym e ∙ i) in omega arith)
one_step (set e f r) (map i g s) = absurd (let wrong = heads (sym e ∙ i) in omega arith)
one_step (set {frames = frames} {here = here} e f r) (set i g s) =
    ap (going (frame (in_set form.no_forms) here frames)) (tails (tails (sym e ∙ i)))
one_step (set e f r) y = absurd (let same = apart (set e f r) y in omega arith)
one_step (inst {frames = frames} {here = here} t f) (inst v g) =
    ap (going (frame behind_inst here frames)) (place.behind_inst _ _ (sym t.is ∙ v.is))
one_step (inst t f) (uuid v g) = absurd (let wrong = heads (tails (sym t.is ∙ v.is)) in omega arith)
one_step (inst {here = here} t f) (atom g token rest h is stops free) = absurd (atom_no_hash g here token rest _ h is t.is)
one_step (inst t f) y = absurd (let same = apart (inst t f) y in omega arith)
one_step (uuid t f) (inst v g) = absurd (let wrong = heads (tails (sym t.is ∙ v.is)) in omega arith)
one_step (uuid {frames = frames} {here = here} t f) (uuid v g) =
    ap (going (frame behind_uuid here frames)) (place.behind_uuid _ _ (sym t.is ∙ v.is))
one_step (uuid {here = here} t f) (atom g token rest h is stops free) = absurd (atom_no_hash g here token rest _ h is t.is)
one_step (uuid t f) y = absurd (let same = apart (uuid t f) y in omega arith)
one_step (atom {here = here} g token rest h is stops free) (inst t f) = absurd (atom_no_hash g here token rest _ h is t.is)
one_step (atom {here = here} g token rest h is stops free) (uuid t f) = absurd (atom_no_hash g here token rest _ h is t.is)
one_step (atom {frames = frames} {here = here} f a r h is stops free) (atom g b u k js halts loose) =
    let same = same_token f g a b r u h k stops halts (sym is ∙ js) in
    same_landing frames f g here r u same.same same.rest
one_step (atom f a r h is stops free) y = absurd (let same = apart (atom f a r h is stops free) y in omega arith)
one_step (string {frames = frames} {s = s} {here = here} {rest = r} h f) (string {s = t} {rest = u} k g) =
    let same = same_string h k refl in
    same_landing frames (form.string s) (form.string t) here r u (ap form.string same.text) same.rest
one_step (string h f) (instant k i) = absurd (let wrong : true ≡ false = f in cc)
one_step (string h f) (identifier k i) = absurd (let wrong : true ≡ false = f in cc)
one_step (string h f) y = absurd (let same = apart (string h f) y in omega arith)
one_step (close {inner = inner} {outer = outer} {at = at} e h) (close i k) = ap (land outer (closed inner) at) (tails (sym e ∙ i))
one_step (close e h) y = absurd (let same = apart (close e h) y in omega arith)
one_step (instant h i) (string k f) = absurd (let wrong : true ≡ false = f in cc)
one_step (instant {outer = outer} {z = z} {s = s} {at = at} {rest = r} h i) (instant {z = w} {s = t} {rest = u} k j) =
    let same = same_string h k refl in
    same_landing outer (form.instant z) (form.instant w) at r u
    (ap form.instant (one_instant z w s i (subst (IsInstant w) (sym same.text) j))) same.rest
one_step (instant h i) y = absurd (let same = apart (instant h i) y in omega arith)
one_step (identifier h i) (string k f) = absurd (let wrong : true ≡ false = f in cc)
one_step (identifier {outer = outer} {n = m} {s = s} {at = at} {rest = r} h i) (identifier {n = n} {s = t} {rest = u} k j) =
    let same = same_string h k refl in
    same_landing outer (form.uuid m) (form.uuid n) at r u (ap form.uuid (one_uuid m n s t i j same.text)) same.rest
one_step (identifier h i) y = absurd (let same = apart (identifier h i) y in omega arith)
one_step end end = refl
one_step end y = absurd (let same = apart end y in omega arith)
