-- A string spells one text, up to its quote or to its fault.
use Rattle.std.proofs.Common.{◌≡◌, ℕ, ◌+◌, ◌/◌, ◌<◌, ◌≤◌, Bool, true, false, cond, nat_le, nat_lt, ltb, ltb-true, List, [], ◌∷◌, ◌++◌}
use Rattle.std.proofs.Common.{length, refl, ap, ◌∙◌, sym, subst, arith, Some, None, append_assoc}
use Rattle.std.proofs.lemmas.Bool.Decides.{nat_tests}
use Rattle.std.specs.Prelude.{IsUtf8, encode_utf8, encode_utf8_all, ◌&&◌, if◌then◌else◌}
use Rattle.std.specs.Char.{IsScalar}
use Rattle.std.specs.Str.{StartsWithNoChar}
use lib.Utf8.{scalar, scalars, next, encode}
use Rattle.edn_model.specs.Bytes.{quote, backslash, Each, NoCharacter}
use Rattle.edn_model.specs.Tokens.{IsCode, is_hex_digit, escape_of, Spells, nothing, plain, escape, code, StringAt}
use Rattle.edn_model.specs.Faults.{Fault, bad, cut, IsBadEscape, unknown, no_digit, surrogate, IsCutEscape, no_letter, few_digits}
use Rattle.edn_model.specs.Faults.{StringFault, no_quote, cut_escape, bad_escape, no_character}
use Rattle.edn_model.proofs.Runs.{heads, tails, both, Each-tail, both_true}
use Rattle.edn_model.proofs.Utf8.{same_cons, utf8_behind, no_character_high}
use Rattle.edn_model.proofs.OnePlace.{plain_is_none, plain_no_escape, quote_no_escape, no_code_letter, same_code}

-- ---- the bytes of a character

-- stands in a character behind its first byte
abbrev pub is_follower : ℕ → Bool
is_follower b = nat_le 128 b && nat_lt b 192

follower : (b : ℕ) → 128 ≤ b → b < 192 → is_follower b ≡ true
follower b low high = grind (arith, nat_tests)

next_follows : (x : ℕ) → is_follower (next x) ≡ true
next_follows x = follower (next x) (omega arith) (omega arith)

pub follows_low : (b : ℕ) → is_follower b ≡ true → 128 ≤ b
follows_low b h = grind (arith, nat_tests)

follows_high : (b : ℕ) → is_follower b ≡ true → b < 192
follows_high b h = grind (arith, nat_tests)

pub data CharBytes (bytes : List ℕ) : Type 0 where
  single : (a : ℕ) → bytes ≡ a ∷ [] → a < 128 → CharBytes bytes
  several : (a : ℕ) (others : List ℕ) → bytes ≡ a ∷ others → 192 ≤ a → Each is_follower others → CharBytes bytes

char_pick : (p q r : Bool) (c : ℕ) → (p ≡ true → c < 128)
    → CharBytes (cond p (c ∷ []) (cond q ((192 + c / 64) ∷ next c ∷ [])
    (cond r ((224 + c / 4096) ∷ next (c / 64) ∷ next c ∷ []) ((240 + c / 262144) ∷ next (c / 4096) ∷ next (c / 64) ∷ next c ∷ []))))
char_pick true q r c h = single c refl (h refl)
char_pick false true r c h =
    several (192 + c / 64) (next c ∷ []) refl (omega arith) (both_true (is_follower (next c)) true (next_follows c) refl)
char_pick false false true c h =
    several (224 + c / 4096) (next (c / 64) ∷ next c ∷ []) refl (omega arith)
    (both_true (is_follower (next (c / 64))) _ (next_follows (c / 64)) (both_true (is_follower (next c)) true (next_follows c) refl))
char_pick false false false c h =
    several (240 + c / 262144) (next (c / 4096) ∷ next (c / 64) ∷ next c ∷ []) refl (omega arith)
    (both_true (is_follower (next (c / 4096))) _ (next_follows (c / 4096))
    (both_true (is_follower (next (c / 64))) _ (next_follows (c / 64)) (both_true (is_follower (next c)) true (next_follows c) refl)))

pub char_bytes : (c : ℕ) → CharBytes (encode_utf8 c)
unfolding encode
char_bytes c = char_pick (ltb c 128) (ltb c 2048) (ltb c 65536) c (λ e. ltb-true c 128 e)

some_same : {a b : ℕ} → Some a ≡ Some b → a ≡ b
some_same e = cc

one_of_seven : (p q r s t u v : Bool) (e : ℕ)
    → (if p then Some 9 else (if q then Some 13 else
    (if r then Some 10 else (if s then Some 92 else (if t then Some 34 else (if u then Some 8 else (if v then Some 12 else None)))))))
    ≡ Some e
    → e < 128
one_of_seven true q r s t u v e h = let is = some_same h in omega arith
one_of_seven false true r s t u v e h = let is = some_same h in omega arith
one_of_seven false false true s t u v e h = let is = some_same h in omega arith
one_of_seven false false false true t u v e h = let is = some_same h in omega arith
one_of_seven false false false false true u v e h = let is = some_same h in omega arith
one_of_seven false false false false false true v e h = let is = some_same h in omega arith
one_of_seven false false false false false false true e h = let is = some_same h in omega arith
one_of_seven false false false false false false false e h = cc

pub escape_low : (b e : ℕ) → escape_of b ≡ Some e → e < 128
escape_low b e h = one_of_seven _ _ _ _ _ _ _ e h

no_follower_first : (bytes text others : List ℕ) (b : ℕ) → CharBytes bytes → b ∷ others ≡ bytes ++ text → is_follower b ≡ true → ⊥
no_follower_first bytes text others b (single a is low) e h =
    let same : b ≡ a = heads (e ∙ ap (λ z. z ++ text) is) in let high = follows_low b h in omega arith
no_follower_first bytes text others b (several a rest is high each) e h =
    let same : b ≡ a = heads (e ∙ ap (λ z. z ++ text) is) in let low = follows_high b h in omega arith

-- ---- where nothing more is spelled

-- the bytes behind a character's first one stand for themselves
record Front (front bytes : List ℕ) : Type 0 where
  behind : List ℕ
  is : bytes ≡ front ++ behind

followers_stand : {here text rest : List ℕ} → Spells here text rest → (front others : List ℕ) → text ≡ front ++ others
    → Each is_follower front → Front front here
followers_stand {here = here} s [] others e each = record { behind = here; is = refl }
followers_stand nothing (b ∷ front) others e each = absurd (let wrong : [] ≡ b ∷ (front ++ others) = e in cc)
followers_stand (plain {b = c} {here = here} p s) (b ∷ front) others e each =
    let found = followers_stand s front others (tails e) (Each-tail is_follower b front each).1 in
    record { behind = found.behind; is = same_cons (heads e) found.is }
followers_stand (escape {b = l} {e = c} is p s) (b ∷ front) others e each =
    absurd (let same : c ≡ b = heads e in let low = escape_low l c p in let high = follows_low b (Each-tail is_follower b front each).0 in
    omega arith)
followers_stand (code {a = p} {b = q} {c = r} {d = t} {n = n} {text = text} is h s all) (b ∷ front) others e each =
    absurd (no_follower_first (encode_utf8 n) text (front ++ others) b (char_bytes n) (sym e ∙ all) (Each-tail is_follower b front each).0)

no_text_here : (here text rest others : List ℕ) (c b : ℕ) → Spells here text rest → IsScalar c → CharBytes (encode_utf8 c)
    → b ∷ text ≡ encode_utf8 c ++ others → 128 ≤ b → StartsWithNoChar (b ∷ here) → ⊥
no_text_here here text rest others c b s scalar (single a is low) e high none =
    let same : b ≡ a = heads (e ∙ ap (λ z. z ++ others) is) in omega arith
no_text_here here text rest others c b s scalar (several a front is big each) e high none =
    let found = followers_stand s front others (tails (e ∙ ap (λ z. z ++ others) is)) each in
    none c found.behind scalar (same_cons (heads (e ∙ ap (λ z. z ++ others) is)) found.is ∙ ap (λ z. z ++ found.behind) (sym is))

text_there : (here text rest cs : List ℕ) (b : ℕ) → Spells here text rest → scalars cs ≡ true → encode_utf8_all cs ≡ b ∷ text → 128 ≤ b
    → StartsWithNoChar (b ∷ here) → ⊥
text_there here text rest [] b s h e high none = let wrong : [] ≡ b ∷ text = e in cc
text_there here text rest (c ∷ cs) b s h e high none =
    let scalar : IsScalar c = (both (scalar c) (scalars cs) h).0 in
    no_text_here here text rest (encode_utf8_all cs) c b s scalar (char_bytes c) (sym e) high none

-- nothing more is spelled from here on
abbrev pub Halts : List ℕ → Type 0
Halts here = (text rest : List ℕ) → IsUtf8 text → Spells here text rest → here ≡ rest

none_spelled : {here text rest : List ℕ} → Spells here text rest → IsUtf8 text → NoCharacter here → here ≡ rest
none_spelled nothing u none = refl
none_spelled (plain {b = b} {here = here} {text = text} {rest = rest} p s) u none =
    absurd (text_there here text rest u.0 b s u.1.0 u.1.1 (no_character_high b here none) none)
none_spelled {here = here} (escape {b = b} {after = after} is p s) u none =
    absurd (let high = no_character_high backslash (b ∷ after) (subst NoCharacter is none) in omega arith)
none_spelled (code {a = a} {b = b} {c = c} {d = d} {after = after} is h s all) u none =
    absurd (let high = no_character_high backslash (117 ∷ a ∷ b ∷ c ∷ d ∷ after) (subst NoCharacter is none) in omega arith)

pub halts_none : (here : List ℕ) → NoCharacter here → Halts here
halts_none here none = λ text rest u s. none_spelled s u none

quote_spelled : {here text rest : List ℕ} → Spells here text rest → (x : List ℕ) → here ≡ quote ∷ x → here ≡ rest
quote_spelled nothing x e = refl
quote_spelled (plain {b = b} {here = here} p s) x e = absurd (plain_is_none b here x p e)
quote_spelled {here = here} (escape {b = b} {after = after} is p s) x e = absurd (quote_no_escape here x (b ∷ after) e is)
quote_spelled {here = here} (code is h s all) x e = absurd (quote_no_escape here x _ e is)

pub halts_quote : (x : List ℕ) → Halts (quote ∷ x)
halts_quote x = λ text rest u s. quote_spelled s x refl

end_spelled : {here text rest : List ℕ} → Spells here text rest → here ≡ [] → here ≡ rest
end_spelled nothing e = refl
end_spelled (plain p s) e = absurd (let wrong = e in cc)
end_spelled (escape is p s) e = absurd (let wrong = sym is ∙ e in cc)
end_spelled (code is h s all) e = absurd (let wrong = sym is ∙ e in cc)

pub halts_end : Halts []
halts_end = λ text rest u s. end_spelled s refl

-- ---- escapes at fault

letter_no_bad : (b e : ℕ) (after : List ℕ) (more : List ℕ) → escape_of b ≡ Some e → IsBadEscape more → more ≡ b ∷ after → ⊥
letter_no_bad b e after more h (unknown {b = c} none other) i =
    let same : escape_of c ≡ escape_of b = ap escape_of (heads i) in cc
letter_no_bad b e after more h (no_digit digits c rest is few each none) i = no_code_letter b e h (heads (sym i ∙ is))
letter_no_bad b e after more h (surrogate is each none) i = no_code_letter b e h (heads (sym i ∙ is))

letter_no_cut : (b e : ℕ) (after : List ℕ) (more : List ℕ) → escape_of b ≡ Some e → IsCutEscape more → more ≡ b ∷ after → ⊥
letter_no_cut b e after more h no_letter i = let wrong = i in cc
letter_no_cut b e after more h (few_digits few each) i = no_code_letter b e h (heads (sym i))

four_digits : (digits more after : List ℕ) (a b c d e : ℕ) → digits ++ e ∷ more ≡ a ∷ b ∷ c ∷ d ∷ after → length digits < 4
    → Each is_hex_digit (a ∷ b ∷ c ∷ d ∷ []) → is_hex_digit e ≡ false → ⊥
four_digits [] more after a b c d e i few each none =
    let same : is_hex_digit e ≡ is_hex_digit a = ap is_hex_digit (heads i) in
    let yes = (Each-tail is_hex_digit a (b ∷ c ∷ d ∷ []) each).0 in cc
four_digits (p ∷ []) more after a b c d e i few each none =
    let same : is_hex_digit e ≡ is_hex_digit b = ap is_hex_digit (heads (tails i)) in
    let yes = (Each-tail is_hex_digit b (c ∷ d ∷ []) (Each-tail is_hex_digit a (b ∷ c ∷ d ∷ []) each).1).0 in cc
four_digits (p ∷ q ∷ []) more after a b c d e i few each none =
    let same : is_hex_digit e ≡ is_hex_digit c = ap is_hex_digit (heads (tails (tails i))) in
    let yes =
    (Each-tail is_hex_digit c (d ∷ []) (Each-tail is_hex_digit b (c ∷ d ∷ []) (Each-tail is_hex_digit a (b ∷ c ∷ d ∷ []) each).1).1).0 in
    cc
four_digits (p ∷ q ∷ r ∷ []) more after a b c d e i few each none =
    let same : is_hex_digit e ≡ is_hex_digit d = ap is_hex_digit (heads (tails (tails (tails i)))) in
    let yes =
    (Each-tail is_hex_digit d []
    (Each-tail is_hex_digit c (d ∷ []) (Each-tail is_hex_digit b (c ∷ d ∷ []) (Each-tail is_hex_digit a (b ∷ c ∷ d ∷ []) each).1).1).1).0 in
    cc
four_digits (p ∷ q ∷ r ∷ s ∷ digits) more after a b c d e i few each none = omega arith

code_no_bad : (a b c d n : ℕ) (after more : List ℕ) → IsCode a b c d n → IsBadEscape more → more ≡ 117 ∷ a ∷ b ∷ c ∷ d ∷ after → ⊥
code_no_bad a b c d n after more h (unknown none other) i = other (heads i)
code_no_bad a b c d n after more h (no_digit digits e rest is few each none) i =
    four_digits digits rest after a b c d e (tails (sym is ∙ i)) few h.digits none
code_no_bad a b c d n after more h (surrogate {a = p} {b = q} {c = r} {d = s} is each none) i =
    let one = tails (sym i ∙ is) in
    let two = tails one in
    let three = tails two in
    let four = tails three in
    none n (subst (λ z. IsCode p q r z n) (heads four)
    (subst (λ z. IsCode p q z d n) (heads three) (subst (λ z. IsCode p z c d n) (heads two) (subst (λ z. IsCode z b c d n) (heads one) h))))

code_no_cut : (a b c d : ℕ) (after more : List ℕ) → IsCutEscape more → more ≡ 117 ∷ a ∷ b ∷ c ∷ d ∷ after → ⊥
code_no_cut a b c d after more no_letter i = let wrong = i in cc
code_no_cut a b c d after more (few_digits few each) i = let long = ap length (tails i) in omega arith

bad_spelled : {here text rest : List ℕ} → Spells here text rest → (more : List ℕ) → here ≡ backslash ∷ more → IsBadEscape more → here ≡ rest
bad_spelled nothing more e h = refl
bad_spelled (plain {b = b} {here = here} p s) more e h = absurd (plain_no_escape b here more p e)
bad_spelled (escape {b = b} {e = c} {after = after} is p s) more e h = absurd (letter_no_bad b c after more p h (tails (sym e ∙ is)))
bad_spelled (code {a = a} {b = b} {c = c} {d = d} {n = n} {after = after} is k s all) more e h =
    absurd (code_no_bad a b c d n after more k h (tails (sym e ∙ is)))

cut_spelled : {here text rest : List ℕ} → Spells here text rest → (more : List ℕ) → here ≡ backslash ∷ more → IsCutEscape more → here ≡ rest
cut_spelled nothing more e h = refl
cut_spelled (plain {b = b} {here = here} p s) more e h = absurd (plain_no_escape b here more p e)
cut_spelled (escape {b = b} {e = c} {after = after} is p s) more e h = absurd (letter_no_cut b c after more p h (tails (sym e ∙ is)))
cut_spelled (code {a = a} {b = b} {c = c} {d = d} {after = after} is k s all) more e h =
    absurd (code_no_cut a b c d after more h (tails (sym e ∙ is)))

few_no_bad : (digits more other : List ℕ) (b : ℕ) → Each is_hex_digit digits → is_hex_digit b ≡ false → digits ≡ other ++ b ∷ more → ⊥
few_no_bad digits more [] b each none e =
    let yes = (Each-tail is_hex_digit b more (subst (Each is_hex_digit) e each)).0 in cc
few_no_bad [] more (c ∷ other) b each none e = let wrong = e in cc
few_no_bad (d ∷ digits) more (c ∷ other) b each none e =
    few_no_bad digits more other b (Each-tail is_hex_digit d digits each).1 none (tails e)

cut_no_bad : (more other : List ℕ) → IsCutEscape more → IsBadEscape other → more ≡ other → ⊥
cut_no_bad more other no_letter (unknown none unlike) e = let wrong = e in cc
cut_no_bad more other no_letter (no_digit digits b rest is few each none) e = let wrong = e ∙ is in cc
cut_no_bad more other no_letter (surrogate is each none) e = let wrong = e ∙ is in cc
cut_no_bad more other (few_digits few each) (unknown none unlike) e = unlike (sym (heads e))
cut_no_bad more other (few_digits {digits = given} few each) (no_digit digits b rest is fewer all none) e =
    few_no_bad given rest digits b each none (tails (e ∙ is))
cut_no_bad more other (few_digits few each) (surrogate is all none) e = let long = ap length (tails (e ∙ is)) in omega arith

-- ---- two spellings

data SpellsMeet (text rest other end : List ℕ) : Type 0 where
  ahead : (m : List ℕ) → Spells rest m end → other ≡ text ++ m → SpellsMeet text rest other end
  behind : (m : List ℕ) → Spells end m rest → text ≡ other ++ m → SpellsMeet text rest other end

after_same : {b c : ℕ} {s r t u : List ℕ} → b ≡ c → SpellsMeet s r t u → SpellsMeet (b ∷ s) r (c ∷ t) u
after_same e (ahead m h i) = ahead m h (same_cons (sym e) i)
after_same e (behind m h i) = behind m h (same_cons e i)

after_code : (m n : ℕ) (s r t u all whole : List ℕ) → m ≡ n → all ≡ encode_utf8 m ++ s → whole ≡ encode_utf8 n ++ t → SpellsMeet s r t u
    → SpellsMeet all r whole u
after_code m n s r t u all whole e i j (ahead k h l) =
    ahead k h (j ∙ ap (λ z. encode_utf8 n ++ z) l ∙ sym (append_assoc (encode_utf8 n) s k) ∙ ap (λ z. (encode_utf8 z ++ s) ++ k) (sym e)
    ∙ ap (λ z. z ++ k) (sym i))
after_code m n s r t u all whole e i j (behind k h l) =
    behind k h (i ∙ ap (λ z. encode_utf8 m ++ z) l ∙ sym (append_assoc (encode_utf8 m) t k) ∙ ap (λ z. (encode_utf8 z ++ t) ++ k) e
    ∙ ap (λ z. z ++ k) (sym j))

spells_meet : {here there s t r u : List ℕ} → Spells here s r → Spells there t u → here ≡ there → SpellsMeet s r t u
spells_meet {t = t} {u = u} nothing k same = ahead t (subst (λ z. Spells z t u) (sym same) k) refl
spells_meet {s = s} {r = r} h nothing same = behind s (subst (λ z. Spells z s r) same h) refl
spells_meet (plain p h) (plain q k) same = after_same (heads same) (spells_meet h k (tails same))
spells_meet (plain {b = b} {here = h} p k) (escape is q l) same = absurd (plain_no_escape b h _ p (same ∙ is))
spells_meet (plain {b = b} {here = h} p k) (code is q l a) same = absurd (plain_no_escape b h _ p (same ∙ is))
spells_meet (escape is p h) (plain {b = b} {here = k} q l) same = absurd (plain_no_escape b k _ q (sym same ∙ is))
spells_meet (escape {b = b} {e = c} is p h) (escape {b = d} {e = f} js q k) same =
    let letters = tails (sym is ∙ same ∙ js) in
    let value : escape_of b ≡ escape_of d = ap escape_of (heads letters) in
    after_same (some_same (sym p ∙ value ∙ q)) (spells_meet h k (tails letters))
spells_meet (escape {b = b} {e = c} is p h) (code js q k a) same = absurd (no_code_letter b c p (heads (tails (sym is ∙ same ∙ js))))
spells_meet (code is p h a) (plain {b = b} {here = k} q l) same = absurd (plain_no_escape b k _ q (sym same ∙ is))
spells_meet (code is p h a) (escape {b = b} {e = c} js q k) same = absurd (no_code_letter b c q (heads (tails (sym js ∙ sym same ∙ is))))
spells_meet {s = all} {t = whole} {r = r} {u = u} (code {a = a1} {b = b1} {c = c1} {d = d1} {n = m} {text = s} is p h l)
    (code {a = a2} {b = b2} {c = c2} {d = d2} {n = n} {text = t} js q k o) same =
    let first = tails (tails (sym is ∙ same ∙ js)) in
    let second = tails first in
    let third = tails second in
    let fourth = tails third in
    let number : m ≡ n = same_code a1 b1 c1 d1 a2 b2 c2 d2 m n (heads first) (heads second) (heads third) (heads fourth) p q in
    after_code m n s r t u all whole number l o (spells_meet h k (tails fourth))

spell_once : {here there s t r u : List ℕ} → Spells here s r → Spells there t u → here ≡ there → IsUtf8 s → IsUtf8 t → Halts r → Halts u
    → r ≡ u
spell_once {s = s} {t = t} {r = r} {u = u} h k same us ut stop end = elim (spells_meet h k same) [
  | ahead m l i ↦ stop m u (utf8_behind s m us (subst IsUtf8 i ut)) l
  | behind m l i ↦ sym (end m r (utf8_behind t m ut (subst IsUtf8 i us)) l)
]

-- ---- strings at fault

data Stop (here : List ℕ) : Fault → List ℕ → Type 0 where
  at_end : here ≡ [] → Stop here cut []
  cut_short : (more : List ℕ) → here ≡ backslash ∷ more → IsCutEscape more → Stop here cut []
  no_escape : (more : List ℕ) → here ≡ backslash ∷ more → IsBadEscape more → Stop here bad here
  no_char : NoCharacter here → Stop here bad here

record Stopped (inside : List ℕ) (fault : Fault) (place : List ℕ) : Type 0 where
  text : List ℕ
  here : List ℕ
  spells : Spells inside text here
  utf8 : IsUtf8 text
  halts : Halts here
  why : Stop here fault place

stopped : {inside place : List ℕ} {fault : Fault} → StringFault inside fault place → Stopped inside fault place
stopped (no_quote {text = text} s u) = record { text = text; here = []; spells = s; utf8 = u; halts = halts_end; why = at_end refl }
stopped (cut_escape {text = text} {more = more} s u h) =
    record {
      text = text;
      here = backslash ∷ more;
      spells = s;
      utf8 = u;
      halts = λ t r _ k. cut_spelled k more refl h;
      why = cut_short more refl h;
    }
stopped (bad_escape {text = text} {more = more} s u h) =
    record {
      text = text;
      here = backslash ∷ more;
      spells = s;
      utf8 = u;
      halts = λ t r _ k. bad_spelled k more refl h;
      why = no_escape more refl h;
    }
stopped (no_character {text = text} {here = here} s u h) =
    record { text = text; here = here; spells = s; utf8 = u; halts = halts_none here h; why = no_char h }

pub record SameFault (a b : Fault) (x y : List ℕ) : Type 0 where
  pub fault : a ≡ b
  pub place : x ≡ y

same_stop : {here there place at : List ℕ} {fault other : Fault} → Stop here fault place → Stop there other at → here ≡ there
    → SameFault fault other place at
same_stop (at_end i) (at_end j) e = record { fault = refl; place = refl }
same_stop (at_end i) (cut_short more j h) e = record { fault = refl; place = refl }
same_stop (at_end i) (no_escape more j h) e = absurd (let wrong = sym i ∙ e ∙ j in cc)
same_stop (at_end i) (no_char h) e = absurd (subst NoCharacter (sym e ∙ i) h)
same_stop (cut_short more i h) (at_end j) e = record { fault = refl; place = refl }
same_stop (cut_short more i h) (cut_short rest j k) e = record { fault = refl; place = refl }
same_stop (cut_short more i h) (no_escape rest j k) e = absurd (cut_no_bad more rest h k (tails (sym i ∙ e ∙ j)))
same_stop (cut_short more i h) (no_char k) e =
    absurd (let high = no_character_high backslash more (subst NoCharacter (sym e ∙ i) k) in omega arith)
same_stop (no_escape more i h) (at_end j) e = absurd (let wrong = sym i ∙ e ∙ j in cc)
same_stop (no_escape more i h) (cut_short rest j k) e = absurd (cut_no_bad rest more k h (tails (sym j ∙ sym e ∙ i)))
same_stop (no_escape more i h) (no_escape rest j k) e = record { fault = refl; place = e }
same_stop (no_escape more i h) (no_char k) e = record { fault = refl; place = e }
same_stop (no_char h) (at_end j) e = absurd (subst NoCharacter (e ∙ j) h)
same_stop (no_char h) (cut_short rest j k) e =
    absurd (let high = no_character_high backslash rest (subst NoCharacter (e ∙ j) h) in omega arith)
same_stop (no_char h) (no_escape rest j k) e = record { fault = refl; place = e }
same_stop (no_char h) (no_char k) e = record { fault = refl; place = e }

pub one_string_fault : {inside other place at : List ℕ} {fault why : Fault} → StringFault inside fault place → StringFault other why at
    → inside ≡ other → SameFault fault why place at
one_string_fault h k e =
    let one = stopped h in
    let two = stopped k in
    same_stop one.why two.why (spell_once one.spells two.spells e one.utf8 two.utf8 one.halts two.halts)

no_stop_at_quote : {here place : List ℕ} {fault : Fault} (rest : List ℕ) → Stop here fault place → here ≡ quote ∷ rest → ⊥
no_stop_at_quote rest (at_end i) e = let wrong = sym i ∙ e in cc
no_stop_at_quote rest (cut_short more i h) e = let wrong = heads (sym i ∙ e) in omega arith
no_stop_at_quote rest (no_escape more i h) e = let wrong = heads (sym i ∙ e) in omega arith
no_stop_at_quote rest (no_char h) e = let high = no_character_high quote rest (subst NoCharacter e h) in omega arith

pub string_or_fault : {s here rest inside place : List ℕ} {fault : Fault} → StringAt s here rest → StringFault inside fault place
    → here ≡ quote ∷ inside → ⊥
string_or_fault {rest = rest} h k e =
    let one = stopped k in
    no_stop_at_quote rest one.why (spell_once one.spells h.spells (tails (sym e ∙ h.opens)) one.utf8 h.utf8 one.halts (halts_quote rest))
