-- The texts of keywords and symbols, as the database judges them, are those of the grammar of EDN.
use Rattle.std.proofs.Common.{◌≡◌, ℕ, zero, suc, ◌+◌, ◌<◌, Bool, true, false, cond, not, ◌&&◌, ◌||◌, List, [], ◌∷◌, ◌++◌, take, drop, refl}
use Rattle.std.proofs.Common.{ap, sym, ◌∙◌, arith, inl, inr, ◌⊎◌}
use Rattle.std.specs.Prelude.{IsUtf8, nat_eq, nat_le, bytes_eq, codes, nat_lt}
use Rattle.std.specs.List.{list_any, list_all, position_or_len, before_first, after_first}
use Rattle.std.proofs.lemmas.Bool.{true≢false, false≢true, and_parts, and_from, eqb-true}
use Rattle.std.proofs.lemmas.Bool.Decides.{nat_tests}
use Rattle.std.proofs.lemmas.Slice.Eq.{bytes_eq-Decides}
use Rattle.edn_model.specs.Bytes as edn
use Rattle.edn_model.specs.Tokens.{IsName, Joined, IsKeywordName, IsKeyword, begins_symbol, IsReserved, IsLongSymbol, IsSymbol}
use Rattle.fb_model.specs.Words.{is_slash, is_letter, is_digit, is_name_byte, is_name, begins_with_one_of, is_keyword_name, has_namespace}
use Rattle.fb_model.specs.Words.{namespace, local_name, is_keyword_text, is_symbol_text}

-- ---- bytes of names

in_other_order : (p h s t : Bool) → s ≡ t → ((p || h) || s) ≡ (p || (t || h))
in_other_order true h s t is = refl
in_other_order false true s true is = refl
in_other_order false true s false is = refl
in_other_order false false s true is = is
in_other_order false false s false is = is

signs : (a b c d e f g h i j k l m n o : Bool)
    → (a || (b || (c || (d || (e || (f || (g || (h || (i || (j || (k || (l || (m || (n || (o || false)))))))))))))))
    ≡ (((a || (b || c)) || (d || (e || f))) || (((g || h) || (i || (j || k))) || ((l || m) || (n || o))))
signs true b c d e f g h i j k l m n o = refl
signs false true c d e f g h i j k l m n o = refl
signs false false true d e f g h i j k l m n o = refl
signs false false false true e f g h i j k l m n o = refl
signs false false false false true f g h i j k l m n o = refl
signs false false false false false true g h i j k l m n o = refl
signs false false false false false false true h i j k l m n o = refl
signs false false false false false false false true i j k l m n o = refl
signs false false false false false false false false true j k l m n o = refl
signs false false false false false false false false false true k l m n o = refl
signs false false false false false false false false false false true l m n o = refl
signs false false false false false false false false false false false true m n o = refl
signs false false false false false false false false false false false false true n o = refl
signs false false false false false false false false false false false false false true o = refl
signs false false false false false false false false false false false false false false true = refl
signs false false false false false false false false false false false false false false false = refl

name_byte : (b : ℕ) → is_name_byte b ≡ edn.is_name_byte b
name_byte b =
    in_other_order (is_letter b || is_digit b) (nat_le 128 b) (list_any (nat_eq b) (codes ".*+!-_?$%&=<>:#")) (edn.is_sign b)
    (signs (nat_eq b 46) (nat_eq b 42) (nat_eq b 43) (nat_eq b 33) (nat_eq b 45) (nat_eq b 95) (nat_eq b 63) (nat_eq b 36) (nat_eq b 37)
    (nat_eq b 38) (nat_eq b 61) (nat_eq b 60) (nat_eq b 62) (nat_eq b 58) (nat_eq b 35))

name_bytes : (text : List ℕ) → list_all is_name_byte text ≡ list_all edn.is_name_byte text
name_bytes [] = refl
name_bytes (b ∷ text) = ap (λ t. t && list_all is_name_byte text) (name_byte b) ∙ ap (λ t. edn.is_name_byte b && t) (name_bytes text)

is_edn_name : (text : List ℕ) → is_name text ≡ true → IsName text
is_edn_name [] is = absurd (false≢true is)
is_edn_name (b ∷ text) is = (omega arith, sym (name_bytes (b ∷ text)) ∙ is)

edn_name_is : (text : List ℕ) → IsName text → is_name text ≡ true
edn_name_is [] is = absurd (omega (arith, is.0))
edn_name_is (b ∷ text) is = name_bytes (b ∷ text) ∙ is.1

-- ---- how keywords begin

neither : (a b : Bool) → not (a || (b || false)) ≡ (not a && not b)
neither true b = refl
neither false true = refl
neither false false = refl

is_edn_keyword_name : (text : List ℕ) → is_keyword_name text ≡ true → IsKeywordName text
is_edn_keyword_name [] is = absurd (false≢true is)
is_edn_keyword_name (b ∷ text) is =
    let parts = and_parts (is_name (b ∷ text)) (not (begins_with_one_of (codes ":#") (b ∷ text))) is in
    (is_edn_name (b ∷ text) parts.0, sym (neither (nat_eq b 58) (nat_eq b 35)) ∙ parts.1)

edn_keyword_name_is : (text : List ℕ) → IsKeywordName text → is_keyword_name text ≡ true
edn_keyword_name_is [] is = absurd (omega (arith, is.0.0))
edn_keyword_name_is (b ∷ text) is =
    and_from (is_name (b ∷ text)) (not (begins_with_one_of (codes ":#") (b ∷ text))) (edn_name_is (b ∷ text) is.0)
    (neither (nat_eq b 58) (nat_eq b 35) ∙ is.1)

-- ---- the slash

no_slash : (text : List ℕ) → list_all is_name_byte text ≡ true → list_any is_slash text ≡ false
no_slash [] all = refl
no_slash (b ∷ text) all =
    let parts = and_parts (is_name_byte b) (list_all is_name_byte text) all in
    first (is_slash b) refl parts.0 (no_slash text parts.1)
  where
    first : (s : Bool) → is_slash b ≡ s → is_name_byte b ≡ true → list_any is_slash text ≡ false → (s || list_any is_slash text) ≡ false
    first true is name later = absurd (false≢true (sym (ap is_name_byte (eqb-true b 47 is)) ∙ name))
    first false is name later = later

name_has_no_slash : (text : List ℕ) → is_name text ≡ true → list_any is_slash text ≡ false
name_has_no_slash [] is = refl
name_has_no_slash (b ∷ text) is = no_slash (b ∷ text) is

-- a text that has a slash is what stands before and behind the first one
before_slash : (b : ℕ) (text : List ℕ) → is_slash b ≡ true → before_first is_slash (b ∷ text) ≡ []
before_slash b text is = ap (λ s. take (cond (not s) (1 + position_or_len is_slash text) 0) (b ∷ text)) is

behind_slash : (b : ℕ) (text : List ℕ) → is_slash b ≡ true → after_first is_slash (b ∷ text) ≡ text
behind_slash b text is = ap (λ s. drop (cond (not s) (1 + position_or_len is_slash text) 0 + 1) (b ∷ text)) is

before_later : (b : ℕ) (text : List ℕ) → is_slash b ≡ false → before_first is_slash (b ∷ text) ≡ b ∷ before_first is_slash text
before_later b text is =
    let e : 1 + position_or_len is_slash text ≡ suc (position_or_len is_slash text) = omega arith in
    ap (λ s. take (cond (not s) (1 + position_or_len is_slash text) 0) (b ∷ text)) is ∙ ap (λ n. take n (b ∷ text)) e

behind_later : (b : ℕ) (text : List ℕ) → is_slash b ≡ false → after_first is_slash (b ∷ text) ≡ after_first is_slash text
behind_later b text is =
    let e : 1 + position_or_len is_slash text + 1 ≡ suc (position_or_len is_slash text + 1) = omega arith in
    ap (λ s. drop (cond (not s) (1 + position_or_len is_slash text) 0 + 1) (b ∷ text)) is ∙ ap (λ n. drop n (b ∷ text)) e

-- two texts, of which the first has no slash, joined by one
record IsCut (first second : List ℕ) : Type 0 where
  some : has_namespace (first ++ 47 ∷ second) ≡ true
  before : before_first is_slash (first ++ 47 ∷ second) ≡ first
  behind : after_first is_slash (first ++ 47 ∷ second) ≡ second

cut_at : (first second : List ℕ) → list_any is_slash first ≡ false → IsCut first second
cut_at [] second none = record { some = refl; before = before_slash 47 second refl; behind = behind_slash 47 second refl }
cut_at (b ∷ first) second none = later (is_slash b) refl none (cut_at first second)
  where
    later : (s : Bool) → is_slash b ≡ s → (s || list_any is_slash first) ≡ false → (list_any is_slash first ≡ false → IsCut first second)
        → IsCut (b ∷ first) second
    later true is none rest = absurd (true≢false none)
    later false is none rest =
        let cut = rest none in
        record {
          some = ap (λ t. t || has_namespace (first ++ 47 ∷ second)) is ∙ cut.some;
          before = before_later b (first ++ 47 ∷ second) is ∙ ap (λ text. b ∷ text) cut.before;
          behind = behind_later b (first ++ 47 ∷ second) is ∙ cut.behind;
        }

joined_again : (text : List ℕ) → list_any is_slash text ≡ true → text ≡ before_first is_slash text ++ 47 ∷ after_first is_slash text
joined_again [] some = absurd (false≢true some)
joined_again (b ∷ text) some = first (is_slash b) refl some (joined_again text)
  where
    first : (s : Bool) → is_slash b ≡ s → (s || list_any is_slash text) ≡ true
        → (list_any is_slash text ≡ true → text ≡ before_first is_slash text ++ 47 ∷ after_first is_slash text)
        → b ∷ text ≡ before_first is_slash (b ∷ text) ++ 47 ∷ after_first is_slash (b ∷ text)
    first true is some rest =
        ap (λ x. x ∷ text) (eqb-true b 47 is)
        ∙ sym (ap (λ xs. xs ++ 47 ∷ after_first is_slash (b ∷ text)) (before_slash b text is) ∙ ap (λ xs. 47 ∷ xs) (behind_slash b text is))
    first false is some rest =
        ap (λ xs. b ∷ xs) (rest some)
        ∙ sym (ap (λ xs. xs ++ 47 ∷ after_first is_slash (b ∷ text)) (before_later b text is)
        ∙ ap (λ xs. b ∷ before_first is_slash text ++ 47 ∷ xs) (behind_later b text is))

-- ---- one name, or two that a slash joins

module _ (test : List ℕ → Bool) (Is : List ℕ → Type 0) (forth : (text : List ℕ) → test text ≡ true → Is text)
    (back : (text : List ℕ) → Is text → test text ≡ true)
    (plain : (text : List ℕ) → test text ≡ true → list_any is_slash text ≡ false) where
  abbrev passes : List ℕ → Bool
  passes text = test (local_name text) && (not (has_namespace text) || test (namespace text))

  one_or_two : (text : List ℕ) → passes text ≡ true → Is text ⊎ Joined Is Is text
  one_or_two text is = by_slash (has_namespace text) refl is
    where
      by_slash : (s : Bool) → has_namespace text ≡ s
          → (test (cond s (after_first is_slash text) text) && (not s || test (cond s (before_first is_slash text) []))) ≡ true
          → Is text ⊎ Joined Is Is text
      by_slash true some is =
          let parts = and_parts (test (after_first is_slash text)) (test (before_first is_slash text)) is in
          inr (
            before_first is_slash text,
            after_first is_slash text,
            joined_again text some,
            forth (before_first is_slash text) parts.1,
            forth (after_first is_slash text) parts.0,
          )
      by_slash false none is = inl (forth text (and_parts (test text) true is).0)

  of_one : (text : List ℕ) → Is text → passes text ≡ true
  of_one text is =
      ap (λ s. test (cond s (after_first is_slash text) text) && (not s || test (cond s (before_first is_slash text) [])))
      (plain text (back text is))
      ∙ and_from (test text) true (back text is) refl

  of_two : (text : List ℕ) → Joined Is Is text → passes text ≡ true
  of_two text two =
      let first = two.0 in
      let second = two.1 in
      let cut = cut_at first second (plain first (back first two.3)) in
      ap passes two.2
      ∙ ap (λ s. test (cond s (after_first is_slash (first ++ 47 ∷ second)) (first ++ 47 ∷ second))
      && (not s || test (cond s (before_first is_slash (first ++ 47 ∷ second)) []))) cut.some
      ∙ and_from (test (after_first is_slash (first ++ 47 ∷ second))) (test (before_first is_slash (first ++ 47 ∷ second)))
      (ap test cut.behind ∙ back second two.4) (ap test cut.before ∙ back first two.3)

  that_passes : (text : List ℕ) → Is text ⊎ Joined Is Is text → passes text ≡ true
  that_passes text (inl one) = of_one text one
  that_passes text (inr two) = of_two text two

-- ---- keywords

keyword_name_is_plain : (text : List ℕ) → is_keyword_name text ≡ true → list_any is_slash text ≡ false
keyword_name_is_plain text is = name_has_no_slash text (and_parts (is_name text) (not (begins_with_one_of (codes ":#") text)) is).0

pub is_edn_keyword : (text : List ℕ) → IsUtf8 text → is_keyword_text text ≡ true → IsKeyword text
is_edn_keyword text utf8 is =
    (utf8, one_or_two is_keyword_name IsKeywordName is_edn_keyword_name edn_keyword_name_is keyword_name_is_plain text is)

pub edn_keyword_is : (text : List ℕ) → IsKeyword text → is_keyword_text text ≡ true
edn_keyword_is text is = that_passes is_keyword_name IsKeywordName is_edn_keyword_name edn_keyword_name_is keyword_name_is_plain text is.1

-- ---- symbols

abbrev starts : List ℕ → Bool
starts [] = false
starts (b ∷ rest) =
    not (is_digit b) && not (begins_with_one_of (codes ":#") (b ∷ rest))
    && not (list_any (nat_eq b) (codes ".+-") && begins_with_one_of (codes "0123456789") rest)

abbrev words_of_values : List (List ℕ)
words_of_values = codes "nil" ∷ codes "true" ∷ codes "false" ∷ []

next_digit : (b k m : ℕ) → k < m → (nat_eq b k || (nat_le (k + 1) b && nat_lt b m)) ≡ (nat_le k b && nat_lt b m)
next_digit b k m below = grind (arith, nat_tests)

abbrev from : ℕ → ℕ → List ℕ
from k zero = []
from k (suc n) = k ∷ from (k + 1) n

none_from : (b k : ℕ) → false ≡ (nat_le k b && nat_lt b k)
none_from b k = grind (arith, nat_tests)

among_digits : (b k n : ℕ) → list_any (nat_eq b) (from k n) ≡ (nat_le k b && nat_lt b (k + n))
among_digits b k zero =
    let e : k ≡ k + 0 = omega arith in
    none_from b k ∙ ap (λ m. nat_le k b && nat_lt b m) e
among_digits b k (suc n) =
    let e : (k + 1) + n ≡ k + suc n = omega arith in
    ap (λ t. nat_eq b k || t) (among_digits b (k + 1) n ∙ ap (λ m. nat_le (k + 1) b && nat_lt b m) e)
    ∙ next_digit b k (k + suc n) (omega arith)

at_most_57 : (b : ℕ) → nat_lt b 58 ≡ nat_le b 57
at_most_57 b = grind (arith, nat_tests)

begins_with_digit : (text : List ℕ) → begins_with_one_of (codes "0123456789") text ≡ edn.begins edn.is_digit text
begins_with_digit [] = refl
begins_with_digit (b ∷ text) = among_digits b 48 10 ∙ ap (λ t. nat_le 48 b && t) (at_most_57 b)

one_of_three : (a b c : Bool) → (a || (b || (c || false))) ≡ (a || (b || c))
one_of_three true b c = refl
one_of_three false true c = refl
one_of_three false false true = refl
one_of_three false false false = refl

in_groups : (a b c : Bool) → ((a && b) && c) ≡ (a && (b && c))
in_groups true b c = refl
in_groups false b c = refl

same_starts : (text : List ℕ) → starts text ≡ begins_symbol text
same_starts [] = refl
same_starts (b ∷ text) =
    in_groups (not (is_digit b)) (not (begins_with_one_of (codes ":#") (b ∷ text)))
    (not (list_any (nat_eq b) (codes ".+-") && begins_with_one_of (codes "0123456789") text))
    ∙ ap (λ t. not (is_digit b) && (t && not (list_any (nat_eq b) (codes ".+-") && begins_with_one_of (codes "0123456789") text)))
    (neither (nat_eq b 58) (nat_eq b 35))
    ∙ ap (λ t. not (is_digit b) && ((not (nat_eq b 58) && not (nat_eq b 35)) && not (t && begins_with_one_of (codes "0123456789") text)))
    (one_of_three (nat_eq b 46) (nat_eq b 43) (nat_eq b 45))
    ∙ ap (λ t. not (is_digit b) && ((not (nat_eq b 58) && not (nat_eq b 35)) && not ((nat_eq b 46 || (nat_eq b 43 || nat_eq b 45)) && t)))
    (begins_with_digit text)

is_word : (text : List ℕ) → list_any (bytes_eq text) words_of_values ≡ true → IsReserved text
is_word text is = by_first (bytes_eq text (codes "nil")) refl is
  where
    by_third : (c : Bool) → bytes_eq text (codes "false") ≡ c → (c || false) ≡ true → text ≡ codes "false"
    by_third true e is = (bytes_eq-Decides text (codes "false")).0 e
    by_third false e is = absurd (false≢true is)

    by_second : (b : Bool) → bytes_eq text (codes "true") ≡ b → (b || (bytes_eq text (codes "false") || false)) ≡ true
        → (text ≡ codes "true") ⊎ (text ≡ codes "false")
    by_second true e is = inl ((bytes_eq-Decides text (codes "true")).0 e)
    by_second false e is = inr (by_third (bytes_eq text (codes "false")) refl is)

    by_first : (a : Bool) → bytes_eq text (codes "nil") ≡ a
        → (a || (bytes_eq text (codes "true") || (bytes_eq text (codes "false") || false))) ≡ true → IsReserved text
    by_first true e is = inl ((bytes_eq-Decides text (codes "nil")).0 e)
    by_first false e is = inr (by_second (bytes_eq text (codes "true")) refl is)

is_no_word : (text : List ℕ) → ¬ IsReserved text → list_any (bytes_eq text) words_of_values ≡ false
is_no_word text free = by (list_any (bytes_eq text) words_of_values) refl
  where
    by : (b : Bool) → list_any (bytes_eq text) words_of_values ≡ b → b ≡ false
    by true is = absurd (free (is_word text is))
    by false is = refl

word_is : (text : List ℕ) → IsReserved text → list_any (bytes_eq text) words_of_values ≡ true
word_is text (inl is) = ap (λ t. list_any (bytes_eq t) words_of_values) is
word_is text (inr (inl is)) = ap (λ t. list_any (bytes_eq t) words_of_values) is
word_is text (inr (inr is)) = ap (λ t. list_any (bytes_eq t) words_of_values) is

abbrev names : List ℕ → Bool
names text = is_name (local_name text) && (not (has_namespace text) || is_name (namespace text))

abbrev is_long : List ℕ → Bool
is_long text = starts text && (not (list_any (bytes_eq text) words_of_values) && names text)

is_edn_long : (text : List ℕ) → is_long text ≡ true → IsLongSymbol text
is_edn_long text is =
    let start = and_parts (starts text) (not (list_any (bytes_eq text) words_of_values) && names text) is in
    let rest = and_parts (not (list_any (bytes_eq text) words_of_values)) (names text) start.1 in (
      sym (same_starts text) ∙ start.0,
      (λ word. false≢true (sym (ap not (word_is text word)) ∙ rest.0)),
      one_or_two is_name IsName is_edn_name edn_name_is name_has_no_slash text rest.1,
    )

edn_long_is : (text : List ℕ) → IsLongSymbol text → is_long text ≡ true
edn_long_is text is =
    and_from (starts text) (not (list_any (bytes_eq text) words_of_values) && names text) (same_starts text ∙ is.0)
    (and_from (not (list_any (bytes_eq text) words_of_values)) (names text) (ap not (is_no_word text is.1))
    (that_passes is_name IsName is_edn_name edn_name_is name_has_no_slash text is.2))

in_parts : (text : List ℕ) → is_symbol_text text ≡ (bytes_eq text (codes "/") || is_long text)
in_parts text =
    let word = not (list_any (bytes_eq text) words_of_values) in
    ap (λ b. bytes_eq text (codes "/") || b)
    (in_groups (starts text && word) (is_name (local_name text)) (not (has_namespace text) || is_name (namespace text))
    ∙ in_groups (starts text) word (names text))

pub is_edn_symbol : (text : List ℕ) → IsUtf8 text → is_symbol_text text ≡ true → IsSymbol text
is_edn_symbol text utf8 is = (utf8, by (bytes_eq text (codes "/")) refl (sym (in_parts text) ∙ is))
  where
    by : (b : Bool) → bytes_eq text (codes "/") ≡ b → (b || is_long text) ≡ true → (text ≡ codes "/") ⊎ IsLongSymbol text
    by true e is = inl ((bytes_eq-Decides text (codes "/")).0 e)
    by false e is = inr (is_edn_long text is)

pub edn_symbol_is : (text : List ℕ) → IsSymbol text → is_symbol_text text ≡ true
edn_symbol_is text is = by is.1
  where
    or_true : (b : Bool) → (b || true) ≡ true
    or_true true = refl
    or_true false = refl

    by : (text ≡ codes "/") ⊎ IsLongSymbol text → is_symbol_text text ≡ true
    by (inl e) = ap is_symbol_text e
    by (inr long) = in_parts text ∙ ap (λ b. bytes_eq text (codes "/") || b) (edn_long_is text long) ∙ or_true (bytes_eq text (codes "/"))
