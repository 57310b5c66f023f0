-- Lines and the bytes that they are cut from.
use Rattle.std.proofs.Common.{◌≡◌, ◌≢◌, ℕ, Bool, true, false, List, [], ◌∷◌, ◌++◌, refl, sym, ap, ◌∙◌, subst, inl, inr, append_assoc, suc, arith}
use Rattle.std.specs.Prelude.{◌==◌, if◌then◌else◌, All, not, flat_map}
use Rattle.std.proofs.lemmas.Bool.{true≢false, eqb-true}
use Rattle.std.proofs.lemmas.List.Elements.{All-nil, All-cons}
use Rattle.edn_model.specs.Bytes.{is_line_byte, line_feed}
use Rattle.edn_model.proofs.Runs.{Each-tail, heads, tails, both_true}
use Rattle.live_model.specs.Lines.{in_first, in_front, lines_of, HasNoLineFeed, ended, AreWhole, IsCut}

-- ---- one byte in front

fed : (c : Bool) (x y : List (List ℕ)) → c ≡ true → (if c then x else y) ≡ x
fed true x y h = refl
fed false x y h = absurd (true≢false (sym h))

unfed : (c : Bool) (x y : List (List ℕ)) → not c ≡ true → (if c then x else y) ≡ y
unfed true x y h = absurd (true≢false (sym h))
unfed false x y h = refl

in_front-other : (b : ℕ) (lines : List (List ℕ)) → is_line_byte b ≡ true → in_front b lines ≡ in_first b lines
in_front-other b lines h = unfed (b == line_feed) ([] ∷ lines) (in_first b lines) h

-- a byte is a line feed, or is none
pub data Kind (b : ℕ) : Type 0 where
  feed : b ≡ line_feed → Kind b
  other : is_line_byte b ≡ true → Kind b

pub kind : (b : ℕ) → Kind b
kind b = go (b == line_feed) refl
  where
    go : (c : Bool) → (b == line_feed) ≡ c → Kind b
    go true e = feed (eqb-true b line_feed e)
    go false e = other (ap not e)

-- ---- whole lines

tail_of_whole : (b : ℕ) (bytes front : List ℕ) → b ∷ bytes ≡ ended front → AreWhole bytes
tail_of_whole b bytes [] is = inl (tails is)
tail_of_whole b bytes (f ∷ front) is = inr (front, tails is)

pub whole_tail : (b : ℕ) (bytes : List ℕ) → AreWhole (b ∷ bytes) → AreWhole bytes
whole_tail b bytes (inl none) = absurd (let e = none in cc)
whole_tail b bytes (inr some) = tail_of_whole b bytes some.0 some.1

-- a byte alone that is whole is the line feed
one_alone : (b : ℕ) (front : List ℕ) → b ∷ [] ≡ ended front → b ≡ line_feed
one_alone b [] is = heads is
one_alone b (f ∷ []) is = absurd (let e = tails is in cc)
one_alone b (f ∷ g ∷ front) is = absurd (let e = tails is in cc)

whole_alone : (b : ℕ) → AreWhole (b ∷ []) → b ≡ line_feed
whole_alone b (inl none) = absurd (let e = none in cc)
whole_alone b (inr some) = one_alone b some.0 some.1

pub whole_ended : (a line : List ℕ) → AreWhole (a ++ ended line)
whole_ended a line = inr (a ++ line, sym (append_assoc a line (line_feed ∷ [])))

-- ---- lines of lines

-- a byte that ends no line goes into the first line there is
apart_first : (b c : ℕ) (lines more : List (List ℕ)) → in_first b (in_front c lines ++ more) ≡ in_first b (in_front c lines) ++ more
apart_first b c lines more = go (kind c)
  where
    first : (all : List (List ℕ)) → in_first b (in_first c all ++ more) ≡ in_first b (in_first c all) ++ more
    first [] = refl
    first (line ∷ rest) = refl

    go : Kind c → in_first b (in_front c lines ++ more) ≡ in_first b (in_front c lines) ++ more
    go (feed is) =
        let e = fed (c == line_feed) ([] ∷ lines) (in_first c lines) (ap (λ n. n == line_feed) is) in
        ap (λ all. in_first b (all ++ more)) e ∙ sym (ap (λ all. in_first b all ++ more) e)
    go (other is) =
        let e = in_front-other c lines is in
        ap (λ all. in_first b (all ++ more)) e ∙ first lines ∙ sym (ap (λ all. in_first b all ++ more) e)

apart_front : (b : ℕ) (bytes : List ℕ) (more : List (List ℕ)) → AreWhole (b ∷ bytes)
    → in_front b (lines_of bytes ++ more) ≡ in_front b (lines_of bytes) ++ more
apart_front b [] more whole =
    let is = ap (λ n. n == line_feed) (whole_alone b whole) in
    fed (b == line_feed) ([] ∷ more) (in_first b more) is
    ∙ sym (ap (λ all. all ++ more) (fed (b == line_feed) ([] ∷ []) (in_first b []) is))
apart_front b (c ∷ bytes) more whole = go (kind b)
  where
    go : Kind b → in_front b (lines_of (c ∷ bytes) ++ more) ≡ in_front b (lines_of (c ∷ bytes)) ++ more
    go (feed is) =
        let e = ap (λ n. n == line_feed) is in
        fed (b == line_feed) ([] ∷ (lines_of (c ∷ bytes) ++ more)) (in_first b (lines_of (c ∷ bytes) ++ more)) e
        ∙ sym (ap (λ lines. lines ++ more) (fed (b == line_feed) ([] ∷ lines_of (c ∷ bytes)) (in_first b (lines_of (c ∷ bytes))) e))
    go (other is) =
        in_front-other b (lines_of (c ∷ bytes) ++ more) is
        ∙ apart_first b c (lines_of bytes) more
        ∙ sym (ap (λ lines. lines ++ more) (in_front-other b (lines_of (c ∷ bytes)) is))

pub lines_apart : (a b : List ℕ) → AreWhole a → lines_of (a ++ b) ≡ lines_of a ++ lines_of b
lines_apart [] b whole = refl
lines_apart (x ∷ a) b whole =
    ap (in_front x) (lines_apart a b (whole_tail x a whole)) ∙ apart_front x a (lines_of b) whole

-- a line in front of others
pub line_first : (line bytes : List ℕ) → HasNoLineFeed line → lines_of (line ++ line_feed ∷ bytes) ≡ line ∷ lines_of bytes
line_first [] bytes none = refl
line_first (b ∷ line) bytes none =
    let parts = Each-tail is_line_byte b line none in
    ap (in_front b) (line_first line bytes parts.1) ∙ in_front-other b (line ∷ lines_of bytes) parts.0

pub last_line : (line : List ℕ) → HasNoLineFeed line → line ≢ [] → lines_of line ≡ line ∷ []
last_line [] none some = absurd (some refl)
last_line (b ∷ []) none some = in_front-other b [] (Each-tail is_line_byte b [] none).0
last_line (b ∷ c ∷ line) none some =
    let parts = Each-tail is_line_byte b (c ∷ line) none in
    ap (in_front b) (last_line (c ∷ line) parts.1 (λ e. cc)) ∙ in_front-other b ((c ∷ line) ∷ []) parts.0

pub one_more : (a line : List ℕ) → AreWhole a → HasNoLineFeed line → lines_of (a ++ ended line) ≡ lines_of a ++ line ∷ []
one_more a line whole none = lines_apart a (ended line) whole ∙ ap (λ more. lines_of a ++ more) (line_first line [] none)

pub last_more : (a line : List ℕ) → AreWhole a → HasNoLineFeed line → line ≢ [] → lines_of (a ++ line) ≡ lines_of a ++ line ∷ []
last_more a line whole none some = lines_apart a line whole ∙ ap (λ more. lines_of a ++ more) (last_line line none some)

-- ---- the bytes again

again_first : (b : ℕ) (line : List ℕ) (lines : List (List ℕ))
    → flat_map ended (in_first b (line ∷ lines)) ≡ b ∷ flat_map ended (line ∷ lines)
again_first b line lines = refl

-- there is a line where there is a byte
some_line : (b : ℕ) (lines : List (List ℕ)) → (first : List ℕ) × (rest : List (List ℕ)) × (in_front b lines ≡ first ∷ rest)
some_line b lines = go (kind b)
  where
    first_of : (all : List (List ℕ)) → (first : List ℕ) × (rest : List (List ℕ)) × (in_first b all ≡ first ∷ rest)
    first_of [] = (b ∷ [], [], refl)
    first_of (line ∷ rest) = (b ∷ line, rest, refl)

    go : Kind b → (first : List ℕ) × (rest : List (List ℕ)) × (in_front b lines ≡ first ∷ rest)
    go (feed is) = ([], lines, fed (b == line_feed) ([] ∷ lines) (in_first b lines) (ap (λ n. n == line_feed) is))
    go (other is) = let some = first_of lines in (some.0, some.1, in_front-other b lines is ∙ some.2)

again_other : (b : ℕ) (bytes : List ℕ) → AreWhole (b ∷ bytes) → is_line_byte b ≡ true
    → flat_map ended (in_first b (lines_of bytes)) ≡ b ∷ flat_map ended (lines_of bytes)
again_other b [] whole is = absurd (true≢false (sym (sym (ap is_line_byte (whole_alone b whole)) ∙ is)))
again_other b (c ∷ bytes) whole is =
    let some = some_line c (lines_of bytes) in
    ap (λ all. flat_map ended (in_first b all)) some.2 ∙ sym (ap (λ all. b ∷ flat_map ended all) some.2)

again : (b : ℕ) (a : List ℕ) → AreWhole (b ∷ a) → flat_map ended (lines_of a) ≡ a → Kind b
    → flat_map ended (in_front b (lines_of a)) ≡ b ∷ a
again b a whole rest (feed is) =
    ap (flat_map ended) (fed (b == line_feed) ([] ∷ lines_of a) (in_first b (lines_of a)) (ap (λ n. n == line_feed) is))
    ∙ ap (λ bytes. line_feed ∷ bytes) rest
    ∙ ap (λ n. n ∷ a) (sym is)
again b a whole rest (other is) =
    ap (flat_map ended) (in_front-other b (lines_of a) is) ∙ again_other b a whole is ∙ ap (λ bytes. b ∷ bytes) rest

pub lines_again : (a : List ℕ) → AreWhole a → flat_map ended (lines_of a) ≡ a
lines_again [] whole = refl
lines_again (b ∷ a) whole = again b a whole (lines_again a (whole_tail b a whole)) (kind b)

free_first : (b : ℕ) (lines : List (List ℕ)) → is_line_byte b ≡ true → All HasNoLineFeed lines
    → All HasNoLineFeed (in_first b lines)
free_first b [] is all = All-cons HasNoLineFeed (b ∷ []) [] (both_true (is_line_byte b) true is refl) (All-nil HasNoLineFeed)
free_first b (line ∷ lines) is all =
    All-cons HasNoLineFeed (b ∷ line) lines
    (both_true (is_line_byte b) _ is (all 0 [] (omega arith)))
    (λ k d lt. all (suc k) d (omega (arith, lt)))

free_front : (b : ℕ) (lines : List (List ℕ)) → All HasNoLineFeed lines → Kind b → All HasNoLineFeed (in_front b lines)
free_front b lines all (feed is) =
    subst (All HasNoLineFeed) (sym (fed (b == line_feed) ([] ∷ lines) (in_first b lines) (ap (λ n. n == line_feed) is)))
    (All-cons HasNoLineFeed [] lines refl all)
free_front b lines all (other is) = subst (All HasNoLineFeed) (sym (in_front-other b lines is)) (free_first b lines is all)

pub no_feed : (bytes : List ℕ) → All HasNoLineFeed (lines_of bytes)
no_feed [] = All-nil HasNoLineFeed
no_feed (b ∷ bytes) = free_front b (lines_of bytes) (no_feed bytes) (kind b)

-- ---- one cut

abbrev Cut : List ℕ → Type 0
Cut bytes = (whole : List ℕ) × (rest : List ℕ) × IsCut bytes whole rest

cut_in_front : (b : ℕ) (bytes : List ℕ) → Cut bytes → Cut (b ∷ bytes)
cut_in_front b bytes cut = go cut.0 cut.1 cut.2 (kind b)
  where
    go : (whole rest : List ℕ) → IsCut bytes whole rest → Kind b → Cut (b ∷ bytes)
    go [] rest is (feed same) =
        (b ∷ [], rest, record { is = ap (λ all. b ∷ all) is.is; lines = inr ([], ap (λ n. n ∷ []) same); begun = is.begun })
    go [] rest is (other plain) = (
      [],
      b ∷ rest,
      record { is = ap (λ all. b ∷ all) is.is; lines = inl refl; begun = both_true (is_line_byte b) _ plain is.begun },
    )
    go (w ∷ whole) rest is any =
        (b ∷ w ∷ whole, rest, record { is = ap (λ all. b ∷ all) is.is; lines = behind is.lines; begun = is.begun })
      where
        behind : AreWhole (w ∷ whole) → AreWhole (b ∷ w ∷ whole)
        behind (inl none) = absurd (let e = none in cc)
        behind (inr some) = inr (b ∷ some.0, ap (λ all. b ∷ all) some.1)

pub some_cut : (bytes : List ℕ) → Cut bytes
some_cut [] = ([], [], record { is = refl; lines = inl refl; begun = refl })
some_cut (b ∷ bytes) = cut_in_front b bytes (some_cut bytes)

-- what has no line feed does not begin with whole lines
not_whole : (b : ℕ) (bytes more : List ℕ) → AreWhole (b ∷ bytes) → HasNoLineFeed (b ∷ (bytes ++ more)) → ⊥
not_whole b [] more whole none =
    let plain = (Each-tail is_line_byte b more none).0 in
    true≢false (sym (sym (ap is_line_byte (whole_alone b whole)) ∙ plain))
not_whole b (c ∷ bytes) more whole none =
    not_whole c bytes more (whole_tail b (c ∷ bytes) whole) (Each-tail is_line_byte b (c ∷ (bytes ++ more)) none).1

pub one_cut : (whole rest its left : List ℕ) → AreWhole whole → HasNoLineFeed rest → AreWhole its → HasNoLineFeed left
    → whole ++ rest ≡ its ++ left
    → (whole ≡ its) × (rest ≡ left)
one_cut [] rest [] left w none o no_more same = (refl, same)
one_cut [] rest (y ∷ its) left w none o no_more same = absurd (not_whole y its left o (subst HasNoLineFeed same none))
one_cut (x ∷ whole) rest [] left w none o no_more same = absurd (not_whole x whole rest w (subst HasNoLineFeed (sym same) no_more))
one_cut (x ∷ whole) rest (y ∷ its) left w none o no_more same =
    let behind = one_cut whole rest its left (whole_tail x whole w) none (whole_tail y its o) no_more (tails same) in
    (ap (λ n. n ∷ whole) (heads same) ∙ ap (λ all. y ∷ all) behind.0, behind.1)
