-- What the codes that are held say of the forms that were said.
use Rattle.std.proofs.Common.{◌≡◌, Bool, true, false, cond, ◌||◌, List, [], ◌∷◌, ◌++◌, is_eq, refl, ap, sym, ◌∙◌, true≢false, length, arith}
use Rattle.std.proofs.lemmas.Cmp.{lists_total, eq_by_cmp_equiv}
use Rattle.std.proofs.lemmas.List.Folds.{list_any-append}
use Rattle.std.specs.Cmp.Lexicographic.{slice_cmp}
use Rattle.std.specs.List.{list_any}
use Rattle.std.specs.Ordering.{eq_by_cmp}
use Rattle.edn_model.specs.Form as form
use Rattle.edn_model.specs.Likeness.{alike, any}
use Rattle.edn_duplicates.specs.Code.{IsCode}
use Rattle.edn_duplicates.specs.Inside.{IsDistinctInside}
use Rattle.edn_duplicates.specs.FormCodes.{held, HasOneMore, AreSaid}
use Rattle.edn_duplicates.specs.declared.coded.Coded.{Coded}
use Rattle.edn_duplicates.specs.declared.token.CodeToken.{CodeToken}
use Rattle.edn_duplicates.proofs.Codes.{codes_with_last, any_same, same_code}
use Rattle.edn_duplicates.proofs.Likeness.{any_from, alike_from}
use Rattle.edn_duplicates.specs.Order.{token_cmp, token_total, tokens_of}
use Rattle.edn_duplicates.proofs.Orders.{same_key}
use Rattle.edn_duplicates.proofs.Tokens.{code_exact}

same_answers : (a b : Bool) → (a ≡ true → b ≡ true) → (b ≡ true → a ≡ true) → a ≡ b
same_answers true b p q = sym (p refl)
same_answers false true p q = q refl
same_answers false false p q = refl

or_back : (a m : Bool) → cond a true m ≡ (m || (a || false))
or_back true true = refl
or_back true false = refl
or_back false true = refl
or_back false false = refl

abbrev pub is_one : List CodeToken → List CodeToken → Bool
is_one = eq_by_cmp (slice_cmp token_cmp)

has_one_more : (q code : List CodeToken) (xs : List (List CodeToken)) (b : Bool) → b ≡ list_any (is_one q) xs
    → cond (is_eq (slice_cmp token_cmp code q)) true b ≡ list_any (is_one q) (xs ++ code ∷ [])
has_one_more q code xs b e =
    ap (λ z. cond z true b) ((eq_by_cmp_equiv (lists_total token_total)).symm code q) ∙ ap (λ z. cond (is_one q code) true z) e
    ∙ or_back (is_one q code) (list_any (is_one q) xs) ∙ sym (list_any-append (is_one q) xs (code ∷ []))

pub said_none : AreSaid form.no_forms []
said_none = record { codes = []; are = tt; same = λ q. refl }

pub held_is_alike : (fs : form.Forms) (f : form.Form) (a : Coded) (keys : List Coded) → AreSaid fs keys → IsCode token_cmp f (tokens_of a)
    → IsDistinctInside f
    → held a keys ≡ any (alike f) fs
held_is_alike fs f a keys s c d =
    s.same a
    ∙ same_answers _ (any (alike f) fs)
    (λ h. any_from token_cmp token_total code_exact (alike f) (tokens_of a)
    (λ g k. alike_from token_cmp token_total code_exact f g (tokens_of a) c k) fs s.codes s.are h)
    (λ h. any_same token_cmp token_total code_exact (alike f) (tokens_of a)
    (λ g t r k. same_code token_cmp token_total code_exact f g (tokens_of a) t d r c k) fs s.codes s.are h)

pub said_more : (fs : form.Forms) (f : form.Form) (a : Coded) (old new : List Coded) → AreSaid fs old → IsCode token_cmp f (tokens_of a)
    → HasOneMore a old new
    → AreSaid (form.with_last fs f) new
said_more fs f a old new s c up =
    record {
      codes = s.codes ++ (tokens_of a) ∷ [];
      are = codes_with_last token_cmp token_total code_exact fs f s.codes (tokens_of a) s.are c;
      same = λ q. up q ∙ has_one_more (tokens_of q) (tokens_of a) s.codes (held q old) (s.same q);
    }

-- ---- one more code

-- two codes in the other order
turned : (a b : Coded) → is_one (tokens_of a) (tokens_of b) ≡ is_one (tokens_of b) (tokens_of a)
turned a b = (eq_by_cmp_equiv (lists_total token_total)).symm (tokens_of a) (tokens_of b)

held_turned : (a : Coded) (xs : List Coded) → list_any (λ y. is_one (tokens_of y) (tokens_of a)) xs ≡ held a xs
held_turned a [] = refl
held_turned a (x ∷ xs) =
    ap (λ z. z || list_any (λ y. is_one (tokens_of y) (tokens_of a)) xs) (turned x a)
    ∙ ap (λ z. is_one (tokens_of a) (tokens_of x) || z) (held_turned a xs)

-- what a search of some codes finds
pub found : (a : Coded) (xs ys : List Coded) (b : Bool) → ys ≡ xs → b ≡ list_any (λ y. is_one (tokens_of y) (tokens_of a)) ys → held a xs ≡ b
found a xs ys b same is =
    sym (is ∙ ap (λ zs. list_any (λ y. is_one (tokens_of y) (tokens_of a)) zs) same ∙ held_turned a xs)

held_both : (q : Coded) (xs ys : List Coded) → held q (xs ++ ys) ≡ (held q xs || held q ys)
held_both q xs ys = list_any-append (λ c. is_one (tokens_of q) (tokens_of c)) xs ys

or_true : (a b : Bool) → a ≡ true → (a || b) ≡ true
or_true true b h = refl
or_true false b h = absurd (true≢false (sym h))

or_false : (a : Bool) → (a || false) ≡ a
or_false true = refl
or_false false = refl

-- a code that is among the few is there
pub among_few : (a : Coded) (few many : List Coded) → held a few ≡ true → held a (few ++ many) ≡ true
among_few a few many h = held_both a few many ∙ or_true (held a few) (held a many) h

-- and one that is not is nowhere, where there are no others
pub in_neither : (a : Coded) (few many : List Coded) → held a few ≡ false → length many ≡ 0 → held a (few ++ many) ≡ false
in_neither a few [] h none = held_both a few [] ∙ or_false (held a few) ∙ h
in_neither a few (x ∷ xs) h none = absurd (omega arith)

-- a code that is there makes no difference
pub had_before : (a : Coded) (xs : List Coded) → held a xs ≡ true → HasOneMore a xs xs
had_before a xs h q =
    elim (is_one (tokens_of a) (tokens_of q)) as (λ b. is_one (tokens_of a) (tokens_of q) ≡ b → held q xs ≡ cond b true (held q xs)) [
      | true ↦ λ e. ap (λ ts. list_any (λ c. is_one ts (tokens_of c)) xs)
          (sym (same_key (lists_total token_total) code_exact (tokens_of a) (tokens_of q) e)) ∙ h
      | false ↦ λ _. refl
    ] refl

or_between : (f a m : Bool) → ((f || (a || false)) || m) ≡ cond a true (f || m)
or_between true true m = refl
or_between true false m = refl
or_between false true m = refl
or_between false false m = refl

or_behind : (f a m : Bool) → (f || cond a true m) ≡ cond a true (f || m)
or_behind true true m = refl
or_behind true false m = refl
or_behind false true m = refl
or_behind false false m = refl

-- one more of the few
pub one_of_few : (a : Coded) (few more many : List Coded) → more ≡ few ++ a ∷ [] → HasOneMore a (few ++ many) (more ++ many)
one_of_few a few more many is q =
    held_both q more many ∙ ap (λ z. held q z || held q many) is ∙ ap (λ z. z || held q many) (held_both q few (a ∷ []))
    ∙ or_between (held q few) (is_one (tokens_of q) (tokens_of a)) (held q many)
    ∙ ap (λ z. cond z true (held q few || held q many)) (turned q a)
    ∙ ap (λ z. cond (is_one (tokens_of a) (tokens_of q)) true z) (sym (held_both q few many))

-- the last of the few becomes one of the many
pub moved : (a : Coded) (few less many more : List Coded) → few ≡ less ++ a ∷ [] → HasOneMore a many more
    → (q : Coded) → held q (less ++ more) ≡ held q (few ++ many)
moved a few less many more is added q =
    held_both q less more ∙ ap (λ z. held q less || z) (added q)
    ∙ or_behind (held q less) (is_one (tokens_of a) (tokens_of q)) (held q many)
    ∙ ap (λ z. cond (is_one (tokens_of a) (tokens_of q)) true z) (sym (held_both q less many)) ∙ sym (one_of_few a less few many is q)
