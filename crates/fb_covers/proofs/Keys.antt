-- The attributes of a set, by a test and by a look-up.
use Rattle.std.proofs.Common.{◌≡◌, ℕ, Bool, true, false, cond, ◌||◌, ◌&&◌, eqb, List, [], ◌∷◌, ◌++◌, refl, sym, ap, ◌∙◌, Some, None, Option}
use Rattle.std.proofs.Common.{Bor, take, length, get_or, ◌+◌, ◌<◌, arith}
use Rattle.std.specs.Prelude.{◌↔◌, IsTrue, is_some, Contains}
use Rattle.std.specs.List.{list_any, list_all}
use Rattle.std.specs.Map.{keys_of}
use Rattle.std.specs.Option.{option_copied}
use Rattle.std.specs.Ordering.{nat_cmp, is_eq}
use Rattle.std.proofs.lemmas.List.{take_more}
use Rattle.std.proofs.lemmas.Bool.{true≢false, eqb-true, eq-eqb}
use Rattle.std.proofs.lemmas.Cmp.{nat_cmp_total, nat_eq_equiv}
use Rattle.std.proofs.lemmas.Map.Views.{list_any-from_Contains, Contains-from_any}
use Rattle.shared_map.specs.Entries.{get, put, removed, IsRising}
use Rattle.shared_map.proofs.Lookups.{get-put, get-removed}

is_eq-nat_cmp : (m n : ℕ) → is_eq (nat_cmp m n) ≡ eqb m n
is_eq-nat_cmp m n = grind arith

is_some-cond : {V : Type 0} (b : Bool) (v : V) (o : Option V) → is_some (cond b (Some v) o) ≡ (b || is_some o)
is_some-cond true v o = refl
is_some-cond false v o = refl

module _ {V : Type 0} where
  pub held-get : (es : List (ℕ × V)) (a : ℕ) → list_any (λ b. eqb a b) (keys_of es) ≡ is_some (get nat_cmp es a)
  held-get [] a = refl
  held-get (e ∷ es) a =
      ap (λ b. eqb a e.0 || b) (held-get es a)
      ∙ ap (λ b. b || is_some (get nat_cmp es a)) (sym (is_eq-nat_cmp a e.0))
      ∙ sym (is_some-cond (is_eq (nat_cmp a e.0)) e.1 (get nat_cmp es a))

  -- with one more
  pub held-put : (k : ℕ) (v : V) (es : List (ℕ × V)) (a : ℕ)
      → list_any (λ b. eqb a b) (keys_of (put nat_cmp (k, v) es)) ≡ cond (eqb k a) true (list_any (λ b. eqb a b) (keys_of es))
  held-put k v es a =
      held-get (put nat_cmp (k, v) es) a
      ∙ ap is_some (get-put nat_cmp_total (k, v) es a)
      ∙ go (is_eq (nat_cmp k a))
      ∙ ap (cond (is_eq (nat_cmp k a)) true) (sym (held-get es a))
      ∙ ap (λ b. cond b true (list_any (λ c. eqb a c) (keys_of es))) (is_eq-nat_cmp k a)
    where
      go : (b : Bool) → is_some (cond b (Some v) (get nat_cmp es a)) ≡ cond b true (is_some (get nat_cmp es a))
      go true = refl
      go false = refl

  -- with one less
  pub held-removed : (k : ℕ) (es : List (ℕ × V)) (a : ℕ) → IsRising nat_cmp es
      → list_any (λ b. eqb a b) (keys_of (removed nat_cmp k es)) ≡ cond (eqb k a) false (list_any (λ b. eqb a b) (keys_of es))
  held-removed k es a rising =
      held-get (removed nat_cmp k es) a
      ∙ ap is_some (get-removed nat_cmp_total k es a rising)
      ∙ go (is_eq (nat_cmp k a))
      ∙ ap (cond (is_eq (nat_cmp k a)) false) (sym (held-get es a))
      ∙ ap (λ b. cond b false (list_any (λ c. eqb a c) (keys_of es))) (is_eq-nat_cmp k a)
    where
      go : (b : Bool) → is_some (cond b None (get nat_cmp es a)) ≡ cond b false (is_some (get nat_cmp es a))
      go true = refl
      go false = refl

  -- a set to which a member is added that it has, or from which one is taken that it has not
  pub held-same : (k : ℕ) (es : List (ℕ × V)) (is : Bool) (a : ℕ) → is ≡ list_any (λ b. eqb k b) (keys_of es)
      → list_any (λ b. eqb a b) (keys_of es) ≡ cond (eqb k a) is (list_any (λ b. eqb a b) (keys_of es))
  held-same k es is a same = go (eqb k a) refl
    where
      go : (c : Bool) → eqb k a ≡ c → list_any (λ b. eqb a b) (keys_of es) ≡ cond c is (list_any (λ b. eqb a b) (keys_of es))
      go true equal = sym (same ∙ ap (λ n. list_any (λ b. eqb n b) (keys_of es)) (eqb-true k a equal))
      go false equal = refl

  -- ---- parts

  -- each key of the one is a key of the other
  abbrev AreIn : List (ℕ × V) → List (ℕ × V) → Type 0
  AreIn es fs = (a : ℕ) → IsTrue (list_any (λ b. eqb a b) (keys_of es)) → IsTrue (list_any (λ b. eqb a b) (keys_of fs))

  all-in : (es fs : List (ℕ × V)) → list_all (λ e. is_some (get nat_cmp fs e.0)) es ≡ true → AreIn es fs
  all-in [] fs all a there = absurd (true≢false (sym there))
  all-in (e ∷ es) fs all a there = go (is_some (get nat_cmp fs e.0)) refl all (eqb a e.0) refl there (λ rest. all-in es fs rest a)
    where
      go : (b : Bool) → is_some (get nat_cmp fs e.0) ≡ b → (b && list_all (λ e. is_some (get nat_cmp fs e.0)) es) ≡ true
          → (c : Bool) → eqb a e.0 ≡ c → (c || list_any (λ b. eqb a b) (keys_of es)) ≡ true
          → (list_all (λ e. is_some (get nat_cmp fs e.0)) es ≡ true → IsTrue (list_any (λ b. eqb a b) (keys_of es))
          → IsTrue (list_any (λ b. eqb a b) (keys_of fs)))
          → list_any (λ b. eqb a b) (keys_of fs) ≡ true
      go false is rest c same here next = absurd (true≢false (sym rest))
      go true is rest true same here next = ap (λ n. list_any (λ b. eqb n b) (keys_of fs)) (eqb-true a e.0 same) ∙ held-get fs e.0 ∙ is
      go true is rest false same here next = next rest here

  in-all : (es fs : List (ℕ × V)) → AreIn es fs → list_all (λ e. is_some (get nat_cmp fs e.0)) es ≡ true
  in-all [] fs are = refl
  in-all (e ∷ es) fs are =
      let first : is_some (get nat_cmp fs e.0) ≡ true =
      sym (held-get fs e.0) ∙ are e.0 (ap (λ b. b || list_any (λ c. eqb e.0 c) (keys_of es)) (eq-eqb e.0 e.0 refl)) in
      let rest = in-all es fs (λ a there. are a (or-right (eqb a e.0) (list_any (λ b. eqb a b) (keys_of es)) there)) in
      ap (λ b. b && list_all (λ e. is_some (get nat_cmp fs e.0)) es) first ∙ rest
    where
      or-right : (b c : Bool) → c ≡ true → (b || c) ≡ true
      or-right true c is = refl
      or-right false c is = is

  pub part-iff : (es fs : List (ℕ × V)) (r : Bool) → r ≡ list_all (λ e. is_some (get nat_cmp fs e.0)) es → IsTrue r ↔ AreIn es fs
  part-iff es fs r is = (λ yes. all-in es fs (sym is ∙ yes), λ are. is ∙ in-all es fs are)

-- a test of membership and being a member
pub iff-Contains : (xs : List ℕ) (a : ℕ) (b : Bool) → b ≡ list_any (λ c. eqb a c) xs → IsTrue b ↔ Contains xs a
iff-Contains xs a b is =
    (λ yes. Contains-from_any eqb-true a xs (sym is ∙ yes), λ there. is ∙ list_any-from_Contains nat_eq_equiv a xs there)

pub copied-some : {X : Type 0} (o : Option (Bor X)) → is_some o ≡ is_some (option_copied o)
copied-some None = refl
copied-some (Some x) = refl

-- ---- a list that a set is made of, so far

any-last : (ys : List ℕ) (x a : ℕ) → list_any (λ b. eqb a b) (ys ++ x ∷ []) ≡ cond (eqb x a) true (list_any (λ b. eqb a b) ys)
any-last [] x a = ap (λ b. b || false) (nat_eq_equiv.symm a x) ∙ go (eqb x a)
  where
    go : (b : Bool) → (b || false) ≡ cond b true false
    go true = refl
    go false = refl
any-last (y ∷ ys) x a = ap (λ b. eqb a y || b) (any-last ys x a) ∙ go (eqb a y) (eqb x a)
  where
    go : (b c : Bool) → (b || cond c true (list_any (λ b. eqb a b) ys)) ≡ cond c true (b || list_any (λ b. eqb a b) ys)
    go true true = refl
    go true false = refl
    go false true = refl
    go false false = refl

pub any-more : (xs : List ℕ) (i a : ℕ) → i < length xs
    → list_any (λ b. eqb a b) (take (i + 1) xs) ≡ cond (eqb (get_or xs i 0) a) true (list_any (λ b. eqb a b) (take i xs))
any-more xs i a within = ap (list_any (λ b. eqb a b)) (take_more xs i 0 within) ∙ any-last (take i xs) (get_or xs i 0) a
