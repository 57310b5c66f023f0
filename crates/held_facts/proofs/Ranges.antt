-- A range from the first place where the wanted entries may stand has them first, and a walk of it may end behind them.
use Rattle.std.proofs.Common.{◌≡◌, ℕ, Bool, true, false, cond, ◌&&◌, List, [], ◌∷◌, ◌++◌, map, Option, Some, None, refl, ap, sym, ◌∙◌}
use Rattle.std.proofs.Common.{subst}
use Rattle.std.specs.Prelude.{filter}
use Rattle.std.specs.List.{find, AllByRecursion as ByRecursion}
use Rattle.std.specs.List.Sorted.{IsStrictlySortedBy}
use Rattle.std.specs.Map.{keys_of}
use Rattle.std.specs.Cmp.{IsTotalOrder}
use Rattle.std.specs.Ordering.{is_eq, is_le}
use Rattle.std.specs.declared.cmp.Ordering.{Ordering}
use Rattle.std.specs.declared.cmp.Ordering.TheVariants.{Less, Equal, Greater}
use Rattle.std.specs.declared.ops.Bound.TheVariants.{Included, Unbounded}
use Rattle.std.specs.BTreeMap.Range.{entries_between, range_contains}
use Rattle.std.proofs.lemmas.Bool.{true≢false}

-- those that pass stand first: behind one that does not there is none
abbrev pub ComeFirst : {X : Type 0} → (X → Bool) → List X → Type 0
ComeFirst passes [] = Unit {0}
ComeFirst passes (x ∷ xs) = (passes x ≡ false → filter passes xs ≡ []) × ComeFirst passes xs

-- ---- the first

abbrev first_of : {X : Type 0} → List X → Option X
first_of [] = None
first_of (x ∷ xs) = Some x

find-filter : {X : Type 0} (passes : X → Bool) (xs : List X) → find passes xs ≡ first_of (filter passes xs)
find-filter passes [] = refl
find-filter passes (x ∷ xs) = go (passes x) (find-filter passes xs)
  where
    go : (b : Bool) → find passes xs ≡ first_of (filter passes xs)
        → cond b (Some x) (find passes xs) ≡ first_of (cond b (x ∷ filter passes xs) (filter passes xs))
    go false rest = rest
    go true rest = refl

find_same : {X : Type 0} (passes : X → Bool) (xs ys : List X) → filter passes xs ≡ filter passes ys → find passes xs ≡ find passes ys
find_same passes xs ys same = find-filter passes xs ∙ ap first_of same ∙ sym (find-filter passes ys)

find_first : {X : Type 0} (passes : X → Bool) (x : X) (xs : List X) → ComeFirst passes (x ∷ xs)
    → find passes (x ∷ xs) ≡ cond (passes x) (Some x) None
find_first passes x xs first = go (passes x) refl
  where
    go : (b : Bool) → passes x ≡ b → cond b (Some x) (find passes xs) ≡ cond b (Some x) None
    go false is = find-filter passes xs ∙ ap first_of (first.0 is)
    go true is = refl

-- ---- the range

-- a part of the entries that has all the facts that pass, and has them first
pub record Opens {K X : Type 0} (shows : K × ℕ → X) (passes : X → Bool) (part all : List (K × ℕ)) : Type 0 where
  pub same : filter passes (map shows part) ≡ filter passes (map shows all)
  pub first : ComeFirst passes (map shows part)

-- what is found in all is the first of the part, if that passes
pub found_none : {K X : Type 0} (shows : K × ℕ → X) (passes : X → Bool) (part all : List (K × ℕ)) → part ≡ [] → Opens shows passes part all
    → find passes (map shows all) ≡ None
found_none shows passes part all is opens =
    find_same passes (map shows all) (map shows part) (sym opens.same) ∙ ap (λ l. find passes (map shows l)) is

pub found_first : {K X : Type 0} (shows : K × ℕ → X) (passes : X → Bool) (p : K × ℕ) (rest part all : List (K × ℕ)) → part ≡ p ∷ rest
    → Opens shows passes part all
    → find passes (map shows all) ≡ cond (passes (shows p)) (Some (shows p)) None
found_first shows passes p rest part all is opens =
    find_same passes (map shows all) (map shows part) (sym opens.same)
    ∙ ap (λ l. find passes (map shows l)) is
    ∙ find_first passes (shows p) (map shows rest) (subst (λ l. ComeFirst passes (map shows l)) is opens.first)

-- as a walk of it begins
pub begun : {K X : Type 0} (shows : K × ℕ → X) (passes : X → Bool) (met : List X) (rest part all : List (K × ℕ)) → met ≡ [] → rest ≡ part
    → Opens shows passes part all
    → (met ++ filter passes (map shows rest) ≡ filter passes (map shows all)) × ComeFirst passes (map shows rest)
begun shows passes met rest part all none is opens = (
  ap (λ l. l ++ filter passes (map shows rest)) none ∙ ap (λ l. filter passes (map shows l)) is ∙ opens.same,
  subst (λ l. ComeFirst passes (map shows l)) (sym is) opens.first,
)

pub begun_by : {K X Y : Type 0} (read : X → Y) (shows : K × ℕ → X) (passes : X → Bool) (met : List Y) (rest part all : List (K × ℕ))
    → met ≡ [] → rest ≡ part → Opens shows passes part all
    → (met ++ map read (filter passes (map shows rest)) ≡ map read (filter passes (map shows all))) × ComeFirst passes (map shows rest)
begun_by read shows passes met rest part all none is opens = (
  ap (λ l. l ++ map read (filter passes (map shows rest))) none
      ∙ ap (λ l. map read (filter passes (map shows l))) is
      ∙ ap (map read) opens.same,
  subst (λ l. ComeFirst passes (map shows l)) (sym is) opens.first,
)

less_of : (r : Ordering) → is_le r ≡ true → is_eq r ≡ false → r ≡ Less
less_of Less le not = refl
less_of Equal le not = absurd (true≢false not)
less_of Greater le not = absurd (true≢false (sym le))

not_equal : (r : Ordering) → r ≡ Less → is_eq r ≡ false
not_equal r is = ap is_eq is

-- what R makes of a key above one that is above the start
above : {K : Type 0} {R : K → K → Ordering} (o : IsTotalOrder R) (s x y : K) → R s x ≡ Less → is_le (R x y) ≡ true → R s y ≡ Less
above {R = R} o s x y less le = go (R x y) refl le
  where
    go : (r : Ordering) → R x y ≡ r → is_le r ≡ true → R s y ≡ Less
    go Less is le = o.trans s x y less is
    go Equal is le = cc (o.antisymm s x, o.antisymm s y, o.congr x y s is)
    go Greater is le = absurd (true≢false (sym le))

-- the entries of a map from `start` on, of which those pass that R does not tell from it
module _ {K X : Type 0} (cmp R : K → K → Ordering) (o : IsTotalOrder R)
    (coarser : (x y : K) → is_le (cmp x y) ≡ true → is_le (R x y) ≡ true)
    (start : K) (least : (k : K) → is_eq (R start k) ≡ true → is_le (cmp start k) ≡ true) (shows : K × ℕ → X) (passes : X → Bool)
    (same : (p : K × ℕ) → passes (shows p) ≡ is_eq (R start p.0)) where
  abbrev within : K → Bool
  within k = range_contains cmp (Included start) Unbounded k

  abbrev from : List (K × ℕ) → List (K × ℕ)
  from es = entries_between cmp (Included start) Unbounded es

  and_true : (b : Bool) → (b && true) ≡ b
  and_true false = refl
  and_true true = refl

  none_above : (x : K) (es : List (K × ℕ)) → R start x ≡ Less → ByRecursion (λ y. cmp x y ≡ Less) (keys_of es)
      → filter passes (map shows (from es)) ≡ []
  none_above x [] less before = refl
  none_above x (y ∷ es) less before = go (within y.0) (none_above x es less before.1)
    where
      fails : passes (shows y) ≡ false
      fails = same y ∙ not_equal (R start y.0) (above o start x y.0 less (coarser x y.0 (ap is_le before.0)))

      go : (b : Bool) → filter passes (map shows (from es)) ≡ [] → filter passes (map shows (cond b (y ∷ from es) (from es))) ≡ []
      go false rest = rest
      go true rest = rw fails rest

  come_first : (es : List (K × ℕ)) → IsStrictlySortedBy cmp (keys_of es) → ComeFirst passes (map shows (from es))
  unfolding IsStrictlySortedBy
  come_first [] sorted = tt
  come_first (x ∷ es) sorted = go (within x.0) refl (come_first es sorted.1)
    where
      less : within x.0 ≡ true → passes (shows x) ≡ false → R start x.0 ≡ Less
      less is not = less_of (R start x.0) (coarser start x.0 (sym (and_true (is_le (cmp start x.0))) ∙ is)) (sym (same x) ∙ not)

      go : (b : Bool) → within x.0 ≡ b → ComeFirst passes (map shows (from es))
          → ComeFirst passes (map shows (cond b (x ∷ from es) (from es)))
      go false is rest = rest
      go true is rest = (λ not. none_above x.0 es (less is not) sorted.0, rest)

  none_before : (es : List (K × ℕ)) → filter passes (map shows (from es)) ≡ filter passes (map shows es)
  none_before [] = refl
  none_before (x ∷ es) = go (within x.0) refl (none_before es)
    where
      go : (b : Bool) → within x.0 ≡ b → filter passes (map shows (from es)) ≡ filter passes (map shows es)
          → filter passes (map shows (cond b (x ∷ from es) (from es))) ≡ filter passes (map shows (x ∷ es))
      go true is rest = ap (λ l. cond (passes (shows x)) (shows x ∷ l) l) rest
      go false is rest = rest ∙ passed_by (passes (shows x)) refl
        where
          passed_by : (b : Bool) → passes (shows x) ≡ b
              → filter passes (map shows es) ≡ cond b (shows x ∷ filter passes (map shows es)) (filter passes (map shows es))
          passed_by false not = refl
          passed_by true does = absurd (true≢false (sym (least x.0 (sym (same x) ∙ does)) ∙ sym (and_true (is_le (cmp start x.0))) ∙ is))

  pub opens : (es : List (K × ℕ)) → IsStrictlySortedBy cmp (keys_of es) → Opens shows passes (from es) es
  opens es sorted = record { same = none_before es; first = come_first es sorted }
