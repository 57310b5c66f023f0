-- Lists that go together, by places and as wholes.
use Rattle.std.proofs.Common.{◌≡◌, ℕ, ◌+◌, ◌-◌, ◌<◌, ◌≤◌, zero, suc, List, [], ◌∷◌, map, length, get_or, take, drop, Option, Some, None}
use Rattle.std.proofs.Common.{refl, sym, ap, subst, arith}
use Rattle.std.proofs.lemmas.List.{take_rest}
use Rattle.std.specs.Prelude.{IfSome}
use Rattle.std.specs.Borrow.{Bor}
use Rattle.command_line.specs.Views.{names_in}
use Rattle.std.specs.List.{slice_get, AllByRecursion}
use Rattle.fb_run.specs.Outside.{EachOf}

pub some_then : {A : Type 0} (P : A → Type 0) (o : Option A) (x : A) → o ≡ Some x → P x → IfSome o P
some_then P o x is p = subst (λ z. IfSome z P) (sym is) p

pub none_then : {A : Type 0} (P : A → Type 0) (o : Option A) → o ≡ None → IfSome o P
none_then P o is = subst (λ z. IfSome z P) (sym is) tt

module _ {A : Type 0} where
  pub there : (xs : List A) (k : ℕ) → k < length xs → (x : A) × (slice_get xs k ≡ Some x)
  there [] k within = absurd (omega arith)
  there (x ∷ xs) zero within = (x, refl)
  there (x ∷ xs) (suc k) within = there xs k (omega (arith, within))

  pub all_at : (P : A → Type 0) (xs : List A) → ((k : ℕ) (x : A) → slice_get xs k ≡ Some x → P x) → AllByRecursion P xs
  all_at P [] at = tt
  all_at P (x ∷ xs) at = (at zero x refl, all_at P xs (λ k y e. at (suc k) y e))

module _ {A B : Type 0} where
  pub map_at : (f : A → B) (xs : List A) (k : ℕ) (y : B) → slice_get (map f xs) k ≡ Some y → (x : A) × (slice_get xs k ≡ Some x) × (f x ≡ y)
  map_at f [] k y e = absurd (cc)
  map_at f (x ∷ xs) zero y e = let same : f x ≡ y = cc in (x, refl, same)
  map_at f (x ∷ xs) (suc k) y e = map_at f xs k y e

  pub at_map : (f : A → B) (xs : List A) (k : ℕ) (x : A) → slice_get xs k ≡ Some x → slice_get (map f xs) k ≡ Some (f x)
  at_map f [] k x e = absurd (cc)
  at_map f (y ∷ xs) zero x e = let same : y ≡ x = cc in ap (λ z. Some (f z)) same
  at_map f (y ∷ xs) (suc k) x e = at_map f xs k x e

  -- pairs by places make a whole
  pub each_at : (P : ℕ → A → B → Type 0) (n : ℕ) (xs : List A) (ys : List B) → length xs ≡ length ys
      → ((k m : ℕ) (x : A) (y : B) → m ≡ n + k → slice_get xs k ≡ Some x → slice_get ys k ≡ Some y → P m x y) → EachOf P n xs ys
  each_at P n [] [] same at = tt
  each_at P n [] (y ∷ ys) same at = absurd (omega (arith, same))
  each_at P n (x ∷ xs) [] same at = absurd (omega (arith, same))
  each_at P n (x ∷ xs) (y ∷ ys) same at = (
    at zero n x y (omega arith) refl refl,
    each_at P (n + 1) xs ys (omega (arith, same)) (λ k m a b is here there. at (suc k) m a b
        (omega (arith, is)) here there),
  )

  pub each_len : (P : ℕ → A → B → Type 0) (n : ℕ) (xs : List A) (ys : List B) → EachOf P n xs ys → length xs ≡ length ys
  each_len P n [] [] each = refl
  each_len P n [] (y ∷ ys) each = absurd each
  each_len P n (x ∷ xs) [] each = absurd each
  each_len P n (x ∷ xs) (y ∷ ys) each = omega (arith, each_len P (n + 1) xs ys each.1)

module _ {A B C : Type 0} (P : ℕ → A → B → Type 0) (Q : ℕ → B → C → Type 0) (R : ℕ → A → C → Type 0)
    (step : (m : ℕ) (x : A) (y : B) (z : C) → P m x y → Q m y z → R m x z) where
  pub each_through : (n : ℕ) (xs : List A) (ys : List B) (zs : List C) → EachOf P n xs ys → EachOf Q n ys zs → EachOf R n xs zs
  each_through n [] [] [] p q = tt
  each_through n [] [] (z ∷ zs) p q = absurd q
  each_through n [] (y ∷ ys) zs p q = absurd p
  each_through n (x ∷ xs) [] zs p q = absurd p
  each_through n (x ∷ xs) (y ∷ ys) [] p q = absurd q
  each_through n (x ∷ xs) (y ∷ ys) (z ∷ zs) p q = (step n x y z p.0 q.0, each_through (n + 1) xs ys zs p.1 q.1)

-- a list by its first element and the rest, as a pattern cuts it
pub cut_first : {A : Type 0} (xs : List A) (d : A) → 1 ≤ length xs → xs ≡ get_or xs 0 d ∷ take (length xs - 1) (drop 1 xs)
cut_first [] d some = absurd (omega (arith, some))
cut_first (x ∷ xs) d some = ap (λ r. x ∷ r) (sym (take_rest (x ∷ xs) 1))

pub names_cut : (names : List (Bor (List ℕ))) (d : Bor (List ℕ)) → 1 ≤ length names
    → names_in names ≡ (get_or names 0 d).now ∷ names_in (take (length names - 1) (drop 1 names))
names_cut names d some = ap names_in (cut_first names d some)
