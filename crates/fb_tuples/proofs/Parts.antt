-- Parts of a list: what a test that turns once keeps of it, and filters one after another.
use Rattle.std.proofs.Common.{◌≡◌, ℕ, zero, suc, ◌≤◌, Bool, true, false, cond, not, ◌&&◌, List, [], ◌∷◌, length, map, take, drop}
use Rattle.std.proofs.Common.{refl, ap, arith}
use Rattle.std.specs.Prelude.{filter}
use Rattle.std.specs.List.{AllWithin}

module _ {A B : Type 0} (f : A → B) (p : B → Bool) where
  pub front_kept : (xs : List A) (n : ℕ) → n ≤ length xs → AllWithin (λ x. p (f x) ≡ true) xs 0 n
      → AllWithin (λ x. p (f x) ≡ false) xs n (length xs) → map f (take n xs) ≡ filter p (map f xs)
  front_kept [] zero within front back = refl
  front_kept [] (suc n) within front back = absurd (omega (arith, within))
  front_kept (x ∷ xs) zero within front back =
      rw (back 0 x (omega arith) (omega arith))
      (front_kept xs zero (omega arith) (λ k d low high. absurd (omega (arith, high)))
      (λ k d low high. back (suc k) d (omega arith) (omega (arith, high))))
  front_kept (x ∷ xs) (suc n) within front back =
      rw (front 0 x (omega arith) (omega arith))
      (ap (λ l. f x ∷ l) (front_kept xs n (omega (arith, within)) (λ k d low high. front (suc k) d (omega arith) (omega (arith, high)))
      (λ k d low high. back (suc k) d (omega (arith, low)) (omega (arith, high)))))

  pub rest_kept : (xs : List A) (n : ℕ) → n ≤ length xs → AllWithin (λ x. p (f x) ≡ true) xs 0 n
      → AllWithin (λ x. p (f x) ≡ false) xs n (length xs) → map f (drop n xs) ≡ filter (λ y. not (p y)) (map f xs)
  rest_kept [] zero within front back = refl
  rest_kept [] (suc n) within front back = absurd (omega (arith, within))
  rest_kept (x ∷ xs) zero within front back =
      rw (back 0 x (omega arith) (omega arith))
      (ap (λ l. f x ∷ l) (rest_kept xs zero (omega arith) (λ k d low high. absurd (omega (arith, high)))
      (λ k d low high. back (suc k) d (omega arith) (omega (arith, high)))))
  rest_kept (x ∷ xs) (suc n) within front back =
      rw (front 0 x (omega arith) (omega arith))
      (rest_kept xs n (omega (arith, within)) (λ k d low high. front (suc k) d (omega arith) (omega (arith, high)))
      (λ k d low high. back (suc k) d (omega (arith, low)) (omega (arith, high))))

pub filter_twice : {A : Type 0} (p q r : A → Bool) → ((x : A) → r x ≡ (q x && p x)) → (xs : List A) → filter p (filter q xs) ≡ filter r xs
filter_twice p q r both [] = refl
filter_twice p q r both (x ∷ xs) = go (q x) (p x) refl (r x) (both x) (filter_twice p q r both xs)
  where
    go : (b c : Bool) → p x ≡ c → (d : Bool) → d ≡ (b && c) → filter p (filter q xs) ≡ filter r xs
        → filter p (cond b (x ∷ filter q xs) (filter q xs)) ≡ cond d (x ∷ filter r xs) (filter r xs)
    go true true is d says rest = rw (is, says) (ap (λ l. x ∷ l) rest)
    go true false is d says rest = rw (is, says) rest
    go false true is d says rest = rw says rest
    go false false is d says rest = rw says rest

pub filter_agree : {A : Type 0} (p q : A → Bool) → ((x : A) → p x ≡ q x) → (xs : List A) → filter p xs ≡ filter q xs
filter_agree p q same [] = refl
filter_agree p q same (x ∷ xs) = rw (same x, filter_agree p q same xs) refl

pub map_kept : {A B : Type 0} (f : A → B) (p : B → Bool) (xs : List A) → map f (filter (λ x. p (f x)) xs) ≡ filter p (map f xs)
map_kept f p [] = refl
map_kept f p (x ∷ xs) = go (p (f x)) (map_kept f p xs)
  where
    go : (b : Bool) → map f (filter (λ y. p (f y)) xs) ≡ filter p (map f xs)
        → map f (cond b (x ∷ filter (λ y. p (f y)) xs) (filter (λ y. p (f y)) xs)) ≡ cond b (f x ∷ filter p (map f xs)) (filter p (map f xs))
    go true rest = ap (λ l. f x ∷ l) rest
    go false rest = rest
