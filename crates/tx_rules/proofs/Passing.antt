-- How many members of a list pass a test, and where.
use Rattle.std.proofs.Common.{◌≡◌, ℕ, zero, suc, ◌<◌, ◌≤◌, Bool, true, false, cond, List, [], ◌∷◌, length, get_or, refl, sym, arith}
use Rattle.std.specs.Prelude.{filter}
use Rattle.std.proofs.lemmas.Bool.{true≢false}

module _ {X : Type 0} (p : X → Bool) where
  -- a place of one that passes
  pub record PassesAt (xs : List X) (d : X) : Type 0 where
    pub place : ℕ
    pub within : place < length xs
    pub passes : p (get_or xs place d) ≡ true

  pub some_kept : (xs : List X) (i : ℕ) (d : X) → i < length xs → p (get_or xs i d) ≡ true → 1 ≤ length (filter p xs)
  some_kept [] i d within passes = absurd (omega (arith, within))
  some_kept (x ∷ xs) zero d within passes = go (p x) passes
    where
      go : (b : Bool) → b ≡ true → 1 ≤ length (cond b (x ∷ filter p xs) (filter p xs))
      go true is = omega arith
      go false is = absurd (true≢false (sym is))
  some_kept (x ∷ xs) (suc i) d within passes = go (p x) (some_kept xs i d (omega (arith, within)) passes)
    where
      go : (b : Bool) → 1 ≤ length (filter p xs) → 1 ≤ length (cond b (x ∷ filter p xs) (filter p xs))
      go true some = omega (arith, some)
      go false some = some

  pub two_kept : (xs : List X) (i j : ℕ) (d : X) → i < j → j < length xs → p (get_or xs i d) ≡ true → p (get_or xs j d) ≡ true
      → 2 ≤ length (filter p xs)
  two_kept [] i j d below within first second = absurd (omega (arith, within))
  two_kept (x ∷ xs) i zero d below within first second = absurd (omega (arith, below))
  two_kept (x ∷ xs) zero (suc j) d below within first second = go (p x) first (some_kept xs j d (omega (arith, within)) second)
    where
      go : (b : Bool) → b ≡ true → 1 ≤ length (filter p xs) → 2 ≤ length (cond b (x ∷ filter p xs) (filter p xs))
      go true is some = omega (arith, some)
      go false is some = absurd (true≢false (sym is))
  two_kept (x ∷ xs) (suc i) (suc j) d below within first second =
      go (p x) (two_kept xs i j d (omega (arith, below)) (omega (arith, within)) first second)
    where
      go : (b : Bool) → 2 ≤ length (filter p xs) → 2 ≤ length (cond b (x ∷ filter p xs) (filter p xs))
      go true some = omega (arith, some)
      go false some = some

  pub some_passes : (xs : List X) (d : X) → 1 ≤ length (filter p xs) → PassesAt xs d
  some_passes [] d some = absurd (omega (arith, some))
  some_passes (x ∷ xs) d some = go (p x) refl (some_passes xs d) some
    where
      later : PassesAt xs d → PassesAt (x ∷ xs) d
      later at = record { place = suc at.place; within = omega (arith, at.within); passes = at.passes }

      go : (b : Bool) → p x ≡ b → (1 ≤ length (filter p xs) → PassesAt xs d) → 1 ≤ length (cond b (x ∷ filter p xs) (filter p xs))
          → PassesAt (x ∷ xs) d
      go true is next some = record { place = 0; within = omega arith; passes = is }
      go false is next some = later (next some)

  -- a place of another one that passes
  pub record PassesBeside (xs : List X) (i : ℕ) (d : X) : Type 0 where
    pub place : ℕ
    pub within : place < length xs
    pub other : place ≡ i → ⊥
    pub passes : p (get_or xs place d) ≡ true

  pub another_passes : (xs : List X) (i : ℕ) (d : X) → 2 ≤ length (filter p xs) → PassesBeside xs i d
  another_passes [] i d two = absurd (omega (arith, two))
  another_passes (x ∷ xs) zero d two = go (p x) two
    where
      later : PassesAt xs d → PassesBeside (x ∷ xs) zero d
      later at = record { place = suc at.place; within = omega (arith, at.within); other = λ is. omega (arith, is); passes = at.passes }

      go : (b : Bool) → 2 ≤ length (cond b (x ∷ filter p xs) (filter p xs)) → PassesBeside (x ∷ xs) zero d
      go true two = later (some_passes xs d (omega (arith, two)))
      go false two = later (some_passes xs d (omega (arith, two)))
  another_passes (x ∷ xs) (suc i) d two = go (p x) refl (another_passes xs i d) two
    where
      later : PassesBeside xs i d → PassesBeside (x ∷ xs) (suc i) d
      later at =
          record { place = suc at.place; within = omega (arith, at.within); other = λ is. at.other (omega (arith, is)); passes = at.passes }

      go : (b : Bool) → p x ≡ b → (2 ≤ length (filter p xs) → PassesBeside xs i d) → 2 ≤ length (cond b (x ∷ filter p xs) (filter p xs))
          → PassesBeside (x ∷ xs) (suc i) d
      go true is next two = record { place = 0; within = omega arith; other = λ same. omega (arith, same); passes = is }
      go false is next two = later (next two)
