-- The first value of an entity in a list that is in the order of the entities.
use Rattle.std.proofs.Common.{◌≡◌, ℕ, zero, suc, ◌<◌, ◌≤◌, Bool, true, false, List, [], ◌∷◌, length, get_or}
use Rattle.std.proofs.Common.{refl, sym, ap, ◌∙◌, subst, arith, Option, Some, None, ltb}
use Rattle.std.specs.Prelude.{nat_eq, drop}
use Rattle.std.proofs.Math.ListN.{drop_of_length-le, get_or-map}
use Rattle.std.proofs.lemmas.List.{length-map}
use Rattle.std.specs.List.Sorted.{IsNonDecreasingBy}
use Rattle.std.specs.Borrow.{Bor}
use Rattle.std.specs.List.{AllWithin}
use Rattle.std.proofs.lemmas.Bool.{eq-eqb, eqb-true, eqb-false, ltb-true, ltb-false}
use Rattle.fb_values.specs.declared.facts.Datom.{Datom}
use Rattle.fb_values.specs.declared.facts.Value.{Value}
use Rattle.fb_tuples.specs.Lent.{datoms_lent}
use Rattle.fb_tuples.specs.Gathered.{AreByEntity, first_of}

pub not_same : (m n : ℕ) → (m ≡ n → ⊥) → nat_eq m n ≡ false
not_same m n apart = go (nat_eq m n) refl
  where
    go : (b : Bool) → nat_eq m n ≡ b → b ≡ false
    go true is = absurd (apart (eqb-true m n is))
    go false is = refl

none_above : (ds : List Datom) (e : ℕ) → ((k : ℕ) (d : Datom) → k < length ds → e < (get_or ds k d).e) → first_of e ds ≡ None
none_above [] e above = refl
none_above (d ∷ ds) e above =
    rw (not_same d.e e (λ same. absurd (omega (arith, same, above 0 d (omega arith)))))
    (none_above ds e (λ k x within. above (suc k) x (omega (arith, within))))

-- from a place on, before which the entities are below the one that is looked for
module _ (e : ℕ) where
  first_behind : (xs : List (Bor Datom)) (n : ℕ) → n ≤ length xs → AllWithin (λ x. ltb x.now.e e ≡ true) xs 0 n
      → (o : Option Value) → (AreByEntity (datoms_lent (drop n xs)) → o ≡ first_of e (datoms_lent (drop n xs)))
      → AreByEntity (datoms_lent xs) → o ≡ first_of e (datoms_lent xs)
  unfolding AreByEntity
  first_behind xs zero within front o here rising = here rising
  first_behind [] (suc n) within front o here rising = absurd (omega (arith, within))
  first_behind (x ∷ xs) (suc n) within front o here rising =
      let low : x.now.e < e = ltb-true x.now.e e (front 0 x (omega arith) (omega arith)) in
      rw (not_same x.now.e e (λ same. absurd (omega (arith, same, low))))
      (first_behind xs n (omega (arith, within)) (λ k d from to. front (suc k) d (omega arith) (omega (arith, to))) o here
      (λ i j d le below. rising (suc i) (suc j) d (omega (arith, le)) (omega (arith, below))))

  first_at : (xs : List (Bor Datom)) (n : ℕ) (d : Bor Datom) → n < length xs → d ≡ get_or xs n d
      → (ys : List (Bor Datom)) × (drop n xs ≡ d ∷ ys)
  first_at [] n d within at = absurd (omega (arith, within))
  first_at (x ∷ xs) zero d within at = (xs, ap (λ y. y ∷ xs) (sym at))
  first_at (x ∷ xs) (suc n) d within at = first_at xs n d (omega (arith, within)) at

  pub first_there : (xs : List (Bor Datom)) (n : ℕ) → AreByEntity (datoms_lent xs) → AllWithin (λ x. ltb x.now.e e ≡ true) xs 0 n
      → (d : Bor Datom) → n < length xs → d ≡ get_or xs n d → d.now.e ≡ e → Some d.now.v ≡ first_of e (datoms_lent xs)
  first_there xs n rising front d within at same =
      let rest = first_at xs n d within at in
      first_behind xs n (omega (arith, within)) front (Some d.now.v) (λ up. rw rest.1 (rw (eq-eqb d.now.e e same) refl)) rising

  pub none_there : (xs : List (Bor Datom)) (n : ℕ) → AreByEntity (datoms_lent xs) → AllWithin (λ x. ltb x.now.e e ≡ true) xs 0 n
      → n ≤ length xs → length xs ≤ n → None ≡ first_of e (datoms_lent xs)
  none_there xs n rising front within past =
      first_behind xs n within front None (λ up. rw (drop_of_length-le xs past) refl) rising

  pub other_there : (xs : List (Bor Datom)) (n : ℕ) → AreByEntity (datoms_lent xs) → AllWithin (λ x. ltb x.now.e e ≡ true) xs 0 n
      → AllWithin (λ x. ltb x.now.e e ≡ false) xs n (length xs) → (d : Bor Datom) → n < length xs → d ≡ get_or xs n d
      → (d.now.e ≡ e → ⊥) → None ≡ first_of e (datoms_lent xs)
  unfolding AreByEntity
  other_there xs n rising front back d within at apart =
      let rest = first_at xs n d within at in
      first_behind xs n (omega (arith, within)) front None (λ up. above_all rest.0 rest.1 up) rising
    where
      above : e < d.now.e
      above =
          let from : e ≤ d.now.e =
          ltb-false d.now.e e (ap (λ (x : Bor Datom). ltb x.now.e e) at ∙ back n d (omega arith) within) in
          strict (nat_eq d.now.e e) refl from
        where
          strict : (b : Bool) → nat_eq d.now.e e ≡ b → e ≤ d.now.e → e < d.now.e
          strict true is from = absurd (apart (eqb-true d.now.e e is))
          strict false is from = omega (arith, from, eqb-false d.now.e e is)

      above_all : (ys : List (Bor Datom)) → drop n xs ≡ d ∷ ys → AreByEntity (datoms_lent (drop n xs))
          → None ≡ first_of e (datoms_lent (drop n xs))
      above_all ys is up =
          let rises : AreByEntity (datoms_lent (d ∷ ys)) = subst (λ l. AreByEntity (datoms_lent l)) is up in
          sym (ap (λ l. first_of e (datoms_lent l)) is
          ∙ none_above (datoms_lent (d ∷ ys)) e (λ k x below. omega (arith, above, rises 0 k x (omega arith) below)))

pub by_entity : (xs : List (Bor Datom)) → AreByEntity (datoms_lent xs) → IsNonDecreasingBy (λ d. d.now.e) xs
unfolding AreByEntity
by_entity xs rising i j d le within =
    let up = rising i j d.now le (rw length-map within) in
    omega (
      arith,
      up,
      ap (λ (x : Datom). x.e) (get_or-map (λ (b : Bor Datom). b.now) xs i d),
      ap (λ (x : Datom). x.e) (get_or-map (λ (b : Bor Datom). b.now) xs j d),
    )
