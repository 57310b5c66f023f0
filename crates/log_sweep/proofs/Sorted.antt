-- Datoms in the order of a law: each group lies together, so what is asked of the neighbours is asked of the group.
use Rattle.std.proofs.Common.{◌≡◌, ℕ, suc, ◌<◌, ◌≤◌, Bool, true, false, cond, not, ◌&&◌, List, [], ◌∷◌, refl, ap, sym, ◌∙◌, subst}
use Rattle.std.proofs.Common.{arith, length, get_or}
use Rattle.std.specs.Prelude.{filter}
use Rattle.std.specs.List.{list_all}
use Rattle.std.specs.List.Sorted.{IsSortedBy, IsStableBy, ties}
use Rattle.std.specs.Borrow.{Bor}
use Rattle.std.specs.Ordering.{is_lt}
use Rattle.std.specs.Cmp.{IsStrictWeakOrder}
use Rattle.std.specs.declared.cmp.Ordering.TheVariants.{Less}
use Rattle.std.proofs.lemmas.List.Sorted.{ranks_by, sorted_far}
use Rattle.std.proofs.lemmas.Bool.{true≢false, and_parts, and_from, not-true}
use Rattle.fb_values.specs.declared.facts.Datom.{Datom}
use Rattle.log_sweep.specs.declared.law.Law.{Law}
use Rattle.log_sweep.specs.Groups.{lent, group_cmp, alike, allows, stands, is_at, keeps_in}
use Rattle.log_sweep.specs.Sweeps.{joins, keeps_swept}
use Rattle.log_sweep.proofs.Orders.{group_cmp_total, alike-same, alike-sym, filter-alike, is_eq-true, reverse-less, ties-alike}

-- none of the later datoms is below an earlier one
abbrev pub in_turn : Law → List Datom → Bool
in_turn law [] = true
in_turn law (x ∷ xs) = list_all (λ y. not (is_lt (group_cmp law y x))) xs && in_turn law xs

-- ---- behind a datom of another group there is none of the group

none_alike : (law : Law) (x y : Datom) (ys : List Datom) → group_cmp law x y ≡ Less
    → list_all (λ z. not (is_lt (group_cmp law z y))) ys ≡ true → filter (alike law x) ys ≡ []
none_alike law x y [] below every = refl
none_alike law x y (z ∷ zs) below every =
    let parts = and_parts (not (is_lt (group_cmp law z y))) (list_all (λ z. not (is_lt (group_cmp law z y))) zs) every in
    go (alike law x z) refl (not-true _ parts.0) (none_alike law x y zs below parts.1)
  where
    go : (b : Bool) → alike law x z ≡ b → is_lt (group_cmp law z y) ≡ false → filter (alike law x) zs ≡ []
        → cond b (z ∷ filter (alike law x) zs) (filter (alike law x) zs) ≡ []
    go false is low rest = rest
    go true is low rest =
        absurd (true≢false
        (sym (ap is_lt (sym ((group_cmp_total law).congr x z y (is_eq-true (group_cmp law x z) is)) ∙ below)) ∙ low))

nothing_later : (law : Law) (x : Datom) (xs : List Datom) → in_turn law (x ∷ xs) ≡ true → joins law x xs ≡ false
    → filter (alike law x) xs ≡ []
nothing_later law x [] turn apart = refl
nothing_later law x (y ∷ ys) turn apart =
    let parts = and_parts (list_all (λ y. not (is_lt (group_cmp law y x))) (y ∷ ys)) (in_turn law (y ∷ ys)) turn in
    let first = and_parts (not (is_lt (group_cmp law y x))) (list_all (λ y. not (is_lt (group_cmp law y x))) ys) parts.0 in
    let rest = and_parts (list_all (λ z. not (is_lt (group_cmp law z y))) ys) (in_turn law ys) parts.1 in
    rw (apart)
    (none_alike law x y ys
    (reverse-less (group_cmp law x y) (group_cmp law y x) ((group_cmp_total law).antisymm x y) (not-true _ first.0)
    (other (alike law y x) refl)) rest.0)
  where
    other : (b : Bool) → alike law y x ≡ b → b ≡ false
    other false is = refl
    other true is = absurd (true≢false (sym (alike-sym law y x is) ∙ apart))

-- ---- the sweep

-- of the group of d, where n of the first datom's group stand
abbrev counted : Law → Datom → ℕ → List Datom → ℕ
counted law d n ds = cond (joins law d ds) n 0

joins-same : (law : Law) (x y : Datom) (ds : List Datom) → alike law x y ≡ true → joins law x ds ≡ joins law y ds
joins-same law x y [] is = refl
joins-same law x y (z ∷ ds) is = alike-same law x y z is

module _ (law : Law) (schema : List Datom) (d x : Datom) (xs : List Datom) (n : ℕ) where
  -- the first datom is of the group
  of_group : alike law d x ≡ true → in_turn law (x ∷ xs) ≡ true
      → allows law schema n x (joins law x xs && is_at x.t xs) ≡ true
      → keeps_in law schema (counted law d (cond (joins law x xs) (stands n x) 0) xs) (filter (alike law d) xs) ≡ true
      → (allows law schema n x (is_at x.t (filter (alike law d) xs)) && keeps_in law schema (stands n x) (filter (alike law d) xs)) ≡ true
  of_group is turn allowed kept = go (joins law x xs) refl allowed kept
    where
      joined_at : (ds : List Datom) → joins law d ds ≡ true → is_at x.t (filter (alike law d) ds) ≡ is_at x.t ds
      joined_at [] joined = absurd (true≢false (sym joined))
      joined_at (y ∷ ys) joined = rw joined refl

      go : (b : Bool) → joins law x xs ≡ b → allows law schema n x (b && is_at x.t xs) ≡ true
          → keeps_in law schema (counted law d (cond b (stands n x) 0) xs) (filter (alike law d) xs) ≡ true
          → (allows law schema n x (is_at x.t (filter (alike law d) xs)) && keeps_in law schema (stands n x) (filter (alike law d) xs)) ≡ true
      go true joined allow keep =
          let also = joins-same law d x xs is ∙ joined in
          and_from _ _ (ap (allows law schema n x) (joined_at xs also) ∙ allow)
          (subst (λ b. keeps_in law schema (cond b (stands n x) 0) (filter (alike law d) xs) ≡ true) also keep)
      go false joined allow keep =
          let none = filter-alike law d x is xs ∙ nothing_later law x xs turn joined in
          subst (λ l. (allows law schema n x (is_at x.t l) && keeps_in law schema (stands n x) l) ≡ true) (sym none)
          (and_from _ _ allow refl)

  -- it is of another one
  of_another : alike law d x ≡ false
      → keeps_in law schema (counted law d (cond (joins law x xs) (stands n x) 0) xs) (filter (alike law d) xs) ≡ true
      → keeps_in law schema 0 (filter (alike law d) xs) ≡ true
  of_another is kept = subst (λ m. keeps_in law schema m (filter (alike law d) xs) ≡ true) (none_stand (joins law d xs) refl (joins law x xs) refl) kept
    where
      back : (ds : List Datom) → joins law d ds ≡ true → joins law x ds ≡ true → alike law d x ≡ true
      back [] d_joins x_joins = absurd (true≢false (sym d_joins))
      back (y ∷ ys) d_joins x_joins = alike-same law d y x d_joins ∙ alike-sym law x y x_joins

      none_stand : (b : Bool) → joins law d xs ≡ b → (c : Bool) → joins law x xs ≡ c → cond b (cond c (stands n x) 0) 0 ≡ 0
      none_stand false d_joins c x_joins = refl
      none_stand true d_joins false x_joins = refl
      none_stand true d_joins true x_joins = absurd (true≢false (sym (back xs d_joins x_joins) ∙ is))

pub swept-kept : (law : Law) (schema ds : List Datom) (n : ℕ) → in_turn law ds ≡ true → keeps_swept law schema n ds ≡ true
    → (d : Datom) → keeps_in law schema (counted law d n ds) (filter (alike law d) ds) ≡ true
swept-kept law schema [] n turn swept d = refl
swept-kept law schema (x ∷ xs) n turn swept d =
    let parts = and_parts (allows law schema n x (joins law x xs && is_at x.t xs))
    (keeps_swept law schema (cond (joins law x xs) (stands n x) 0) xs) swept in
    let later = and_parts (list_all (λ y. not (is_lt (group_cmp law y x))) xs) (in_turn law xs) turn in
    go (alike law d x) refl parts.0 (swept-kept law schema xs (cond (joins law x xs) (stands n x) 0) later.1 parts.1 d)
  where
    go : (b : Bool) → alike law d x ≡ b → allows law schema n x (joins law x xs && is_at x.t xs) ≡ true
        → keeps_in law schema (counted law d (cond (joins law x xs) (stands n x) 0) xs) (filter (alike law d) xs) ≡ true
        → keeps_in law schema (cond b n 0) (cond b (x ∷ filter (alike law d) xs) (filter (alike law d) xs)) ≡ true
    go true is allowed kept = of_group law schema d x xs n is turn allowed kept
    go false is allowed kept = of_another law schema d x xs n is kept

-- from no datom that stands
pub swept-groups : (law : Law) (schema ds : List Datom) → in_turn law ds ≡ true → keeps_swept law schema 0 ds ≡ true
    → (d : Datom) → keeps_in law schema 0 (filter (alike law d) ds) ≡ true
swept-groups law schema ds turn swept d =
    subst (λ m. keeps_in law schema m (filter (alike law d) ds) ≡ true) (none (joins law d ds)) (swept-kept law schema ds 0 turn swept d)
  where
    none : (b : Bool) → ◌≡◌ {A = ℕ} (cond b 0 0) 0
    none true = refl
    none false = refl

-- ---- what a stable sort of references gives

abbrev pub below : Law → Bor Datom → Bor Datom → Bool
below law x y = is_lt (group_cmp law x.now y.now)

pub below-weak : (law : Law) → IsStrictWeakOrder (below law)
below-weak law = ranks_by (group_cmp_total law) (λ (x : Bor Datom). x.now)

all_later : (law : Law) (x : Bor Datom) (xs : List (Bor Datom))
    → ((k : ℕ) (d : Bor Datom) → k < length xs → below law (get_or xs k d) x ≡ false)
    → list_all (λ y. not (is_lt (group_cmp law y x.now))) (lent xs) ≡ true
all_later law x [] far = refl
all_later law x (y ∷ ys) far =
    and_from _ _ (ap not (far 0 x (omega arith))) (all_later law x ys (λ k d within. far (suc k) d (omega (arith, within))))

far-in_turn : (law : Law) (xs : List (Bor Datom))
    → ((i j : ℕ) (d : Bor Datom) → i ≤ j → j < length xs → below law (get_or xs j d) (get_or xs i d) ≡ false)
    → in_turn law (lent xs) ≡ true
far-in_turn law [] far = refl
far-in_turn law (x ∷ xs) far =
    and_from _ _ (all_later law x xs (λ k d within. far 0 (suc k) d (omega arith) (omega (arith, within))))
    (far-in_turn law xs (λ i j d order within. far (suc i) (suc j) d (omega (arith, order)) (omega (arith, within))))

pub sorted-in_turn : (law : Law) (xs : List (Bor Datom)) → IsSortedBy (below law) xs → in_turn law (lent xs) ≡ true
sorted-in_turn law xs sorted = far-in_turn law xs (sorted_far (below law) (below-weak law) xs sorted)

lent-filter : (law : Law) (x : Bor Datom) (xs : List (Bor Datom)) → lent (filter (ties (below law) x) xs) ≡ filter (alike law x.now) (lent xs)
lent-filter law x [] = refl
lent-filter law x (y ∷ ys) =
    go (ties (below law) x y) (lent-filter law x ys)
    ∙ ap (λ b. cond b (y.now ∷ filter (alike law x.now) (lent ys)) (filter (alike law x.now) (lent ys))) (ties-alike law x.now y.now)
  where
    go : (b : Bool) → lent (filter (ties (below law) x) ys) ≡ filter (alike law x.now) (lent ys)
        → lent (cond b (y ∷ filter (ties (below law) x) ys) (filter (ties (below law) x) ys))
        ≡ cond b (y.now ∷ filter (alike law x.now) (lent ys)) (filter (alike law x.now) (lent ys))
    go true rest = ap (λ l. y.now ∷ l) rest
    go false rest = rest

pub stable-groups : (law : Law) (xs ys : List (Bor Datom)) → IsStableBy (below law) xs ys
    → (d : Datom) → filter (alike law d) (lent ys) ≡ filter (alike law d) (lent xs)
stable-groups law xs ys stable d =
    let x : Bor Datom = record { ref_ptr = (0, 0); now = d } in
    sym (lent-filter law x ys) ∙ ap lent (stable x) ∙ lent-filter law x xs
