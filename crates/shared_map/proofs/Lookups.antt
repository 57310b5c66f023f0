-- What is found at a key after an entry more or less.
use Rattle.std.proofs.Common.{◌≡◌, Bool, true, false, cond, List, [], ◌∷◌, refl, sym, ap, ◌∙◌, Some, None}
use Rattle.std.specs.Ordering.{match_ordering, is_eq}
use Rattle.std.specs.Cmp.{IsTotalOrder}
use Rattle.std.specs.declared.cmp.Ordering.{Ordering}
use Rattle.std.specs.declared.cmp.Ordering.TheVariants.{Less, Equal, Greater}
use Rattle.std.proofs.lemmas.Bool.{true≢false}
use Rattle.std.proofs.lemmas.Cmp.{eq_by_cmp_equiv}
use Rattle.shared_map.specs.Entries.{get, put, removed, IsRising}
use Rattle.shared_map.proofs.Sides.{before-all, get-before, is_equal}

-- two tests, of which the second cannot pass where the first does
swapped : {X : Type 0} (a b : Bool) (x y z : X) → (a ≡ true → b ≡ false) → cond a x (cond b y z) ≡ cond b y (cond a x z)
swapped true true x y z apart = absurd (true≢false (apart refl))
swapped true false x y z apart = refl
swapped false b x y z apart = refl

same_both : {X : Type 0} (b : Bool) (x : X) → x ≡ cond b x x
same_both true x = refl
same_both false x = refl

module _ {K V : Type 0} {cmp : K → K → Ordering} (o : IsTotalOrder cmp) where
  pub get-put : (x : K × V) (es : List (K × V)) (q : K) → get cmp (put cmp x es) q ≡ cond (is_eq (cmp x.0 q)) (Some x.1) (get cmp es q)
  get-put x [] q = ap (λ b. cond b (Some x.1) None) ((eq_by_cmp_equiv o).symm q x.0)
  get-put x (e ∷ es) q = go (cmp x.0 e.0) refl (get-put x es q)
    where
      go : (c : Ordering) → cmp x.0 e.0 ≡ c → get cmp (put cmp x es) q ≡ cond (is_eq (cmp x.0 q)) (Some x.1) (get cmp es q)
          → get cmp (match_ordering c (x ∷ e ∷ es) (x ∷ es) (e ∷ put cmp x es)) q
          ≡ cond (is_eq (cmp x.0 q)) (Some x.1) (cond (is_eq (cmp q e.0)) (Some e.1) (get cmp es q))
      go Less is rest = ap (λ b. cond b (Some x.1) (get cmp (e ∷ es) q)) ((eq_by_cmp_equiv o).symm q x.0)
      go Equal is rest =
          let same : is_eq (cmp q x.0) ≡ is_eq (cmp x.0 q) = (eq_by_cmp_equiv o).symm q x.0 in
          let other : is_eq (cmp x.0 q) ≡ is_eq (cmp q e.0) =
          (eq_by_cmp_equiv o).congr x.0 e.0 q (ap is_eq is) ∙ (eq_by_cmp_equiv o).symm e.0 q in
          ap (λ b. cond b (Some x.1) (get cmp es q)) same ∙ doubled (is_eq (cmp x.0 q)) (is_eq (cmp q e.0)) other
        where
          doubled : (a b : Bool) → a ≡ b → cond a (Some x.1) (get cmp es q) ≡ cond a (Some x.1) (cond b (Some e.1) (get cmp es q))
          doubled true b eq = refl
          doubled false true eq = absurd (true≢false (sym eq))
          doubled false false eq = refl
      go Greater is rest =
          ap (cond (is_eq (cmp q e.0)) (Some e.1)) rest
          ∙ swapped (is_eq (cmp q e.0)) (is_eq (cmp x.0 q)) (Some e.1) (Some x.1) (get cmp es q)
          (λ equal. (eq_by_cmp_equiv o).symm x.0 q
          ∙ (eq_by_cmp_equiv o).congr q e.0 x.0 equal
          ∙ (eq_by_cmp_equiv o).symm e.0 x.0
          ∙ ap is_eq is)

  pub get-removed : (k : K) (es : List (K × V)) (q : K) → IsRising cmp es
      → get cmp (removed cmp k es) q ≡ cond (is_eq (cmp k q)) None (get cmp es q)
  get-removed k [] q h = same_both (is_eq (cmp k q)) None
  get-removed k (e ∷ es) q h = go (is_eq (cmp k e.0)) refl (get-removed k es q h.1)
    where
      nothing : is_eq (cmp q e.0) ≡ true → get cmp es q ≡ None
      nothing equal = get-before o q es (before-all o q e.0 (λ y less. o.congr q e.0 y (is_equal (cmp q e.0) equal) ∙ less) es h.0)

      first : (a b : Bool) → (a ≡ b) → (a ≡ true → get cmp es q ≡ None) → get cmp es q ≡ cond b None (cond a (Some e.1) (get cmp es q))
      first true true same none = none refl
      first true false same none = absurd (true≢false same)
      first false true same none = absurd (true≢false (sym same))
      first false false same none = refl

      go : (c : Bool) → is_eq (cmp k e.0) ≡ c → get cmp (removed cmp k es) q ≡ cond (is_eq (cmp k q)) None (get cmp es q)
          → get cmp (cond c es (e ∷ removed cmp k es)) q ≡ cond (is_eq (cmp k q)) None (cond (is_eq (cmp q e.0)) (Some e.1) (get cmp es q))
      go true is rest = first (is_eq (cmp q e.0)) (is_eq (cmp k q))
          ((eq_by_cmp_equiv o).symm q e.0 ∙ sym ((eq_by_cmp_equiv o).congr k e.0 q is)) nothing
      go false is rest =
          ap (cond (is_eq (cmp q e.0)) (Some e.1)) rest
          ∙ swapped (is_eq (cmp q e.0)) (is_eq (cmp k q)) (Some e.1) None (get cmp es q)
          (λ equal. (eq_by_cmp_equiv o).symm k q ∙ (eq_by_cmp_equiv o).congr q e.0 k equal ∙ (eq_by_cmp_equiv o).symm e.0 k ∙ is)
