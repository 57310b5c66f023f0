-- The keys still rise with an entry more or less.
use Rattle.std.proofs.Common.{◌≡◌, Bool, true, false, cond, List, [], ◌∷◌, refl, ◌∙◌}
use Rattle.std.specs.Ordering.{match_ordering, is_eq}
use Rattle.std.specs.Cmp.{IsTotalOrder}
use Rattle.std.specs.declared.cmp.Ordering.{Ordering}
use Rattle.std.specs.declared.cmp.Ordering.TheVariants.{Less, Equal, Greater}
use Rattle.shared_map.specs.Entries.{put, removed, IsBelowAll, IsRising}
use Rattle.shared_map.proofs.Sides.{turned_back, before-all}

module _ {K V : Type 0} {cmp : K → K → Ordering} (o : IsTotalOrder cmp) where
  before-put : (k : K) (x : K × V) (es : List (K × V)) → cmp k x.0 ≡ Less → IsBelowAll cmp k es → IsBelowAll cmp k (put cmp x es)
  before-put k x [] less h = (less, tt)
  before-put k x (e ∷ es) less h = go (cmp x.0 e.0) (before-put k x es less h.1)
    where
      go : (c : Ordering) → IsBelowAll cmp k (put cmp x es)
          → IsBelowAll cmp k (match_ordering c (x ∷ e ∷ es) (x ∷ es) (e ∷ put cmp x es))
      go Less rest = (less, h)
      go Equal rest = (less, h.1)
      go Greater rest = (h.0, rest)

  pub rising-put : (x : K × V) (es : List (K × V)) → IsRising cmp es → IsRising cmp (put cmp x es)
  rising-put x [] h = (tt, tt)
  rising-put x (e ∷ es) h = go (cmp x.0 e.0) refl (rising-put x es h.1)
    where
      go : (c : Ordering) → cmp x.0 e.0 ≡ c → IsRising cmp (put cmp x es)
          → IsRising cmp (match_ordering c (x ∷ e ∷ es) (x ∷ es) (e ∷ put cmp x es))
      go Less is rest = ((is, before-all o x.0 e.0 (λ y. o.trans x.0 e.0 y is) es h.0), h)
      go Equal is rest = (before-all o x.0 e.0 (λ y less. o.congr x.0 e.0 y is ∙ less) es h.0, h.1)
      go Greater is rest = (before-put e.0 x es (turned_back o x.0 e.0 is) h.0, rest)

  before-removed : (j k : K) (es : List (K × V)) → IsBelowAll cmp j es → IsBelowAll cmp j (removed cmp k es)
  before-removed j k [] h = tt
  before-removed j k (e ∷ es) h = go (is_eq (cmp k e.0)) (before-removed j k es h.1)
    where
      go : (b : Bool) → IsBelowAll cmp j (removed cmp k es) → IsBelowAll cmp j (cond b es (e ∷ removed cmp k es))
      go true rest = h.1
      go false rest = (h.0, rest)

  pub rising-removed : (k : K) (es : List (K × V)) → IsRising cmp es → IsRising cmp (removed cmp k es)
  rising-removed k [] h = tt
  rising-removed k (e ∷ es) h = go (is_eq (cmp k e.0)) (rising-removed k es h.1)
    where
      go : (b : Bool) → IsRising cmp (removed cmp k es) → IsRising cmp (cond b es (e ∷ removed cmp k es))
      go true rest = h.1
      go false rest = (before-removed e.0 k es h.0, rest)
