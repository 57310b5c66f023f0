-- A step of a walk over the two halves of an order's list.
use denote.Ref.{Bor}
use Rattle.std.proofs.Common.{◌≡◌, ◌∙◌, ℕ, inl, inr, true, false, List, [], ◌∷◌, ◌++◌, length, drop, refl, subst, Option, Some}
use Rattle.std.proofs.Common.{None}
use Rattle.std.specs.Prelude.{Contains}
use Rattle.std.specs.List.{slice_get}
use Rattle.std.proofs.lemmas.List.{append-nil}
use Rattle.std.proofs.lemmas.List.Elements.{Contains-append_left, Contains-append_right, Contains-append_cases}
use Rattle.std.proofs.Math.Seq.{drop-length}
use Rattle.fb_values.specs.declared.facts.Datom.{Datom}
use Rattle.fb_values.specs.declared.indexes.Order.{Order}
use Rattle.fb_values.specs.Rising.{IsRising}
use Rattle.fb_values.proofs.Rising.{less_is}
use Rattle.fb_model.specs.Facts.{standing}
use Rattle.live_runs.specs.Walks.{IsFirstOf}
use Rattle.live_index.specs.Halves.{IsPair, merged, withdrawn}
use Rattle.live_index.specs.Walks.{comes_first}
use Rattle.live_index.proofs.Halves.{pair_of}
use Rattle.live_index.proofs.Walking.{in_order_rising, from_drop, rising-drop, next_older_alone, next_live_alone, next_older, next_live}

pub pair-drop : (order : Order) (older live : List Datom) (i j : ℕ) → IsPair order older live → IsPair order (drop i older) (drop j live)
pair-drop order older live i j pair =
    record {
      older_rises = rising-drop order older i pair.older_rises;
      live_rises = rising-drop order live j pair.live_rises;
      apart = λ d left right. pair.apart d (from_drop older i d left) (from_drop live j d right);
      single = λ x y x_in y_in. pair.single x y (of_both x x_in) (of_both y y_in);
    }
  where
    of_both : (d : Datom) → Contains (drop i older ++ drop j live) d → Contains (older ++ live) d
    of_both d there =
        elim (Contains-append_cases (drop i older) (drop j live) d there) [
          | inl left ↦ Contains-append_left older live d (from_drop older i d left)
          | inr right ↦ Contains-append_right older live d (from_drop live j d right)
        ]

-- what the walk makes of the two halves
pub record IsStep (order : Order) (h p h' p' : List Datom) (r : Option (Bor Datom)) : Type 0 where
  pub first : IsFirstOf (merged order h p) (merged order h' p') r
  pub pair : IsPair order h' p'

pub step_holding : (order : Order) (h p h' : List Datom) (r : Option (Bor Datom)) → IsPair order h p
    → comes_first order (slice_get h 0) (slice_get p 0) ≡ true → IsFirstOf h h' r → IsStep order h p h' p r
step_holding order [] p h' r pair first is = absurd (cc)
step_holding order (x ∷ xs) p h' None pair first is = let none : x ∷ xs ≡ [] = is.0 in absurd (cc)
step_holding order (x ∷ xs) [] h' (Some d) pair first is =
    let same : x ∷ xs ≡ d.now ∷ h' = is in
    let head : x ≡ d.now = cc in
    let tail : xs ≡ h' = cc in
    record {
      first = next_older_alone order (x ∷ xs) [] pair 0 0 x refl refl ∙ rw (head, tail) refl;
      pair = subst (λ (l : List Datom). IsPair order l []) tail (pair-drop order (x ∷ xs) [] 1 0 pair);
    }
step_holding order (x ∷ xs) (y ∷ ys) h' (Some d) pair first is =
    let same : x ∷ xs ≡ d.now ∷ h' = is in
    let head : x ≡ d.now = cc in
    let tail : xs ≡ h' = cc in
    record {
      first = next_older order (x ∷ xs) (y ∷ ys) pair 0 0 x y refl refl (less_is _ first) ∙ rw (head, tail) refl;
      pair = subst (λ (l : List Datom). IsPair order l (y ∷ ys)) tail (pair-drop order (x ∷ xs) (y ∷ ys) 1 0 pair);
    }

pub step_past : (order : Order) (h p p' : List Datom) (r : Option (Bor Datom)) → IsPair order h p
    → comes_first order (slice_get h 0) (slice_get p 0) ≡ false → IsFirstOf p p' r → IsStep order h p h p' r
step_past order [] [] p' None pair first is =
    let none : p' ≡ [] = is.1 in
    record { first = (refl, rw none refl); pair = rw none pair }
step_past order [] [] p' (Some d) pair first is = let same : [] ≡ d.now ∷ p' = is in absurd (cc)
step_past order [] (y ∷ ys) p' None pair first is = let none : y ∷ ys ≡ [] = is.0 in absurd (cc)
step_past order [] (y ∷ ys) p' (Some d) pair first is =
    let same : y ∷ ys ≡ d.now ∷ p' = is in
    let head : y ≡ d.now = cc in
    let tail : ys ≡ p' = cc in
    record {
      first = next_live_alone order [] (y ∷ ys) pair 0 0 y refl refl ∙ rw (head, tail) refl;
      pair = subst (λ (l : List Datom). IsPair order [] l) tail (pair-drop order [] (y ∷ ys) 0 1 pair);
    }
step_past order (x ∷ xs) [] p' r pair first is = absurd (cc)
step_past order (x ∷ xs) (y ∷ ys) p' None pair first is = let none : y ∷ ys ≡ [] = is.0 in absurd (cc)
step_past order (x ∷ xs) (y ∷ ys) p' (Some d) pair first is =
    let same : y ∷ ys ≡ d.now ∷ p' = is in
    let head : y ≡ d.now = cc in
    let tail : ys ≡ p' = cc in
    record {
      first = next_live order (x ∷ xs) (y ∷ ys) pair 0 0 x y refl refl first ∙ rw (head, tail) refl;
      pair = subst (λ (l : List Datom). IsPair order (x ∷ xs) l) tail (pair-drop order (x ∷ xs) (y ∷ ys) 0 1 pair);
    }

-- ---- one half alone

pub merged_alone : (order : Order) (ds : List Datom) → IsRising order ds → merged order ds [] ≡ ds
merged_alone order ds rising = rw (append-nil ds) (in_order_rising order ds rising)

pub pair_ahead : (order : Order) (ds : List Datom) (i j : ℕ) → IsRising order ds
    → IsPair order (drop i (standing ds)) (drop j (withdrawn ds))
pair_ahead order ds i j rising = pair-drop order (standing ds) (withdrawn ds) i j (pair_of order ds rising)

pub pair_alone : (order : Order) (ds : List Datom) (i : ℕ) → IsRising order ds → IsPair order (drop i (standing ds)) []
pair_alone order ds i rising =
    subst (λ (l : List Datom). IsPair order (drop i (standing ds)) l) (drop-length (withdrawn ds))
    (pair_ahead order ds i (length (withdrawn ds)) rising)
