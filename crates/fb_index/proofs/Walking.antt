-- The steps of a walk over both lists.
use Rattle.std.proofs.Common.{◌≡◌, ◌∙◌, ℕ, zero, suc, ◌+◌, Bool, true, false, not, List, [], ◌∷◌, length, drop, refl, sym, ap, subst, arith}
use Rattle.std.proofs.Common.{Option, Some, None, Bor}
use Rattle.std.specs.Prelude.{min, find, IfSome}
use Rattle.std.specs.List.{slice_get}
use Rattle.std.specs.Option.{option_copied}
use Rattle.std.proofs.lemmas.Option.{none-some, same_Some}
use Rattle.fb_values.specs.declared.facts.Datom.{Datom}
use Rattle.fb_values.specs.declared.indexes.Order.{Order}
use Rattle.fb_values.specs.declared.indexes.Probe.{Probe}
use Rattle.fb_values.specs.Lists.{Lists, list_in}
use Rattle.fb_values.specs.Rising.{IsRising}
use Rattle.fb_search.specs.Places.{is_below, place_of}
use Rattle.live_runs.specs.Walks.{IsFirstOf}
use Rattle.live_index.specs.Halves.{IsPair, merged}
use Rattle.live_index.specs.Walks.{before_rest, comes_first}
use Rattle.live_index.proofs.Members.{contains_tail}
use Rattle.seg_tree.specs.Nodes.{DirectoryNode, tree_datoms}
use Rattle.seg_tree.specs.Ranks.{rank}
use Rattle.seg_tree.specs.declared.tree.Place.{Place}
use Rattle.fb_index.specs.declared.sides.Extent.{Extent}
use Rattle.fb_index.specs.Ranges.{from_probe, within}
use Rattle.fb_index.specs.Sides.{AreBeside, older_read, older_ahead, live_read, whole}
use Rattle.fb_index.proofs.Merging.{part_pair, first_of_older_alone, first_of_live_alone, first_of_older, first_of_live, filter_pair}
use Rattle.fb_index.proofs.Merging.{merged-filter}
use Rattle.fb_index.proofs.Reading.{older_from, within_pair, within_both}

drop_none : (ds : List Datom) (n : ℕ) → ds ≡ [] → drop n ds ≡ []
drop_none ds zero is = is
drop_none [] (suc n) is = refl
drop_none (d ∷ ds) (suc n) is = absurd (cc)

pub drop_min : (ds : List Datom) (n : ℕ) → drop (min n (length ds)) ds ≡ drop n ds
drop_min [] n = drop_none [] (min n 0) refl ∙ sym (drop_none [] n refl)
drop_min (d ∷ ds) zero = let first : min 0 (length (d ∷ ds)) ≡ 0 = omega arith in rw first refl
drop_min (d ∷ ds) (suc n) = let next : min (suc n) (length (d ∷ ds)) ≡ suc (min n (length ds)) = omega arith in rw next (drop_min ds n)

-- behind a place
pub behind_is : (extent : Extent) (tree : List DirectoryNode) (live : Lists) (place behind : Place)
    → rank tree behind ≡ min (rank tree place + 1) (length (tree_datoms tree))
    → older_ahead extent tree live behind ≡ older_read extent live (drop (rank tree place + 1) (tree_datoms tree))
behind_is extent tree live place behind is =
    ap (older_read extent live) (ap (λ n. drop n (tree_datoms tree)) is ∙ drop_min (tree_datoms tree) (rank tree place + 1))

-- ---- where a walk begins

pub rises_to : (end : Option Probe) (order : Order) (ds : List Datom) → IfSome end (λ p. p.order ≡ order) → IsRising order ds
    → IfSome end (λ p. IsRising p.order ds)
rises_to None order ds same rising = tt
rises_to (Some p) order ds same rising = subst (λ (o : Order). IsRising o ds) (sym same) rising

-- what was left is at hand and behind it
pub hand_is : (next : Option (Bor Datom)) (old new : List Datom) → IsFirstOf old new next → before_rest next new ≡ old
hand_is None old new is = sym is.0
hand_is (Some d) old new is = sym is

module _ (extent : Extent) (order : Order) (tree : List DirectoryNode) (live : Lists)
    (beside : AreBeside extent order (tree_datoms tree) live) (p : Probe) (same : p.order ≡ order) where
  -- what there is to walk over in each list
  abbrev older_part : List Datom
  older_part = from_probe p (older_read extent live (tree_datoms tree))

  abbrev live_part : List Datom
  live_part = from_probe p (live_read extent (list_in live order))

  older_is : (place : Place) → rank tree place ≡ place_of p (tree_datoms tree) → older_ahead extent tree live place ≡ older_part
  older_is place is =
      ap (λ n. older_read extent live (drop n (tree_datoms tree))) is
      ∙ older_from extent live p (tree_datoms tree) (subst (λ (o : Order). IsRising o (tree_datoms tree)) (sym same) beside.rises)

  parts_pair : IsPair order older_part live_part
  parts_pair =
      filter_pair order (λ d. not (is_below p d)) (older_read extent live (tree_datoms tree)) (live_read extent (list_in live order))
      beside.pair

  pub live_part_rises : IsRising order live_part
  live_part_rises = parts_pair.live_rises

  module _ (end : Option Probe) (place : Place) (is : rank tree place ≡ place_of p (tree_datoms tree)) (os ls : List Datom)
      (older_hand : os ≡ within end (older_ahead extent tree live place)) (live_hand : ls ≡ within end live_part) where
    older_hand_is : os ≡ within end older_part
    older_hand_is = older_hand ∙ ap (within end) (older_is place is)

    pub start_pair : IsPair order os ls
    start_pair = rw (older_hand_is, live_hand) (within_pair end order older_part live_part parts_pair)

    pub start_is : merged order os ls ≡ within end (from_probe p (whole extent order (tree_datoms tree) live))
    start_is =
        ap (λ (l : List Datom). merged order l ls) older_hand_is
        ∙ ap (merged order (within end older_part)) live_hand
        ∙ sym (within_both end order older_part live_part parts_pair)
        ∙ ap (within end) (merged-filter order (λ d. not (is_below p d)) (older_read extent live (tree_datoms tree))
        (live_read extent (list_in live order)) beside.pair)

-- ---- a step

older_tail : (order : Order) (x : Datom) (xs ys : List Datom) → IsPair order (x ∷ xs) ys → IsPair order xs ys
older_tail order x xs ys pair =
    part_pair order (x ∷ xs) ys xs ys pair pair.older_rises.1 pair.live_rises (λ d there. contains_tail x xs d there) (λ d there. there)

live_tail : (order : Order) (xs : List Datom) (y : Datom) (ys : List Datom) → IsPair order xs (y ∷ ys) → IsPair order xs ys
live_tail order xs y ys pair =
    part_pair order xs (y ∷ ys) xs ys pair pair.older_rises pair.live_rises.1 (λ d there. there) (λ d there. contains_tail y ys d there)

behind_older : (order : Order) (o : Option (Bor Datom)) (l : Option Datom) (os ls : List Datom)
    → comes_first order (option_copied o) l ≡ true
    → IsPair order (before_rest o os) ls → IsPair order os ls
behind_older order None l os ls first pair = absurd (cc)
behind_older order (Some x) l os ls first pair = older_tail order x.now os ls pair

take_older : (order : Order) (o l : Option (Bor Datom)) (os ls : List Datom) → IsPair order (before_rest o os) (before_rest l ls)
    → comes_first order (option_copied o) (option_copied l) ≡ true
    → IsFirstOf (merged order (before_rest o os) (before_rest l ls)) (merged order os (before_rest l ls)) o
take_older order None l os ls pair first = absurd (cc)
take_older order (Some x) None os ls pair first = first_of_older_alone order x.now os pair
take_older order (Some x) (Some y) os ls pair first = first_of_older order x.now y.now os ls pair first

take_live : (order : Order) (o : Option (Bor Datom)) (y : Datom) (os ls : List Datom) → IsPair order (before_rest o os) (y ∷ ls)
    → comes_first order (option_copied o) (Some y) ≡ false
    → merged order (before_rest o os) (y ∷ ls) ≡ y ∷ merged order (before_rest o os) ls
take_live order None y os ls pair other = first_of_live_alone order y ls pair
take_live order (Some x) y os ls pair other = first_of_live order x.now y os ls pair other

-- what a step takes is the first
first_is : (old new : List Datom) (result : Option (Bor Datom)) → IsFirstOf old new result → option_copied result ≡ slice_get old 0
first_is old new None is = sym (ap (λ (ds : List Datom). slice_get ds 0) is.0)
first_is old new (Some d) is = sym (ap (λ (ds : List Datom). slice_get ds 0) is)

-- a search that begins with what is looked at
pub finds_first : (p : Datom → Bool) (ds : List Datom) (d : Datom) → Some d ≡ slice_get ds 0 → p d ≡ true → find p ds ≡ Some d
finds_first p [] d at passes = absurd (none-some d (sym at))
finds_first p (x ∷ xs) d at passes =
    let same = same_Some d x at in
    let here : p x ≡ true = subst (λ (y : Datom). p y ≡ true) same passes in
    rw here (ap Some (sym same))

pub finds_none : (p : Datom → Bool) (ds : List Datom) → None ≡ slice_get ds 0 → find p ds ≡ None
finds_none p [] at = refl
finds_none p (x ∷ xs) at = absurd (none-some x at)

module _ (order : Order) (o l : Option (Bor Datom)) (os ls value : List Datom) (pair : IsPair order (before_rest o os) (before_rest l ls))
    (view_is : merged order (before_rest o os) (before_rest l ls) ≡ value) where
  module _ (first : comes_first order (option_copied o) (option_copied l) ≡ true) where
    pub older_first : option_copied o ≡ slice_get value 0
    older_first =
        first_is value (merged order os (before_rest l ls)) o
        (subst (λ (ds : List Datom). IsFirstOf ds (merged order os (before_rest l ls)) o) view_is (take_older order o l os ls pair first))

    module _ (next : Option (Bor Datom)) (new : List Datom) (step : IsFirstOf os new next) where
      pub older_pair : IsPair order (before_rest next new) (before_rest l ls)
      older_pair =
          subst (λ (ds : List Datom). IsPair order ds (before_rest l ls)) (sym (hand_is next os new step))
          (behind_older order o (option_copied l) os (before_rest l ls) first pair)

      pub older_step : IsFirstOf value (merged order (before_rest next new) (before_rest l ls)) o
      older_step =
          subst (λ (ds : List Datom). IsFirstOf ds (merged order (before_rest next new) (before_rest l ls)) o) view_is
          (subst
          (λ (ds : List Datom). IsFirstOf (merged order (before_rest o os) (before_rest l ls)) (merged order ds (before_rest l ls)) o)
          (sym (hand_is next os new step)) (take_older order o l os ls pair first))

  module _ (other : comes_first order (option_copied o) (option_copied l) ≡ false) where
    pub live_first : option_copied l ≡ slice_get value 0
    live_first = go o l pair other ∙ ap (λ (ds : List Datom). slice_get ds 0) view_is
      where
        go : (o l : Option (Bor Datom)) → IsPair order (before_rest o os) (before_rest l ls)
            → comes_first order (option_copied o) (option_copied l) ≡ false
            → option_copied l ≡ slice_get (merged order (before_rest o os) (before_rest l ls)) 0
        go None None pair other = refl
        go (Some x) None pair other = absurd (cc)
        go o (Some y) pair other = sym (ap (λ (ds : List Datom). slice_get ds 0) (take_live order o y.now os ls pair other))

    module _ (y : Bor Datom) (is : l ≡ Some y) (next : Option (Bor Datom)) (new : List Datom) (step : IsFirstOf ls new next) where
      from_live : IsPair order (before_rest o os) (y.now ∷ ls)
      from_live = subst (λ (m : Option (Bor Datom)). IsPair order (before_rest o os) (before_rest m ls)) is pair

      pub live_pair : IsPair order (before_rest o os) (before_rest next new)
      live_pair =
          subst (IsPair order (before_rest o os)) (sym (hand_is next ls new step)) (live_tail order (before_rest o os) y.now ls from_live)

      pub live_step : value ≡ y.now ∷ merged order (before_rest o os) (before_rest next new)
      live_step =
          sym view_is
          ∙ ap (λ (m : Option (Bor Datom)). merged order (before_rest o os) (before_rest m ls)) is
          ∙ take_live order o y.now os ls from_live
          (subst (λ (m : Option (Bor Datom)). comes_first order (option_copied o) (option_copied m) ≡ false) is other)
          ∙ ap (λ (ds : List Datom). y.now ∷ merged order (before_rest o os) ds) (sym (hand_is next ls new step))
