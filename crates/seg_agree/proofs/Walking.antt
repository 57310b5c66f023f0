-- The steps of a walk of a list, and of counting it.
use Rattle.std.proofs.Common.{◌≡◌, ℕ, zero, suc, ◌+◌, ◌-◌, ◌<◌, ◌≤◌, min, Bool, true, false, ◌&&◌, List, [], ◌∷◌, length, map, drop, get_or}
use Rattle.std.proofs.Common.{refl, sym, ap, ◌∙◌, subst, arith, Some, None, length-append}
use Rattle.std.specs.Prelude.{Option, ◌↔◌}
use Rattle.std.specs.List.{slice_get}
use Rattle.std.proofs.lemmas.Bool.{true≢false, and_parts, and_from}
use Rattle.std.proofs.lemmas.Option.{slice_get_read, slice_get_within}
use Rattle.std.proofs.Math.ListN.{drop_of_length-le}
use Rattle.std.proofs.lemmas.List.Elements.{All-nil, All-cons, All-head, All-tail, Contains-get_or}
use Rattle.fb_values.specs.declared.facts.Datom.{Datom}
use Rattle.fb_values.specs.declared.facts.Entry.{Entry}
use Rattle.fb_values.specs.declared.indexes.Order.{Order}
use Rattle.fb_values.specs.Rising.{rises}
use Rattle.view_model.specs.Stands.{IsIndexed}
use Rattle.seg_tree.specs.Nodes.{LeafNode, DirectoryNode, leaf_datoms, tree_datoms}
use Rattle.seg_agree.specs.Indexes.{IsIndexOf, IsPartOf, is_below_next}

-- ---- lists from a place on

pub drop-at : {X : Type 0} (xs : List X) (i : ℕ) (x : X) → slice_get xs i ≡ Some x → drop i xs ≡ x ∷ drop (i + 1) xs
drop-at [] i x is = absurd (cc)
drop-at (y ∷ xs) zero x is = let same : y ≡ x = cc in ap (λ z. z ∷ xs) same
drop-at (y ∷ xs) (suc i) x is = let one : suc i + 1 ≡ suc (i + 1) = omega arith in rw one (drop-at xs i x is)

pub drop-end : {X : Type 0} (xs : List X) (i : ℕ) → slice_get xs i ≡ None → drop i xs ≡ []
drop-end [] zero is = refl
drop-end [] (suc i) is = refl
drop-end (y ∷ xs) zero is = absurd (cc)
drop-end (y ∷ xs) (suc i) is = drop-end xs i is

get-drop : {X : Type 0} (xs : List X) (i : ℕ) → slice_get (drop i xs) 0 ≡ slice_get xs i
get-drop [] zero = refl
get-drop [] (suc i) = refl
get-drop (y ∷ xs) zero = refl
get-drop (y ∷ xs) (suc i) = get-drop xs i

-- ---- a list that an index has

rises-cons : (order : Order) (d : Datom) (ds : List Datom)
    → rises order (d ∷ ds) ≡ (is_below_next order d (slice_get ds 0) && rises order ds)
rises-cons order d [] = refl
rises-cons order d (next ∷ ds) = refl

module _ (h : List Entry) (order : Order) where
  part-cons : (d : Datom) (ds : List Datom) → IsIndexed h order d → is_below_next order d (slice_get ds 0) ≡ true → IsPartOf h order ds
      → IsPartOf h order (d ∷ ds)
  part-cons d ds is below rest = record {
    rising = rises-cons order d ds ∙ and_from _ _ below rest.rising;
    indexed = All-cons (IsIndexed h order) d ds is rest.indexed;
  }

  part-head : (d : Datom) (ds : List Datom) → IsPartOf h order (d ∷ ds)
      → IsIndexed h order d × (is_below_next order d (slice_get ds 0) ≡ true)
  part-head d ds part = (
    All-head (IsIndexed h order) d ds part.indexed,
    (and_parts _ _ (sym (rises-cons order d ds) ∙ part.rising)).0,
  )

  part-tail : (d : Datom) (ds : List Datom) → IsPartOf h order (d ∷ ds) → IsPartOf h order ds
  part-tail d ds part = record {
    rising = (and_parts _ _ (sym (rises-cons order d ds) ∙ part.rising)).1;
    indexed = All-tail (IsIndexed h order) d ds part.indexed;
  }

  part-drop : (n : ℕ) (ds : List Datom) → IsPartOf h order ds → IsPartOf h order (drop n ds)
  part-drop zero ds part = part
  part-drop (suc n) [] part = part
  part-drop (suc n) (d ∷ ds) part = part-drop n ds (part-tail d ds part)

  -- what is at a place of the list is in the index, and below what is next
  pub at_place : (ds : List Datom) (i : ℕ) (d : Datom) → slice_get ds i ≡ Some d → IsPartOf h order ds
      → IsIndexed h order d × (is_below_next order d (slice_get ds (i + 1)) ≡ true)
  at_place ds i d is part =
      let head = part-head d (drop (i + 1) ds) (subst (IsPartOf h order) (drop-at ds i d is) (part-drop i ds part)) in
      (head.0, ap (is_below_next order d) (sym (get-drop ds (i + 1))) ∙ head.1)

  -- and where it is so at a place, the rest of the list from there on is in the index if the rest behind it is
  pub from_place : (ds : List Datom) (i : ℕ) (d : Datom) → slice_get ds i ≡ Some d
      → IsIndexed h order d × (is_below_next order d (slice_get ds (i + 1)) ≡ true)
      → IsPartOf h order (drop (i + 1) ds) → IsPartOf h order (drop i ds)
  from_place ds i d is both rest =
      subst (IsPartOf h order) (sym (drop-at ds i d is))
      (part-cons d (drop (i + 1) ds) both.0 (ap (is_below_next order d) (get-drop ds (i + 1)) ∙ both.1) rest)

  -- at the end nothing is left
  pub at_end : (ds : List Datom) (i : ℕ) → slice_get ds i ≡ None → IsPartOf h order (drop i ds)
  at_end ds i is = subst (IsPartOf h order) (sym (drop-end ds i is)) (record { rising = refl; indexed = All-nil (IsIndexed h order) })

-- ---- counting

drop-item : {X : Type 0} (xs : List X) (i : ℕ) (x : X) → i < length xs → x ≡ get_or xs i x → drop i xs ≡ x ∷ drop (i + 1) xs
drop-item xs i x within is = drop-at xs i x (slice_get_read xs (length xs) i x refl within is)

-- the datoms of the leaves from a place on
pub leaves_step : {X : Type 0} (held : X → LeafNode) (xs : List X) (i : ℕ) (x : X) → i < length xs → x ≡ get_or xs i x
    → length (leaf_datoms (map held (drop i xs))) ≡ length (held x).datoms + length (leaf_datoms (map held (drop (i + 1) xs)))
leaves_step held xs i x within is =
    ap (λ l. length (leaf_datoms (map held l))) (drop-item xs i x within is)
    ∙ length-append (held x).datoms (leaf_datoms (map held (drop (i + 1) xs)))

-- and those of the directories
pub directories_step : {X : Type 0} (held : X → DirectoryNode) (xs : List X) (i : ℕ) (x : X) → i < length xs → x ≡ get_or xs i x
    → length (tree_datoms (map held (drop i xs)))
    ≡ length (leaf_datoms (held x).leaves) + length (tree_datoms (map held (drop (i + 1) xs)))
directories_step held xs i x within is =
    ap (λ l. length (tree_datoms (map held l))) (drop-item xs i x within is)
    ∙ length-append (leaf_datoms (held x).leaves) (tree_datoms (map held (drop (i + 1) xs)))

pub none_left : {X : Type 0} (xs : List X) (i : ℕ) → length xs ≤ i → drop i xs ≡ []
none_left xs i past = drop_of_length-le xs past

-- ---- a step of a walk

module _ (h : List Entry) (order : Order) (ds : List Datom) (i j : ℕ) (d : Datom) (next : Option Datom) (r : Bool)
    (read : slice_get ds i ≡ Some d) (moved : j ≡ min (i + 1) (length ds)) (ahead : next ≡ slice_get ds j)
    (says : (r ≡ true) ↔ (IsIndexed h order d × (is_below_next order d next ≡ true))) where
  behind : j ≡ i + 1
  behind = omega (arith, slice_get_within ds i d read, moved)

  pub goes : r ≡ true → IsPartOf h order (drop j ds) → IsPartOf h order (drop i ds)
  goes is rest =
      let both = says.0 is in
      from_place h order ds i d read (both.0, ap (is_below_next order d) (sym (ahead ∙ ap (slice_get ds) behind)) ∙ both.1)
      (subst (λ n. IsPartOf h order (drop n ds)) behind rest)

  pub stops : r ≡ false → IsPartOf h order ds → ⊥
  stops is part =
      let both = at_place h order ds i d read part in
      true≢false (sym (says.1 (both.0, ap (is_below_next order d) (ahead ∙ ap (slice_get ds) behind) ∙ both.1)) ∙ is)

  pub falls : length ds - j < length ds - i
  falls = omega (arith, slice_get_within ds i d read, behind)

-- ---- the whole index

pub part_of_index : (h : List Entry) (order : Order) (ds : List Datom) → IsIndexOf h order ds → IsPartOf h order ds
part_of_index h order ds whole = record {
  rising = whole.rising;
  indexed = λ k d within. (whole.members (get_or ds k d)).0 (Contains-get_or ds k d within);
}
