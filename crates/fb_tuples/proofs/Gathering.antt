-- Rows of the entities of all lists, once they are sorted, are the tuples in the view.
use Rattle.std.proofs.Common.{◌≡◌, ℕ, List, [], ◌∷◌, map, refl, sym, ap, ◌∙◌, subst, Option}
use Rattle.std.specs.Prelude.{◌↔◌, Contains, is_some, filter}
use Rattle.std.specs.List.{list_any}
use Rattle.std.specs.List.Sorted.{IsPermutation, IsSortedBy, IsStrictlyIncreasing}
use Rattle.std.specs.Ordering.{is_lt}
use Rattle.std.proofs.lemmas.List.Sorted.{Contains-permutation, IsPermutation-map, IsPermutation-sym}
use Rattle.fb_values.specs.declared.facts.Datom.{Datom}
use Rattle.fb_values.specs.declared.facts.Entry.{Entry}
use Rattle.view_model.specs.Window.{Window, without_history}
use Rattle.tuple_model.specs.Tuples.{Tuple, Row, row_cmp, is_in_range}
use Rattle.tuple_model.specs.Seen.{IsTupleIn, AreTuplesIn}
use Rattle.tuple_model.proofs.Members.{map_has, map_member, kept_has, kept_member}
use Rattle.tuple_model.proofs.SeenRows.{one_tuple}
use Rattle.fb_tuples.specs.Gathered.{AreLists, entities_in, first_of, row_in}
use Rattle.fb_tuples.proofs.Listed.{members_listed, entity_has, has_entity}
use Rattle.fb_tuples.specs.Reached.{HasRange}
use Rattle.fb_tuples.proofs.Parts.{map_kept}
use Rattle.fb_tuples.proofs.Sorted.{kept_rows_rise}

module _ (h : List Entry) (w : Window) (Selects : Datom → Type 0) (attrs : List ℕ) (lists : List (List Datom))
    (listed : AreLists h (without_history w) Selects attrs lists) (es : List ℕ)
    (entities : (e : ℕ) → Contains (entities_in lists) e ↔ Contains es e) where
  is_tuple : (row : Row) → Contains (map (row_in lists) es) row → IsTupleIn h w Selects attrs row
  is_tuple row member =
      let from = map_member (row_in lists) es row member in
      subst (IsTupleIn h w Selects attrs) from.2 (record {
        members = members_listed h w Selects from.0 attrs lists listed;
        some = entity_has from.0 lists ((entities from.0).1 from.1);
      })

  has_tuple : (row : Row) → IsTupleIn h w Selects attrs row → Contains (map (row_in lists) es) row
  has_tuple row is =
      let same : map (first_of row.e) lists ≡ row.tuple =
      one_tuple h w Selects row.e attrs (map (first_of row.e) lists) row.tuple (members_listed h w Selects row.e attrs lists listed)
      is.members in
      let there = (entities row.e).0 (has_entity row.e lists (ap (list_any is_some) same ∙ is.some)) in
      let row_is : row_in lists row.e ≡ row = λ i. record { tuple = same i; e = row.e } in
      subst (Contains (map (row_in lists) es)) row_is (map_has (row_in lists) es row.e there)

  -- a row for each entity of the lists
  pub gathered : (start end : Option Tuple) → IsStrictlyIncreasing es → HasRange h w Selects attrs start end (map (row_in lists) es)
  gathered start end rising = record {
    apart = subst IsStrictlyIncreasing (sym (entities_of_rows es)) rising;
    members = λ row inside. (is_tuple row, has_tuple row);
  }
    where
      entities_of_rows : (ns : List ℕ) → map (λ row. row.e) (map (row_in lists) ns) ≡ ns
      entities_of_rows [] = refl
      entities_of_rows (n ∷ ns) = ap (λ l. n ∷ l) (entities_of_rows ns)

-- of rows that have the range, those that are in it, sorted
module _ (h : List Entry) (w : Window) (Selects : Datom → Type 0) (attrs : List ℕ) (start end : Option Tuple) where
  pub in_range_sorted : {A : Type 0} (f : A → Row) (all kept ys : List A) → HasRange h w Selects attrs start end (map f all)
      → kept ≡ filter (λ x. is_in_range start end (f x)) all → IsPermutation kept ys
      → IsSortedBy (λ x y. is_lt (row_cmp (f x) (f y))) ys → AreTuplesIn h w Selects attrs start end (map f ys)
  in_range_sorted f all kept ys has is moved sorted =
      let inside = is_in_range start end in
      let kept_is : map f kept ≡ filter inside (map f all) = ap (map f) is ∙ map_kept f inside all in
      let all_moved : IsPermutation (filter inside (map f all)) (map f ys) =
      subst (λ l. IsPermutation l (map f ys)) kept_is (IsPermutation-map f kept ys moved) in
      record {
        rising = kept_rows_rise f inside (map f all) has.apart ys all_moved sorted;
        members = λ row. (
          λ member.
              let from = kept_member inside (map f all) row
              (Contains-permutation (map f ys) (filter inside (map f all)) row (IsPermutation-sym (filter inside (map f all)) (map f ys) all_moved) member) in
              ((has.members row from.1).0 from.0, from.1),
          λ told.
              Contains-permutation (filter inside (map f all)) (map f ys) row all_moved
              (kept_has inside (map f all) row ((has.members row told.1).1 told.0) told.1),
        );
      }
