-- Lent rows are in the order of the rows that they stand for.
use Rattle.std.proofs.Common.{◌≡◌, List, [], ◌∷◌, refl, sym, ap, ◌∙◌, ◌+◌, Option, Some, None, option_map, slice_index_or}
use Rattle.std.specs.Borrow.{Bor}
use Rattle.std.specs.Cmp.Lexicographic.{slice_cmp}
use Rattle.std.specs.List.Sorted.{IsSortedBy}
use Rattle.std.specs.Option.{option_cmp}
use Rattle.std.specs.Ordering.{is_lt, nat_cmp, ordering_then}
use Rattle.std.specs.declared.cmp.Ordering.{Ordering}
use Rattle.fb_values.specs.contracts.facts.ValueOrd.TheImpl as value_ord
use Rattle.fb_values.specs.Orders.{value_cmp}
use Rattle.fb_values.specs.declared.facts.Value.{Value}
use Rattle.tuple_model.specs.Tuples.{member_cmp, tuple_cmp, row_cmp}
use Rattle.fb_tuples.specs.declared.rows.LentRow.{LentRow}
use Rattle.fb_tuples.specs.Lent.{tuple_lent, model_row}

abbrev lent_member_cmp : Option (Bor Value) → Option (Bor Value) → Ordering
lent_member_cmp = option_cmp (λ x y. (value_ord.ghosts).cmp x.now y.now)

members_same : (x y : Option (Bor Value)) → lent_member_cmp x y ≡ member_cmp (option_map (λ v. v.now) x) (option_map (λ v. v.now) y)
members_same None None = refl
members_same None (Some y) = refl
members_same (Some x) None = refl
members_same (Some x) (Some y) = refl

tuples_same : (xs ys : List (Option (Bor Value))) → slice_cmp lent_member_cmp xs ys ≡ tuple_cmp (tuple_lent xs) (tuple_lent ys)
tuples_same [] [] = refl
tuples_same [] (y ∷ ys) = refl
tuples_same (x ∷ xs) [] = refl
tuples_same (x ∷ xs) (y ∷ ys) = λ i. ordering_then (members_same x y i) (tuples_same xs ys i)

-- the order that the type has
abbrev pub lent_cmp : LentRow → LentRow → Ordering
lent_cmp x y = ordering_then (slice_cmp lent_member_cmp x.tuple.items y.tuple.items) (nat_cmp x.e y.e)

pub rows_sorted : (rows : List LentRow) → IsSortedBy (λ x y. is_lt (lent_cmp x y)) rows
    → IsSortedBy (λ x y. is_lt (row_cmp (model_row x) (model_row y))) rows
rows_sorted rows sorted k d low high =
    ap is_lt (same (slice_index_or rows (k + 1) d) (slice_index_or rows k d)) ∙ sorted k d low high
  where
    same : (x y : LentRow) → row_cmp (model_row x) (model_row y) ≡ lent_cmp x y
    same x y = ap (λ o. ordering_then o (nat_cmp x.e y.e)) (sym (tuples_same x.tuple.items y.tuple.items))

-- ---- rows with values of their own

owned_members_same : (x y : Option Value) → option_cmp value_cmp x y ≡ member_cmp x y
owned_members_same None None = refl
owned_members_same None (Some y) = refl
owned_members_same (Some x) None = refl
owned_members_same (Some x) (Some y) = refl

pub owned_tuples_same : (xs ys : List (Option Value)) → slice_cmp (option_cmp value_cmp) xs ys ≡ tuple_cmp xs ys
owned_tuples_same [] [] = refl
owned_tuples_same [] (y ∷ ys) = refl
owned_tuples_same (x ∷ xs) [] = refl
owned_tuples_same (x ∷ xs) (y ∷ ys) = λ i. ordering_then (owned_members_same x y i) (owned_tuples_same xs ys i)
