-- Tuples and rows are totally ordered. The lemmas of tuple_model on this are its own, so they stand here until that crate hands them out.
use Rattle.std.proofs.Common.{◌≡◌, List, [], ◌∷◌, Option, Some, None, refl, sym, subst}
use Rattle.std.specs.Ordering.{ordering_then}
use Rattle.std.specs.Cmp.{IsTotalOrder, on_total, then_total, nat_cmp_total}
use Rattle.std.specs.Cmp.Lexicographic.{slice_cmp, lists_total}
use Rattle.std.specs.declared.cmp.Ordering.{Ordering}
use Rattle.std.specs.declared.cmp.Ordering.TheVariants.{Less, Equal, Greater}
use Rattle.fb_values.specs.Orders.{value_cmp}
use Rattle.fb_values.specs.OrderLaws.{value_cmp_total}
use Rattle.fb_values.specs.declared.facts.Value.{Value}
use Rattle.tuple_model.specs.Tuples.{Row, member_cmp, tuple_cmp, row_cmp}

abbrev as_list : Option Value → List Value
as_list None = []
as_list (Some v) = v ∷ []

then-Equal : (r : Ordering) → r ≡ ordering_then r Equal
then-Equal Less = refl
then-Equal Equal = refl
then-Equal Greater = refl

member_cmp-as_list : (x y : Option Value) → member_cmp x y ≡ slice_cmp value_cmp (as_list x) (as_list y)
member_cmp-as_list None None = refl
member_cmp-as_list None (Some w) = refl
member_cmp-as_list (Some v) None = refl
member_cmp-as_list (Some v) (Some w) = then-Equal (value_cmp v w)

member_cmp_total : IsTotalOrder member_cmp
member_cmp_total = subst IsTotalOrder (λ i x y. sym (member_cmp-as_list x y) i) (on_total as_list (lists_total value_cmp_total))

pub tuple_cmp_total : IsTotalOrder tuple_cmp
tuple_cmp_total = lists_total member_cmp_total

pub row_cmp_total : IsTotalOrder row_cmp
row_cmp_total = then_total (on_total (λ (row : Row). row.tuple) tuple_cmp_total) (on_total (λ (row : Row). row.e) nat_cmp_total)
