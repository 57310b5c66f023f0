use Rattle.std.proofs.Common.{◌≡◌, ◌∙◌, ◌-◌, [], List, length, ap, subst, sym}
use Rattle.std.specs.Prelude.{Contains}
use Rattle.std.specs.List.{slice_get}
use Rattle.fb_values.specs.declared.facts.Datom.{Datom}
use Rattle.fb_values.specs.declared.indexes.Order.{Order}
use Rattle.fb_values.specs.declared.indexes.Order.TheVariants.{Eavt}
use Rattle.fb_values.specs.Lists.{list_in}
use Rattle.live_index.specs.declared.orders.Orders.{Orders}
use Rattle.live_index.specs.Halves.{both_lists, merged}
use Rattle.live_index.specs.Lists.{lists_of, no_lists}
use Rattle.live_index.specs.Growth.{HasNoTwins}
use Rattle.live_index.proofs.FourLists.{none_in}
use Rattle.live_index.proofs.Halves.{both_at, halves_none}
use Rattle.live_index.proofs.Members.{contains_none}
use Rattle.live_index.proofs.live.Live.empty.Goals as goal

single_none : (table : List Datom) → table ≡ [] → HasNoTwins table
single_none table is x y x_in y_in at = absurd (contains_none x (subst (λ (l : List Datom). Contains l x) is x_in))

empty_at : (table : List Datom) (orders : Orders) → ((order : Order) → list_in (lists_of table orders) order ≡ []) → (order : Order)
    → list_in (both_lists (lists_of table orders) no_lists) order ≡ []
empty_at table orders none order =
    both_at (lists_of table orders) no_lists order
    ∙ ap (λ (l : List Datom). merged order l (list_in no_lists order)) (none order)
    ∙ ap (λ (l : List Datom). merged order [] l) (none_in order)

pub invariant_of-result : goal.invariant_of-result
invariant_of-result c =
    let table = c.empty.result in
    record {
      holding_are = c.empty-2.ensures.are table (single_none table c.empty.ensures);
      past_are = tt;
      halves = λ order. halves_none order (list_in (lists_of table c.empty-2.result) order) (list_in no_lists order)
          (c.empty-2.ensures.lists table order) (none_in order);
      last_is = record { within = tt; is = sym (ap (λ (l : List Datom). slice_get l (length l - 1)) (empty_at table c.empty-2.result (c.empty-2.ensures.lists table) Eavt)) };
      used = λ d there. absurd (contains_none d (subst (λ (l : List Datom). Contains l d) c.empty.ensures there));
    }

pub returns : goal.returns
returns c = empty_at c.empty.result c.empty-2.result (c.empty-2.ensures.lists c.empty.result)
