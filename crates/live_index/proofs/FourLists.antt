-- The lists of the four orders over one table.
use denote.Ref.{Bor}
use Rattle.std.proofs.Common.{◌≡◌, ◌∙◌, List, [], ◌++◌, refl, sym, ap, subst, Option, Some, None}
use Rattle.std.specs.Prelude.{Contains}
use Rattle.fb_values.specs.declared.facts.Datom.{Datom}
use Rattle.fb_values.specs.declared.indexes.Order.{Order}
use Rattle.fb_values.specs.declared.indexes.Order.TheVariants.{Eavt, Aevt, Avet, Vaet}
use Rattle.fb_values.specs.Lists.{Lists, list_in}
use Rattle.fb_values.specs.Rising.{IsRising}
use Rattle.live_runs.specs.Runs.{AreRuns, Layers, runs_datoms}
use Rattle.live_runs.proofs.Longer.{datoms_longer, runs_longer}
use Rattle.live_index.specs.declared.orders.Orders.{Orders}
use Rattle.live_index.specs.Growth.{HasNoTwins}
use Rattle.live_index.specs.Lists.{AreIf, AreOrders, lists_if, lists_of, looked_at, no_lists, runs_in}
use Rattle.live_index.proofs.Members.{contains_none}
use Rattle.live_index.proofs.Runs.{runs_rise, runs_within}

pub list_at : (table : List Datom) (orders : Orders) (order : Order)
    → list_in (lists_of table orders) order ≡ runs_datoms order table (runs_in orders order)
list_at table orders Eavt = refl
list_at table orders Aevt = refl
list_at table orders Avet = refl
list_at table orders Vaet = refl

-- what holds in each of the four orders
pub in_each : (P : Order → Type 0) → P Eavt → P Aevt → P Avet → P Vaet → (order : Order) → P order
in_each P e a v r Eavt = e
in_each P e a v r Aevt = a
in_each P e a v r Avet = v
in_each P e a v r Vaet = r

-- the same lists in each order are the same four lists
pub same_lists : (a b : Lists) → ((order : Order) → list_in a order ≡ list_in b order) → a ≡ b
same_lists a b each = λ i. record { eavt = each Eavt i; aevt = each Aevt i; avet = each Avet i; vaet = each Vaet i }

pub none_in : (order : Order) → list_in no_lists order ≡ []
none_in Eavt = refl
none_in Aevt = refl
none_in Avet = refl
none_in Vaet = refl

-- ---- each list rises, and is of the table

pub lists_rise : (table : List Datom) (orders : Orders) → AreOrders table orders → (order : Order)
    → IsRising order (list_in (lists_of table orders) order)
lists_rise table orders are Eavt = runs_rise Eavt table orders.eavt (are Eavt)
lists_rise table orders are Aevt = runs_rise Aevt table orders.aevt (are Aevt)
lists_rise table orders are Avet = runs_rise Avet table orders.avet (are Avet)
lists_rise table orders are Vaet = runs_rise Vaet table orders.vaet (are Vaet)

pub lists_within : (table : List Datom) (orders : Orders) → AreOrders table orders → (order : Order) (d : Datom)
    → Contains (list_in (lists_of table orders) order) d → Contains table d
lists_within table orders are Eavt d there = runs_within Eavt table orders.eavt (are Eavt) d there
lists_within table orders are Aevt d there = runs_within Aevt table orders.aevt (are Aevt) d there
lists_within table orders are Avet d there = runs_within Avet table orders.avet (are Avet) d there
lists_within table orders are Vaet d there = runs_within Vaet table orders.vaet (are Vaet) d there

pub if_rise : (table : List Datom) (orders : Option Orders) → AreIf table orders → (order : Order)
    → IsRising order (list_in (lists_if table orders) order)
if_rise table None are Eavt = tt
if_rise table None are Aevt = tt
if_rise table None are Avet = tt
if_rise table None are Vaet = tt
if_rise table (Some orders) are order = lists_rise table orders are order

pub if_within : (table : List Datom) (orders : Option Orders) → AreIf table orders → (order : Order) (d : Datom)
    → Contains (list_in (lists_if table orders) order) d → Contains table d
if_within table None are Eavt d there = absurd (contains_none d there)
if_within table None are Aevt d there = absurd (contains_none d there)
if_within table None are Avet d there = absurd (contains_none d there)
if_within table None are Vaet d there = absurd (contains_none d there)
if_within table (Some orders) are order d there = lists_within table orders are order d there

-- ---- over a longer table

pub orders_longer : (table more : List Datom) (orders : Orders) → AreOrders table orders → HasNoTwins (table ++ more)
    → AreOrders (table ++ more) orders
orders_longer table more orders are single order = runs_longer order table more (runs_in orders order) (are order) single

pub lists_longer : (table more : List Datom) (orders : Orders) → AreOrders table orders
    → lists_of (table ++ more) orders ≡ lists_of table orders
lists_longer table more orders are =
    same_lists (lists_of (table ++ more) orders) (lists_of table orders)
    (in_each (λ order. list_in (lists_of (table ++ more) orders) order ≡ list_in (lists_of table orders) order)
    (datoms_longer Eavt table more orders.eavt (are Eavt)) (datoms_longer Aevt table more orders.aevt (are Aevt))
    (datoms_longer Avet table more orders.avet (are Avet)) (datoms_longer Vaet table more orders.vaet (are Vaet)))

pub if_are_longer : (table more : List Datom) (orders : Option Orders) → AreIf table orders → HasNoTwins (table ++ more)
    → AreIf (table ++ more) orders
if_are_longer table more None are single = tt
if_are_longer table more (Some orders) are single = orders_longer table more orders are single

pub if_longer : (table more : List Datom) (orders : Option Orders) → AreIf table orders
    → lists_if (table ++ more) orders ≡ lists_if table orders
if_longer table more None are = refl
if_longer table more (Some orders) are = lists_longer table more orders are

-- ---- a half that is looked at

pub record IsListOf (order : Order) (table : List Datom) (runs : Layers) (now : Lists) : Type 0 where
  pub are : AreRuns order table runs
  pub is : runs_datoms order table runs ≡ list_in now order

pub list_of : (order : Order) (table : List Datom) (o : Option (Bor Orders)) (r : Bor Orders) (runs : Layers) (now : Lists) → o ≡ Some r
    → AreIf table (looked_at o) → lists_if table (looked_at o) ≡ now → runs ≡ runs_in r.now order → IsListOf order table runs now
list_of order table o r runs now is are seen runs_is =
    let all : AreOrders table r.now = subst (λ x. AreIf table (looked_at x)) is are in
    record {
      are = subst (AreRuns order table) (sym runs_is) (all order);
      is =
          ap (runs_datoms order table) runs_is
          ∙ sym (list_at table r.now order)
          ∙ ap (λ x. list_in (lists_if table (looked_at x)) order) (sym is)
          ∙ ap (λ (ls : Lists). list_in ls order) seen;
    }

pub list_lacks : (order : Order) (table : List Datom) (o : Option (Bor Orders)) (now : Lists) → o ≡ None
    → lists_if table (looked_at o) ≡ now → list_in now order ≡ []
list_lacks order table o now is seen =
    ap (λ (ls : Lists). list_in ls order) (sym seen) ∙ ap (λ x. list_in (lists_if table (looked_at x)) order) is ∙ none_in order
