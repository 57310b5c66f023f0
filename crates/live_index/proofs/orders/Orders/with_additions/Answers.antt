use Rattle.std.proofs.Common.{◌≡◌, ◌-◌, ◌<◌, ◌≤◌, inl, inr, List, drop, length, length-drop, take, sym, subst, arith}
use Rattle.std.specs.Prelude.{Contains, IsTrue}
use Rattle.std.proofs.lemmas.List.{take_all}
use Rattle.fb_values.specs.declared.facts.Datom.{Datom}
use Rattle.fb_values.specs.declared.indexes.Order.TheVariants.{Eavt}
use Rattle.fb_values.specs.Lists.{list_in}
use Rattle.live_runs.specs.Members.{datom_of}
use Rattle.live_index.specs.Growth.{takes}
use Rattle.live_index.specs.Lists.{lists_of}
use Rattle.live_index.proofs.FourLists.{lists_rise, lists_within}
use Rattle.live_index.proofs.Growing.{Gains, gains_more}
use Rattle.live_index.proofs.Members.{contains_none}
use Rattle.live_index.proofs.Retractions.{in_them, is_new}
use Rattle.live_index.proofs.Spans.{datom_at, next_number, number_in, number_within}
use Rattle.live_index.proofs.Taking.{one_if_equal, taken-gains}
use Rattle.live_index.proofs.orders.Orders.with_additions.Goals as goal

pub with_addition-requires-clause-fresh : goal.with_addition-requires-clause-fresh
with_addition-requires-clause-fresh c = λ order there.
    let table = c.args.table.now in
    let first = c.args.first in
    let number = c.loop-number.number in
    let low : first ≤ number = c.loop-number.auto.number in
    let high : number < length table = omega (arith, c.loop-number-test.true, c.count_of-count.ensures) in
    let item = datom_of table number in
    let within = number_within table first number low high in
    let is = datom_at table first number low high in
    elim ((c.loop-number.invariant.members order item).0 there) [
      | inl before ↦ c.requires.fresh order item (in_them (drop first table) (number - first) item within is) before
      | inr now ↦ is_new Eavt (drop first table) (number - first) item c.requires.rising within is now.0
    ]

pub loop-number-init : goal.loop-number-init
loop-number-init c =
    let none : c.args.first - c.args.first ≡ 0 = omega arith in
    record {
      are = c.requires.are;
      members = λ order d. (
        inl,
        λ given. elim given [
          | inl is ↦ is
          | inr more ↦
              absurd (contains_none d
              (subst (λ n. Contains (take n (drop c.args.first c.args.table.now)) d) none more.0))
        ],
      );
    }

pub loop-number-preserved : goal.loop-number-preserved
loop-number-preserved c =
    let table = c.args.table.now in
    let covers = c.args.covers.now in
    let first = c.args.first in
    let number = c.loop-number.number in
    let low : first ≤ number = c.loop-number.auto.number in
    let high : number < length table = omega (arith, c.loop-number-test.true, c.count_of-count.ensures) in
    let item = datom_of table number in
    let ds = drop first table in
    let within = number_within table first number low high in
    let is = datom_at table first number low high in
    record {
      are = c.in_ok-orders.ensures.are;
      members = λ order.
          let old = list_in (lists_of table c.args.self) order in
          let list = list_in (lists_of table c.loop-number.orders) order in
          let P : Datom → Type 0 = λ d. IsTrue (takes covers order d) in
          let are = c.loop-number.invariant.are in
          let one : Gains list (λ d. (item ≡ d) × P d) (list_in (lists_of table c.in_ok-orders.orders) order) =
          subst (Gains list (λ d. (item ≡ d) × P d)) (sym (c.in_ok-orders.ensures.lists order))
          (taken-gains covers order list item (lists_rise table c.loop-number.orders are order)
          (one_if_equal order table item list (are Eavt).single (number_in table number high)
          (lists_within table c.loop-number.orders are order))) in
          subst (λ n. Gains old (λ d. Contains (take n (drop first table)) d × P d) (list_in (lists_of table c.in_ok-orders.orders) order))
          (sym (next_number first number low))
          (gains_more old list ds (list_in (lists_of table c.in_ok-orders.orders) order) (number - first) item P
          (c.loop-number.invariant.members order) within is one);
    }

pub returns : goal.returns
returns c =
    let table = c.args.table.now in
    let first = c.args.first in
    let n = c.loop-number.number - first in
    record {
      are = c.loop-number.invariant.are;
      members = λ order.
          subst (λ (ds : List Datom). Gains (list_in (lists_of table c.args.self) order)
          (λ d. Contains ds d × IsTrue (takes c.args.covers.now order d)) (list_in (lists_of table c.loop-number.orders) order))
          (take_all n (drop first table)
          (omega (arith, c.loop-number-test.false, c.count_of-count.ensures, length-drop first table)))
          (c.loop-number.invariant.members order);
    }

pub with_addition-requires-clause-within : goal.with_addition-requires-clause-within
with_addition-requires-clause-within c = omega (arith, c.loop-number-test.true, c.count_of-count.ensures)
