use Rattle.std.proofs.Common.{◌≡◌, ◌++◌, sym, subst}
use Rattle.std.specs.Prelude.{filter}
use Rattle.fb_values.specs.declared.indexes.Order.{Order}
use Rattle.fb_values.specs.declared.indexes.Order.TheVariants.{Eavt, Aevt, Avet, Vaet}
use Rattle.fb_values.specs.Lists.{list_in}
use Rattle.fb_model.specs.Facts.{standing}
use Rattle.fb_model.specs.Rising.{in_order}
use Rattle.live_runs.specs.Runs.{AreRuns}
use Rattle.live_index.specs.declared.orders.Orders.{Orders}
use Rattle.live_index.specs.Gathered.{own_span}
use Rattle.live_index.specs.Growth.{is_held}
use Rattle.live_index.specs.Halves.{withdrawn}
use Rattle.live_index.specs.Lists.{AreOrders, lists_of, runs_in}
use Rattle.live_index.specs.Ranks.{span_of}
use Rattle.live_index.proofs.FourLists.{in_each}
use Rattle.live_index.proofs.gathering.Gathered.split.Goals as goal

pub halves_of-requires-clause-own : goal.halves_of-requires-clause-own
halves_of-requires-clause-own c = c.requires.own Eavt

pub halves_of-requires-2-clause-own : goal.halves_of-requires-2-clause-own
halves_of-requires-2-clause-own c = c.requires.own Aevt

pub halves_of-requires-3-clause-own : goal.halves_of-requires-3-clause-own
halves_of-requires-3-clause-own c = c.requires.own Avet

pub halves_of-requires-4-clause-own : goal.halves_of-requires-4-clause-own
halves_of-requires-4-clause-own c = c.requires.own Vaet

pub returns-clause-holding : goal.returns-clause-holding
returns-clause-holding c =
    let made : Orders = record { eavt = c.in_ok-eavt.eavt.pair.holding; aevt = c.in_ok-aevt.aevt.pair.holding; avet = c.in_ok-avet.avet.pair.holding; vaet = c.in_ok-vaet.vaet.pair.holding } in
    subst (AreOrders c.args.self.now.table) (sym c.both_of-both.ensures.holding) (in_each (λ order. AreRuns order c.args.self.now.table (runs_in made order))
    c.in_ok-eavt.ensures.holding c.in_ok-aevt.ensures.holding c.in_ok-avet.ensures.holding c.in_ok-vaet.ensures.holding)

pub returns-clause-past : goal.returns-clause-past
returns-clause-past c =
    let made : Orders = record { eavt = c.in_ok-eavt.eavt.pair.past; aevt = c.in_ok-aevt.aevt.pair.past; avet = c.in_ok-avet.avet.pair.past; vaet = c.in_ok-vaet.vaet.pair.past } in
    subst (AreOrders c.args.self.now.table) (sym c.both_of-both.ensures.past) (in_each (λ order. AreRuns order c.args.self.now.table (runs_in made order))
    c.in_ok-eavt.ensures.past c.in_ok-aevt.ensures.past c.in_ok-avet.ensures.past c.in_ok-vaet.ensures.past)

pub returns-clause-stands : goal.returns-clause-stands
returns-clause-stands c =
    let g = c.args.self.now in
    let table = c.args.self.now.table in
    let covers = c.args.covers.now in
    let made : Orders = record { eavt = c.in_ok-eavt.eavt.pair.holding; aevt = c.in_ok-aevt.aevt.pair.holding; avet = c.in_ok-avet.avet.pair.holding; vaet = c.in_ok-vaet.vaet.pair.holding } in
    subst (λ (h : Orders). (order : Order) → list_in (lists_of table h) order
    ≡ standing (in_order order (filter (is_held covers order) (span_of table (own_span g order)) ++ filter (is_held covers order) (span_of table g.coming))))
    (sym c.both_of-both.ensures.holding)
    (in_each (λ order. list_in (lists_of table made) order
    ≡ standing (in_order order (filter (is_held covers order) (span_of table (own_span g order)) ++ filter (is_held covers order) (span_of table g.coming))))
    c.in_ok-eavt.ensures.stands c.in_ok-aevt.ensures.stands c.in_ok-avet.ensures.stands c.in_ok-vaet.ensures.stands)

pub returns-clause-falls : goal.returns-clause-falls
returns-clause-falls c =
    let g = c.args.self.now in
    let table = c.args.self.now.table in
    let covers = c.args.covers.now in
    let made : Orders = record { eavt = c.in_ok-eavt.eavt.pair.past; aevt = c.in_ok-aevt.aevt.pair.past; avet = c.in_ok-avet.avet.pair.past; vaet = c.in_ok-vaet.vaet.pair.past } in
    subst (λ (h : Orders). (order : Order) → list_in (lists_of table h) order
    ≡ withdrawn (in_order order (filter (is_held covers order) (span_of table (own_span g order)) ++ filter (is_held covers order) (span_of table g.coming))))
    (sym c.both_of-both.ensures.past)
    (in_each (λ order. list_in (lists_of table made) order
    ≡ withdrawn (in_order order (filter (is_held covers order) (span_of table (own_span g order)) ++ filter (is_held covers order) (span_of table g.coming))))
    c.in_ok-eavt.ensures.falls c.in_ok-aevt.ensures.falls c.in_ok-avet.ensures.falls c.in_ok-vaet.ensures.falls)
