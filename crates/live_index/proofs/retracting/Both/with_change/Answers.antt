use Rattle.std.proofs.Common.{◌∷◌, [], sym, subst}
use Rattle.fb_values.specs.declared.indexes.Order.{Order}
use Rattle.fb_values.specs.declared.indexes.Order.TheVariants.{Eavt, Aevt, Avet, Vaet}
use Rattle.fb_values.specs.Lists.{list_in}
use Rattle.live_runs.specs.Members.{datom_of}
use Rattle.live_runs.specs.Runs.{AreRuns}
use Rattle.live_index.specs.declared.orders.Orders.{Orders}
use Rattle.live_index.specs.Ending.{IsRetracted}
use Rattle.live_index.specs.Lists.{AreOrders, lists_of, runs_in}
use Rattle.live_index.proofs.FourLists.{in_each}
use Rattle.live_index.proofs.retracting.Both.with_change.Goals as goal

pub with_change-requires-clause-holding : goal.with_change-requires-clause-holding
with_change-requires-clause-holding c = c.requires.holding Eavt

pub with_change-requires-clause-past : goal.with_change-requires-clause-past
with_change-requires-clause-past c = c.requires.past Eavt

pub with_change-requires-clause-may : goal.with_change-requires-clause-may
with_change-requires-clause-may c = c.requires.may Eavt

pub with_change-requires-2-clause-holding : goal.with_change-requires-2-clause-holding
with_change-requires-2-clause-holding c = c.requires.holding Aevt

pub with_change-requires-2-clause-past : goal.with_change-requires-2-clause-past
with_change-requires-2-clause-past c = c.requires.past Aevt

pub with_change-requires-2-clause-may : goal.with_change-requires-2-clause-may
with_change-requires-2-clause-may c = c.requires.may Aevt

pub with_change-requires-3-clause-holding : goal.with_change-requires-3-clause-holding
with_change-requires-3-clause-holding c = c.requires.holding Avet

pub with_change-requires-3-clause-past : goal.with_change-requires-3-clause-past
with_change-requires-3-clause-past c = c.requires.past Avet

pub with_change-requires-3-clause-may : goal.with_change-requires-3-clause-may
with_change-requires-3-clause-may c = c.requires.may Avet

pub with_change-requires-4-clause-holding : goal.with_change-requires-4-clause-holding
with_change-requires-4-clause-holding c = c.requires.holding Vaet

pub with_change-requires-4-clause-past : goal.with_change-requires-4-clause-past
with_change-requires-4-clause-past c = c.requires.past Vaet

pub with_change-requires-4-clause-may : goal.with_change-requires-4-clause-may
with_change-requires-4-clause-may c = c.requires.may Vaet

pub returns-clause-holding : goal.returns-clause-holding
returns-clause-holding c =
    let made : Orders = record {
      eavt = c.in_ok-eavt.eavt.holding;
      aevt = c.in_ok-aevt.aevt.holding;
      avet = c.in_ok-avet.avet.holding;
      vaet = c.in_ok-vaet.vaet.holding;
    } in
    subst (AreOrders c.args.table.now) (sym c.both_of.ensures.holding) (in_each (λ order. AreRuns order c.args.table.now (runs_in made order))
    c.in_ok-eavt.ensures.holding c.in_ok-aevt.ensures.holding c.in_ok-avet.ensures.holding c.in_ok-vaet.ensures.holding)

pub returns-clause-past : goal.returns-clause-past
returns-clause-past c =
    let made : Orders = record {
      eavt = c.in_ok-eavt.eavt.past;
      aevt = c.in_ok-aevt.aevt.past;
      avet = c.in_ok-avet.avet.past;
      vaet = c.in_ok-vaet.vaet.past;
    } in
    subst (AreOrders c.args.table.now) (sym c.both_of.ensures.past) (in_each (λ order. AreRuns order c.args.table.now (runs_in made order))
    c.in_ok-eavt.ensures.past c.in_ok-aevt.ensures.past c.in_ok-avet.ensures.past c.in_ok-vaet.ensures.past)

pub returns-clause-retracted : goal.returns-clause-retracted
returns-clause-retracted c =
    let table = c.args.table.now in
    let d = datom_of table c.args.number in
    let made : Orders = record {
      eavt = c.in_ok-eavt.eavt.holding;
      aevt = c.in_ok-aevt.aevt.holding;
      avet = c.in_ok-avet.avet.holding;
      vaet = c.in_ok-vaet.vaet.holding;
    } in
    let gone : Orders = record {
      eavt = c.in_ok-eavt.eavt.past;
      aevt = c.in_ok-aevt.aevt.past;
      avet = c.in_ok-avet.avet.past;
      vaet = c.in_ok-vaet.vaet.past;
    } in
    subst (λ (h : Orders). (order : Order) → IsRetracted order c.args.covers.now (list_in (lists_of table c.args.self.holding) order)
    (list_in (lists_of table c.args.self.past) order) (d ∷ []) (list_in (lists_of table h) order)
    (list_in (lists_of table c.both_of.result.past) order)) (sym c.both_of.ensures.holding)
    (subst (λ (p : Orders). (order : Order) → IsRetracted order c.args.covers.now (list_in (lists_of table c.args.self.holding) order)
    (list_in (lists_of table c.args.self.past) order) (d ∷ []) (list_in (lists_of table made) order)
    (list_in (lists_of table p) order)) (sym c.both_of.ensures.past)
    (in_each (λ order. IsRetracted order c.args.covers.now (list_in (lists_of table c.args.self.holding) order)
    (list_in (lists_of table c.args.self.past) order) (d ∷ []) (list_in (lists_of table made) order) (list_in (lists_of table gone) order))
    c.in_ok-eavt.ensures.retracted c.in_ok-aevt.ensures.retracted c.in_ok-avet.ensures.retracted c.in_ok-vaet.ensures.retracted))
