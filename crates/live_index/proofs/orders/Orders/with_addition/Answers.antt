use Rattle.std.proofs.Common.{◌≡◌}
use Rattle.fb_values.specs.declared.indexes.Order.TheVariants.{Eavt, Aevt, Avet, Vaet}
use Rattle.fb_values.specs.Lists.{list_in}
use Rattle.live_runs.specs.Members.{datom_of}
use Rattle.live_runs.specs.Runs.{AreRuns}
use Rattle.live_index.specs.declared.orders.Orders.{Orders}
use Rattle.live_index.specs.Growth.{with_taken}
use Rattle.live_index.specs.Lists.{lists_of, runs_in}
use Rattle.live_index.proofs.FourLists.{in_each}
use Rattle.live_index.proofs.orders.Orders.with_addition.Goals as goal

pub taken-requires-clause-runs : goal.taken-requires-clause-runs
taken-requires-clause-runs c = c.requires.are Eavt

pub taken-requires-2-clause-runs : goal.taken-requires-2-clause-runs
taken-requires-2-clause-runs c = c.requires.are Aevt

pub taken-requires-3-clause-runs : goal.taken-requires-3-clause-runs
taken-requires-3-clause-runs c = c.requires.are Avet

pub taken-requires-4-clause-runs : goal.taken-requires-4-clause-runs
taken-requires-4-clause-runs c = c.requires.are Vaet

pub taken-requires-clause-fresh : goal.taken-requires-clause-fresh
taken-requires-clause-fresh c = c.requires.fresh Eavt

pub taken-requires-2-clause-fresh : goal.taken-requires-2-clause-fresh
taken-requires-2-clause-fresh c = c.requires.fresh Aevt

pub taken-requires-3-clause-fresh : goal.taken-requires-3-clause-fresh
taken-requires-3-clause-fresh c = c.requires.fresh Avet

pub taken-requires-4-clause-fresh : goal.taken-requires-4-clause-fresh
taken-requires-4-clause-fresh c = c.requires.fresh Vaet

pub returns-clause-are : goal.returns-clause-are
returns-clause-are c =
    let new : Orders = record {
      eavt = c.in_ok-taken.field-0;
      aevt = c.in_ok-taken-2.field-0;
      avet = c.in_ok-taken-3.field-0;
      vaet = c.in_ok-taken-4.field-0;
    } in
    in_each (λ order. AreRuns order c.args.table.now (runs_in new order))
    c.in_ok-taken.ensures.runs c.in_ok-taken-2.ensures.runs c.in_ok-taken-3.ensures.runs c.in_ok-taken-4.ensures.runs

pub returns-clause-lists : goal.returns-clause-lists
returns-clause-lists c =
    let new : Orders = record {
      eavt = c.in_ok-taken.field-0;
      aevt = c.in_ok-taken-2.field-0;
      avet = c.in_ok-taken-3.field-0;
      vaet = c.in_ok-taken-4.field-0;
    } in
    let table = c.args.table.now in
    in_each (λ order. list_in (lists_of table new) order
    ≡ with_taken c.args.covers.now order (list_in (lists_of table c.args.self) order) (datom_of table c.args.number))
    c.in_ok-taken.ensures.datoms c.in_ok-taken-2.ensures.datoms c.in_ok-taken-3.ensures.datoms c.in_ok-taken-4.ensures.datoms
