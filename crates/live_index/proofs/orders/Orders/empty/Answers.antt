use Rattle.fb_values.specs.declared.indexes.Order.TheVariants.{Eavt, Aevt, Avet, Vaet}
use Rattle.live_index.proofs.FourLists.{in_each}
use Rattle.live_index.proofs.orders.Orders.empty.Goals as goal

pub returns-clause-are : goal.returns-clause-are
returns-clause-are c = λ table single.
    in_each _ (c.empty.ensures.runs _ table single) (c.empty-2.ensures.runs _ table single) (c.empty-3.ensures.runs _ table single)
    (c.empty-4.ensures.runs _ table single)

pub returns-clause-lists : goal.returns-clause-lists
returns-clause-lists c = λ table.
    in_each _ (c.empty.ensures.datoms Eavt table) (c.empty-2.ensures.datoms Aevt table) (c.empty-3.ensures.datoms Avet table)
    (c.empty-4.ensures.datoms Vaet table)
