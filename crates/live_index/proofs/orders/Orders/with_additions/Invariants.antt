use Rattle.std.proofs.Common.{◌-◌, take, drop}
use Rattle.std.specs.Prelude.{Contains, IsTrue}
use Rattle.fb_values.specs.declared.indexes.Order.{Order}
use Rattle.fb_values.specs.Lists.{list_in}
use Rattle.live_index.specs.Growth.{takes}
use Rattle.live_index.specs.Lists.{AreOrders, lists_of}
use Rattle.live_index.proofs.Growing.{Gains}
use Rattle.live_index.proofs.orders.Orders.with_additions.Given as goal

-- the lists have what they had and those of the datoms so far that their order takes
abbrev pub invariant-loop-number : goal.invariant-loop-number
invariant-loop-number l =
    record {
      are : AreOrders l.table l.orders;
      members : (order : Order)
          → Gains (list_in (lists_of l.table l.initial.orders) order)
          (λ d. Contains (take (l.number - l.fn.first) (drop l.fn.first l.table)) d × IsTrue (takes l.covers order d))
          (list_in (lists_of l.table l.orders) order);
    }
