use Rattle.std.proofs.Common.{◌-◌, take, drop}
use Rattle.fb_values.specs.declared.indexes.Order.{Order}
use Rattle.fb_values.specs.Lists.{list_in}
use Rattle.live_index.specs.Ending.{IsRetracted}
use Rattle.live_index.specs.Lists.{AreOrders, lists_of}
use Rattle.live_index.proofs.retracting.Both.retracted.Given as goal

-- the lists with the retractions among the datoms so far
abbrev pub invariant-loop-number : goal.invariant-loop-number
invariant-loop-number l =
    record {
      holding : AreOrders l.table l.both.holding;
      past : AreOrders l.table l.both.past;
      retracted : (order : Order)
          → IsRetracted order l.covers (list_in (lists_of l.table l.initial.both.holding) order)
          (list_in (lists_of l.table l.initial.both.past) order) (take (l.number - l.fn.first) (drop l.fn.first l.table))
          (list_in (lists_of l.table l.both.holding) order) (list_in (lists_of l.table l.both.past) order);
    }
