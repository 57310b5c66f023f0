use Rattle.std.proofs.Common.{◌≡◌, ◌≤◌, ◌+◌, ◌^◌, ◌++◌, drop}
use Rattle.tx_resolve.specs.Numbers.{numbered}
use Rattle.tx_resolve.proofs.numbers.numbered.Given as goal

abbrev pub invariant-loop-slot : goal.invariant-loop-slot
invariant-loop-slot l = record {
  few : l.n ≤ 2 ^ 47 + l.slot-index;
  entities_are : l.entities.items ++ numbered (drop l.slot-index l.slots) l.n ≡ numbered l.slots l.users;
}
