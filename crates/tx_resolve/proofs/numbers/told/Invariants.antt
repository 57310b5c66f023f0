use Rattle.std.proofs.Common.{◌≡◌, ◌++◌, filter_map}
use Rattle.tx_resolve.specs.Numbers.{with_entity}
use Rattle.tx_resolve.proofs.numbers.told.Given as goal

abbrev pub invariant-loop-name : goal.invariant-loop-name
invariant-loop-name l =
    l.list.items ++ filter_map (with_entity l.entities) l.name-iterator ≡ filter_map (with_entity l.entities) l.named.entries
