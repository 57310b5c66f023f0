use Rattle.std.proofs.Common.{◌≡◌, ◌++◌, map, drop}
use Rattle.tx_changes.specs.declared.noted.AskedAs.TheVariants.{Replaced}
use Rattle.tx_changes.specs.Asked.{others_of}
use Rattle.tx_changes.specs.Noted.{as_way}
use Rattle.tx_changes.proofs.collect.push_values.Given as goal

abbrev pub invariant-loop-v : goal.invariant-loop-v
invariant-loop-v l =
    l.noted.items ++ map (as_way Replaced) (others_of l.addition (drop l.v-index l.values))
    ≡ l.fn.noted.items ++ map (as_way Replaced) (others_of l.addition l.values)
