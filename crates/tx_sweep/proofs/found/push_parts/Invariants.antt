use Rattle.std.proofs.Common.{◌≡◌, ◌++◌, drop}
use Rattle.std.specs.Prelude.{filter_map}
use Rattle.tx_sweep.specs.Sweep.{part_to}
use Rattle.tx_sweep.proofs.found.push_parts.Given as goal

abbrev pub invariant-loop-d : goal.invariant-loop-d
invariant-loop-d l =
    l.stack.items ++ filter_map (part_to l.schema) (drop l.d-index l.facts) ≡ l.fn.stack.items ++ filter_map (part_to l.schema) l.facts
