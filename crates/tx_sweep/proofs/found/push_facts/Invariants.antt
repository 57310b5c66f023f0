use Rattle.std.proofs.Common.{◌≡◌, ◌++◌, map, take}
use Rattle.tx_sweep.specs.Sweep.{asking_at}
use Rattle.tx_sweep.proofs.found.push_facts.Given as goal

abbrev pub invariant-loop-d : goal.invariant-loop-d
invariant-loop-d l = l.askings.items ≡ l.fn.askings.items ++ map (asking_at l.place) (take l.d-index l.facts)
