use Rattle.std.proofs.Common.{◌≡◌, ◌++◌, drop, map}
use Rattle.tx_after.specs.Triples.{without_time}
use Rattle.tx_after.proofs.values.as_facts.Given as goal

abbrev pub invariant-loop-v : goal.invariant-loop-v
invariant-loop-v l = l.facts.items ++ map (without_time l.e l.a) (drop l.v-index l.values) ≡ map (without_time l.e l.a) l.values
