use Rattle.std.proofs.Common.{◌≡◌, ◌++◌, drop}
use Rattle.std.specs.Prelude.{filter}
use Rattle.tx_rules.specs.Neighbours.{behind}
use Rattle.tx_rules.specs.Holders.{is_taker}
use Rattle.tx_rules.proofs.holders.takers.Given as goal

abbrev pub invariant-loop-triple : goal.invariant-loop-triple
invariant-loop-triple l =
    behind l.takers.items ++ filter (is_taker l.schema) (drop l.triple-index l.triples) ≡ filter (is_taker l.schema) l.triples
