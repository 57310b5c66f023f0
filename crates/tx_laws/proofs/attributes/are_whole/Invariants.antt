use Rattle.std.proofs.Common.{◌≡◌, drop}
use Rattle.tx_laws.specs.Changes.{are_whole}
use Rattle.tx_laws.proofs.attributes.are_whole.Given as goal

abbrev pub invariant-loop-d : goal.invariant-loop-d
invariant-loop-d l = are_whole l.schema l.altered (drop l.d-index l.datoms) ≡ are_whole l.schema l.altered l.datoms
