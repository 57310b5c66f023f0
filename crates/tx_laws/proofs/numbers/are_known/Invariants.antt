use Rattle.std.proofs.Common.{◌≡◌, drop}
use Rattle.std.specs.List.{list_all}
use Rattle.tx_laws.specs.Users.{is_known_datom}
use Rattle.tx_laws.proofs.numbers.are_known.Given as goal

abbrev pub invariant-loop-d : goal.invariant-loop-d
invariant-loop-d l = list_all (is_known_datom l.known) (drop l.d-index l.datoms) ≡ list_all (is_known_datom l.known) l.datoms
