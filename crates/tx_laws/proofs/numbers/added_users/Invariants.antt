use Rattle.std.proofs.Common.{◌≡◌, ◌++◌, drop}
use Rattle.tx_laws.specs.Users.{added_users}
use Rattle.tx_laws.proofs.numbers.added_users.Given as goal

abbrev pub invariant-loop-d : goal.invariant-loop-d
invariant-loop-d l = l.numbers.items ++ added_users (drop l.d-index l.datoms) ≡ added_users l.datoms
