use Rattle.std.proofs.Common.{◌≡◌, drop}
use Rattle.tx_laws.specs.Changes.{add_no_reserved_names}
use Rattle.tx_laws.proofs.attributes.add_no_reserved_names.Given as goal

abbrev pub invariant-loop-d : goal.invariant-loop-d
invariant-loop-d l = add_no_reserved_names (drop l.d-index l.datoms) ≡ add_no_reserved_names l.datoms
