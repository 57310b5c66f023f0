use Rattle.std.proofs.Common.{◌≡◌, drop}
use Rattle.fb_model.specs.Laws.{are_typed}
use Rattle.tx_laws.proofs.datoms.are_typed.Given as goal

abbrev pub invariant-loop-d : goal.invariant-loop-d
invariant-loop-d l = are_typed l.schema (drop l.d-index l.datoms) ≡ are_typed l.schema l.datoms
