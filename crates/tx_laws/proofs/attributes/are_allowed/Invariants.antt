use Rattle.std.proofs.Common.{◌≡◌, drop}
use Rattle.fb_model.specs.Laws.{are_allowed}
use Rattle.tx_laws.proofs.attributes.are_allowed.Given as goal

abbrev pub invariant-loop-d : goal.invariant-loop-d
invariant-loop-d l = are_allowed l.schema (drop l.d-index l.datoms) ≡ are_allowed l.schema l.datoms
