use Rattle.std.proofs.Common.{◌≡◌, drop}
use Rattle.fb_model.specs.Laws.{are_installed}
use Rattle.tx_laws.proofs.datoms.are_installed.Given as goal

abbrev pub invariant-loop-d : goal.invariant-loop-d
invariant-loop-d l = are_installed l.schema (drop l.d-index l.datoms) ≡ are_installed l.schema l.datoms
