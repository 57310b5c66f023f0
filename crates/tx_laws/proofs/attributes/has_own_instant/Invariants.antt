use Rattle.std.proofs.Common.{◌≡◌, drop}
use Rattle.std.specs.List.{list_any}
use Rattle.fb_model.specs.Laws.{is_own_instant}
use Rattle.tx_laws.proofs.attributes.has_own_instant.Given as goal

abbrev pub invariant-loop-d : goal.invariant-loop-d
invariant-loop-d l = list_any (is_own_instant l.entry) (drop l.d-index l.datoms) ≡ list_any (is_own_instant l.entry) l.datoms
