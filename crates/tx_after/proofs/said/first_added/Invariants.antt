use Rattle.std.proofs.Common.{◌≡◌, drop}
use Rattle.std.specs.Prelude.{filter}
use Rattle.fb_model.specs.Facts.{value_of}
use Rattle.tx_after.specs.Triples.{is_added}
use Rattle.tx_after.proofs.said.first_added.Given as goal

abbrev pub invariant-loop-d : goal.invariant-loop-d
invariant-loop-d l = value_of (filter is_added (drop l.d-index l.changes)) l.e l.a ≡ value_of (filter is_added l.changes) l.e l.a
