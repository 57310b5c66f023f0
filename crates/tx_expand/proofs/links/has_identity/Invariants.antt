use Rattle.std.proofs.Common.{◌≡◌, drop}
use Rattle.edn_model.specs.Form as edn
use Rattle.edn_form.specs.View.{pairs_of, entries}
use Rattle.tx_model.specs.Walk.{has_identity}
use Rattle.tx_expand.proofs.links.has_identity.Given as goal

abbrev pub invariant-loop-key : goal.invariant-loop-key
invariant-loop-key l =
    has_identity l.schema (edn.pairs (pairs_of (drop l.key-index (entries l.pairs))))
    ≡ has_identity l.schema (edn.pairs (pairs_of (entries l.pairs)))
