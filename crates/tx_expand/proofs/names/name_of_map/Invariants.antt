use Rattle.std.proofs.Common.{◌≡◌, List, drop}
use Rattle.edn_model.specs.Form as edn
use Rattle.edn_form.specs.View.{pairs_of, entries}
use Rattle.tx_asks.specs.declared.asks.LookupRef.{LookupRef}
use Rattle.tx_expand.specs.View.{BeginWith}
use Rattle.tx_expand.specs.Numbered.{name_at}
use Rattle.tx_expand.proofs.names.name_of_map.Given as goal

abbrev pub invariant-loop-key : goal.invariant-loop-key
invariant-loop-key l =
    (name_at l.next (edn.pairs (pairs_of (drop l.key-index (entries l.pairs)))) ≡ name_at l.next (edn.pairs (pairs_of (entries l.pairs))))
    × ((all : List LookupRef) → BeginWith l.lookups.items all → BeginWith l.fn.lookups.items all)
