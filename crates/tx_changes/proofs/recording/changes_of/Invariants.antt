use Rattle.std.proofs.Common.{◌≡◌, ◌++◌, map, drop}
use Rattle.std.specs.Prelude.{filter}
use Rattle.tx_changes.specs.Recorded.{datom_of, is_change}
use Rattle.tx_changes.proofs.recording.changes_of.Given as goal

abbrev pub invariant-loop-triple : goal.invariant-loop-triple
invariant-loop-triple l =
    l.changes.items ++ map (datom_of l.t) (filter is_change (drop l.triple-index l.triples))
    ≡ map (datom_of l.t) (filter is_change l.triples)
