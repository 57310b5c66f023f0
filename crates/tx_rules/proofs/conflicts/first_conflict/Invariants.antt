use Rattle.std.proofs.Common.{◌≡◌, drop, None}
use Rattle.std.specs.Prelude.{filter}
use Rattle.std.specs.Option.{option_copied}
use Rattle.tx_rules.specs.Places.{earlier}
use Rattle.tx_rules.specs.Conflicts.{is_addition, first_behind}
use Rattle.tx_rules.proofs.conflicts.first_conflict.Given as goal

abbrev pub invariant-loop-triple : goal.invariant-loop-triple
invariant-loop-triple l =
    earlier l.first (first_behind l.schema (option_copied l.last) (filter is_addition (drop l.triple-index l.triples)))
    ≡ first_behind l.schema None (filter is_addition l.triples)
