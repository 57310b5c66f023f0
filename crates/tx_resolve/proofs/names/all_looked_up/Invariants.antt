use Rattle.std.proofs.Common.{◌≡◌, ◌++◌, drop}
use Rattle.tx_model.specs.Tempids.{db_of}
use Rattle.tx_resolve.specs.Whoms.{all_found}
use Rattle.tx_resolve.proofs.names.all_looked_up.Given as goal

abbrev pub invariant-loop-lookup : goal.invariant-loop-lookup
invariant-loop-lookup g l =
    let db = db_of (g.F.Facts.history l.facts) in
    l.found.items ++ all_found db (drop l.lookup-index l.lookups) ≡ all_found db l.lookups
