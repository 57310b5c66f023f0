-- What runs have: datoms of their table, in the order.
use Rattle.std.proofs.Common.{List}
use Rattle.fb_values.specs.declared.facts.Datom.{Datom}
use Rattle.fb_values.specs.declared.indexes.Order.{Order}
use Rattle.fb_values.specs.Rising.{IsRising}
use Rattle.live_runs.specs.Changed.{IsWithin, MayChange}
use Rattle.live_runs.specs.Changes.{added, removed}
use Rattle.live_runs.specs.Runs.{AreRuns, Layers, runs_datoms, settled_datoms}
use Rattle.live_runs.proofs.Changed.{changed_rises, changed_within}
use Rattle.live_runs.proofs.Named.{may_change}
use Rattle.live_runs.proofs.Running.{settled_rises, settled_within}

may_runs : (order : Order) (table : List Datom) (r : Layers) → AreRuns order table r
    → MayChange order table (removed table r.newest) (added table r.newest) (settled_datoms order table r.middle r.settled)
may_runs order table r are =
    may_change order table r.newest (settled_datoms order table r.middle r.settled) are.newest
    (settled_rises order table r.middle r.settled are.single are.settled)
    (settled_within order table r.middle r.settled are.single are.settled)

pub runs_rise : (order : Order) (table : List Datom) (r : Layers) → AreRuns order table r → IsRising order (runs_datoms order table r)
runs_rise order table r are =
    changed_rises order table (removed table r.newest) (added table r.newest) (settled_datoms order table r.middle r.settled) are.single
    (may_runs order table r are)

pub runs_within : (order : Order) (table : List Datom) (r : Layers) → AreRuns order table r → IsWithin table (runs_datoms order table r)
runs_within order table r are =
    changed_within order table (removed table r.newest) (added table r.newest) (settled_datoms order table r.middle r.settled) are.single
    (may_runs order table r are)
