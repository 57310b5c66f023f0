use Rattle.std.proofs.Common.{◌∙◌}
use Rattle.live_runs.specs.Runs.{runs_datoms}
use Rattle.live_runs.proofs.Mating.{mate_is_some}
use Rattle.live_runs.proofs.runs.Runs.has_mate.Goals as goal

pub returns : goal.returns
returns c =
    c.is_some.ensures
    ∙ mate_is_some c.args.table.now (runs_datoms c.args.order c.args.table.now c.args.self.now) c.args.d.now c.mate.result c.mate.ensures
