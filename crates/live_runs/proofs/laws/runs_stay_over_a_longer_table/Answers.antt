use Rattle.live_runs.proofs.Longer.{datoms_longer, runs_longer}
use Rattle.live_runs.proofs.laws.runs_stay_over_a_longer_table.Goals as goal

pub returns-clause-runs : goal.returns-clause-runs
returns-clause-runs c = runs_longer

pub returns-clause-datoms : goal.returns-clause-datoms
returns-clause-datoms c = datoms_longer
