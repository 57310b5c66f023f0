use Rattle.std.proofs.Common.{[], refl}
use Rattle.live_runs.proofs.Running.{no_members, rising_runs}
use Rattle.live_runs.proofs.runs.Runs.empty.Goals as goal

pub returns-clause-runs : goal.returns-clause-runs
returns-clause-runs c = λ order table single.
    (rising_runs order table c.new.result.items [] [] [] 0 single (no_members order table) c.new.ensures.items refl refl refl).0
