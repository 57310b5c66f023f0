-- By the lemmas on runs.
use Rattle.event_model.proofs.Running.{runs-append, reached-further}
use Rattle.event_model.proofs.runs.a_run_goes_on.Goals as goal

pub returns : goal.returns
returns c = record { joined = runs-append; reached = reached-further }
