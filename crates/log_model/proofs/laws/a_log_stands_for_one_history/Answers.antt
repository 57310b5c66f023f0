-- What it says is one history.
use Rattle.log_model.proofs.Logs.{one_history}
use Rattle.log_model.proofs.laws.a_log_stands_for_one_history.Goals as goal

pub returns : goal.returns
returns c = one_history
