-- By the lemmas on what the records of a log say.
use Rattle.log_model.proofs.Logs.{log_says-stands, stands-log_says}
use Rattle.log_model.proofs.laws.what_a_log_says.Goals as goal

pub returns-clause-stands : goal.returns-clause-stands
returns-clause-stands c = log_says-stands

pub returns-clause-says : goal.returns-clause-says
returns-clause-says c = stands-log_says
