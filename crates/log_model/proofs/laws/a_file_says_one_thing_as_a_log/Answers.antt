-- By the lemmas on files.
use Rattle.log_model.proofs.LogFiles.{one_said, some_said, IsLogOf-says, says-IsLogOf}
use Rattle.log_model.proofs.laws.a_file_says_one_thing_as_a_log.Goals as goal

pub returns-clause-one : goal.returns-clause-one
returns-clause-one c = one_said

pub returns-clause-some : goal.returns-clause-some
returns-clause-some c = some_said

pub returns-clause-good : goal.returns-clause-good
returns-clause-good c = IsLogOf-says

pub returns-clause-history : goal.returns-clause-history
returns-clause-history c = says-IsLogOf
