-- By the lemmas on database values.
use Rattle.pull_model.proofs.Views.{pull-IsPulled, one_pull}
use Rattle.pull_model.proofs.laws.a_pull_has_one_answer.Goals as goal

pub returns-clause-computed : goal.returns-clause-computed
returns-clause-computed c = pull-IsPulled

pub returns-clause-one : goal.returns-clause-one
returns-clause-one c = one_pull
