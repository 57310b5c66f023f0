-- By the lemmas on plans.
use Rattle.backup_model.proofs.Existence.{some_plan}
use Rattle.backup_model.proofs.Plans.{one_plan}
use Rattle.backup_model.proofs.laws.a_backup_has_one_plan.Goals as goal

pub returns-clause-some : goal.returns-clause-some
returns-clause-some c = some_plan

pub returns-clause-one : goal.returns-clause-one
returns-clause-one c = one_plan
