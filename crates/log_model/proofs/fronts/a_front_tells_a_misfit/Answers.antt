use Rattle.log_model.proofs.Beginnings.{breaks-early, bad-early}
use Rattle.log_model.proofs.fronts.a_front_tells_a_misfit.Goals as goal

pub returns-clause-payload : goal.returns-clause-payload
returns-clause-payload c = breaks-early

pub returns-clause-record : goal.returns-clause-record
returns-clause-record c = bad-early
