use Rattle.tx_model.proofs.Told.{least_told}
use Rattle.tx_model.proofs.answers.the_least_rule_is_told.Goals as goal

pub returns : goal.returns
returns c = least_told
