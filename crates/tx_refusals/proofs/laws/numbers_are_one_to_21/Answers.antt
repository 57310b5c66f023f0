use Rattle.tx_refusals.proofs.Told.{first_and_last}
use Rattle.tx_refusals.proofs.laws.numbers_are_one_to_21.Goals as goal

pub returns : goal.returns
returns c = first_and_last
