use Rattle.tx_refusals.proofs.Told.{same_number}
use Rattle.tx_refusals.proofs.laws.numbers_tell_reasons_apart.Goals as goal

pub returns : goal.returns
returns c = same_number
