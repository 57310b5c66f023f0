use Rattle.tx_after.proofs.Asking.{as_many}
use Rattle.tx_after.proofs.laws.values_are_as_many.Goals as goal

pub returns : goal.returns
returns c = as_many
