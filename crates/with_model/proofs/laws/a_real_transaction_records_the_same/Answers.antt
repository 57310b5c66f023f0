-- By the lemma on two clocks.
use Rattle.with_model.proofs.Chains.{at_any_clock}
use Rattle.with_model.proofs.laws.a_real_transaction_records_the_same.Goals as goal

pub returns : goal.returns
returns c = at_any_clock
