-- By the lemma on steps.
use Rattle.tx_model.proofs.Steps.{accepted_at}
use Rattle.tx_model.proofs.clocks.two_clocks_differ_in_the_instant_alone.Goals as goal

pub returns : goal.returns
returns c = accepted_at
