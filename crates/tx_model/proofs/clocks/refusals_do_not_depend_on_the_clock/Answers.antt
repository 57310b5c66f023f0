-- By the lemma on steps.
use Rattle.tx_model.proofs.Steps.{refused_always}
use Rattle.tx_model.proofs.clocks.refusals_do_not_depend_on_the_clock.Goals as goal

pub returns : goal.returns
returns c = refused_always
