-- By the lemma on the least instant.
use Rattle.with_model.proofs.Chains.{next_instant-least}
use Rattle.with_model.proofs.laws.instants_of_a_chain_follow_one_another.Goals as goal

pub returns : goal.returns
returns c = next_instant-least
