-- By the lemma on chains.
use Rattle.with_model.proofs.Chains.{chain-append}
use Rattle.with_model.proofs.laws.a_chain_goes_on.Goals as goal

pub returns : goal.returns
returns c = chain-append
