-- By the lemmas on chains.
use Rattle.with_model.proofs.Chains.{chain-IsLawful, chain-begins}
use Rattle.with_model.proofs.laws.a_chain_keeps_its_history.Goals as goal

pub returns-clause-lawful : goal.returns-clause-lawful
returns-clause-lawful c = chain-IsLawful

pub returns-clause-begins : goal.returns-clause-begins
returns-clause-begins c = chain-begins
