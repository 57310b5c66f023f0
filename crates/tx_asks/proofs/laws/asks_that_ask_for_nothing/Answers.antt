use Rattle.tx_asks.proofs.laws.asks_that_ask_for_nothing.Goals as goal
use Rattle.tx_asks.proofs.Kept as kept

pub returns-clause-names : goal.returns-clause-names
returns-clause-names c = kept.no_names

pub returns-clause-tempids : goal.returns-clause-tempids
returns-clause-tempids c = kept.same_tempids

pub returns-clause-holders : goal.returns-clause-holders
returns-clause-holders c = kept.same_holders

pub returns-clause-assigned : goal.returns-clause-assigned
returns-clause-assigned c = kept.same_assigned

pub returns-clause-joined : goal.returns-clause-joined
returns-clause-joined c = kept.same_joined
