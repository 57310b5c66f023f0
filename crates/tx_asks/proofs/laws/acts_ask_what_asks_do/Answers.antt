use Rattle.tx_asks.proofs.laws.acts_ask_what_asks_do.Goals as goal
use Rattle.tx_asks.proofs.Settled as settled

pub returns-clause-added : goal.returns-clause-added
returns-clause-added c db names ask = settled.added db names ask

pub returns-clause-retracted : goal.returns-clause-retracted
returns-clause-retracted c db names ask = settled.retracted db names ask

pub returns-clause-swept : goal.returns-clause-swept
returns-clause-swept c db names ask = settled.swept db names ask
