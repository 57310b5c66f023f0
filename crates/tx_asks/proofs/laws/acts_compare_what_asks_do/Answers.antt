use Rattle.tx_asks.proofs.laws.acts_compare_what_asks_do.Goals as goal
use Rattle.tx_asks.proofs.Settled as settled

pub returns-clause-many : goal.returns-clause-many
returns-clause-many c = settled.many

pub returns-clause-another : goal.returns-clause-another
returns-clause-another c = settled.another
