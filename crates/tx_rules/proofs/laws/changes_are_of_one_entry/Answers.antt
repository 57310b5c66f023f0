use Rattle.tx_rules.proofs.Holding.{changes_in_order}
use Rattle.tx_rules.proofs.laws.changes_are_of_one_entry.Goals as goal

pub returns : goal.returns
returns c = λ tx built. changes_in_order tx built
