use Rattle.tx_expand.proofs.SameAttributes.{flat_same}
use Rattle.tx_expand.proofs.Whole.{schema_rules_same}
use Rattle.tx_expand.proofs.laws.attributes_decide_what_is_asked.Goals as goal

pub returns-clause-asks : goal.returns-clause-asks
returns-clause-asks c = λ one other fs same. flat_same one other same fs

pub returns-clause-rules : goal.returns-clause-rules
returns-clause-rules c = λ one other asks same. schema_rules_same one other asks same
