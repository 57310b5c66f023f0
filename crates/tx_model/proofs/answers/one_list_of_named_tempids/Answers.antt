use Rattle.tx_model.proofs.NamedTempids.{one-list}
use Rattle.tx_model.proofs.answers.one_list_of_named_tempids.Goals as goal

pub returns : goal.returns
returns c = λ h fs list rising same. one-list h fs list rising (λ text e. (same text e).0) (λ text e. (same text e).1)
