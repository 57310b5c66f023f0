use Rattle.edn_model.proofs.OneAnswer.{one_fault}
use Rattle.edn_model.proofs.reading.one_fault.Goals as goal

pub returns : goal.returns
returns c = λ bytes at a b m n h k. one_fault bytes at m n a b h k
