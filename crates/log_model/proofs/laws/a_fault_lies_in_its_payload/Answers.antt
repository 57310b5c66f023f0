-- The bytes behind it are fewer than the payload's.
use Rattle.log_model.proofs.Entries.{fault-within}
use Rattle.log_model.proofs.laws.a_fault_lies_in_its_payload.Goals as goal

pub returns : goal.returns
returns c = fault-within
