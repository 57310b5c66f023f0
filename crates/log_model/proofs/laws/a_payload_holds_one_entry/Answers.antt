-- What it says is one entry.
use Rattle.log_model.proofs.Entries.{one_entry}
use Rattle.log_model.proofs.laws.a_payload_holds_one_entry.Goals as goal

pub returns : goal.returns
returns c = one_entry
