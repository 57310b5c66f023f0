use Rattle.tx_model.proofs.EntryBytes.{accepted_size}
use Rattle.tx_model.proofs.sizes.an_accepted_entry_is_not_too_large.Goals as goal

pub returns : goal.returns
returns c = accepted_size
