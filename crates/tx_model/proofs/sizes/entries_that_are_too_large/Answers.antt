use Rattle.tx_model.proofs.EntryBytes.{fits, too_many, too_long}
use Rattle.tx_model.proofs.sizes.entries_that_are_too_large.Goals as goal

pub returns : goal.returns
returns c = record { fits = fits; too_many = too_many; too_long = too_long }
