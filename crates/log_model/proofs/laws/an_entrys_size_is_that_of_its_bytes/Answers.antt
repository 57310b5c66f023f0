-- By the lemma on sizes.
use Rattle.log_model.proofs.Sizes.{length-entry_bytes}
use Rattle.log_model.proofs.laws.an_entrys_size_is_that_of_its_bytes.Goals as goal

pub returns : goal.returns
returns c = length-entry_bytes
