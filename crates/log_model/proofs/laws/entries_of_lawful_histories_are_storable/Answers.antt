-- By the lemmas on the entries of lawful histories.
use Rattle.log_model.proofs.StorableHistories.{all_storable, storable_entry}
use Rattle.log_model.proofs.laws.entries_of_lawful_histories_are_storable.Goals as goal

pub returns : goal.returns
returns c = record { each = all_storable; next = storable_entry }
