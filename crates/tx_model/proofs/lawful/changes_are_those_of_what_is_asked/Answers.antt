-- By the lemma on what is asked.
use Rattle.tx_model.proofs.SameAsks.{changes_in-same}
use Rattle.tx_model.proofs.lawful.changes_are_those_of_what_is_asked.Goals as goal

pub returns : goal.returns
returns c = λ ds asked other same. changes_in-same ds asked other (λ d. (same d).0) (λ d. (same d).1)
