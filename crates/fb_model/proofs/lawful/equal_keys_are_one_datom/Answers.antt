-- By the lemma on the transactions of datoms.
use Rattle.fb_model.proofs.Times.{one_for_each_key_in}
use Rattle.fb_model.proofs.lawful.equal_keys_are_one_datom.Goals as goal

pub returns : goal.returns
returns c = λ h lawful order. (one_for_each_key_in h lawful order).same
