use Rattle.tx_model.proofs.NamedTempids.{named-rise, named_member, named_has}
use Rattle.tx_model.proofs.answers.named_tempids_rise_by_their_bytes.Goals as goal

pub returns : goal.returns
returns c = record { rising = named-rise; members = λ pairs text e. (named_member pairs text e, named_has pairs text e) }
