use Rattle.talk_model.proofs.OneReply.{read_place}
use Rattle.talk_model.proofs.reads.reads_keep_their_place.Goals as goal

pub returns : goal.returns
returns g c = λ s guard is_filter h stop teller before after f asked line commit is a. read_place _ before f asked after line commit is a
