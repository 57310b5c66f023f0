use Rattle.talk_model.proofs.Computed.{reply_is}
use Rattle.talk_model.proofs.reads.reads_are_computed_by_tests.Goals as goal

pub returns : goal.returns
returns c = λ h w names filters is_filter guard asked lawful. reply_is h w names filters is_filter guard lawful asked
