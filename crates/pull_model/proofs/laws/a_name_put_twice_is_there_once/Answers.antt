-- By the lemma on names.
use Rattle.pull_model.proofs.Names.{put_twice}
use Rattle.pull_model.proofs.laws.a_name_put_twice_is_there_once.Goals as goal

pub returns : goal.returns
returns c = put_twice
