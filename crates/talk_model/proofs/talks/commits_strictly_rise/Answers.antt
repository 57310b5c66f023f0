use Rattle.talk_model.proofs.Places.{commits_rise}
use Rattle.talk_model.proofs.talks.commits_strictly_rise.Goals as goal

pub returns : goal.returns
returns c = commits_rise
