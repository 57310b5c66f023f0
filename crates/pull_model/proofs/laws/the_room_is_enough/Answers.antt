-- By the lemma on more room.
use Rattle.pull_model.proofs.Depth.{answered_with_more}
use Rattle.pull_model.proofs.laws.the_room_is_enough.Goals as goal

pub returns : goal.returns
returns c = answered_with_more
