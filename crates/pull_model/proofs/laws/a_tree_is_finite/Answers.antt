-- By the lemma on enough room.
use Rattle.pull_model.proofs.Finite.{levels_are_enough}
use Rattle.pull_model.proofs.laws.a_tree_is_finite.Goals as goal

pub returns : goal.returns
returns c = levels_are_enough
