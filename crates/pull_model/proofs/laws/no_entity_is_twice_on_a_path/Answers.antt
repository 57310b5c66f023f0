-- By the lemma on paths.
use Rattle.pull_model.proofs.Finite.{paths_alone}
use Rattle.pull_model.proofs.laws.no_entity_is_twice_on_a_path.Goals as goal

pub returns : goal.returns
returns c = paths_alone
