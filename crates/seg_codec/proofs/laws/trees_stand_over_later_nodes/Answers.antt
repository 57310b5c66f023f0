-- By the lemma on later nodes.
use Rattle.seg_codec.proofs.Kept.{trees_later}
use Rattle.seg_codec.proofs.laws.trees_stand_over_later_nodes.Goals as goal

pub returns : goal.returns
returns c = trees_later
