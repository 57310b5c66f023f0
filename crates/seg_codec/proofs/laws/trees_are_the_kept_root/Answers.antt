-- By the lemma on what a file keeps of trees.
use Rattle.seg_codec.proofs.Kept.{kept_lists}
use Rattle.seg_codec.proofs.laws.trees_are_the_kept_root.Goals as goal

pub returns : goal.returns
returns c = λ nodes merge trees once are. kept_lists nodes once merge trees are
