use Rattle.fb_prefix.proofs.Law.{lesser_prefix}
use Rattle.fb_prefix.proofs.laws.a_lesser_prefix_is_of_a_lesser_datom.Goals as goal

pub returns : goal.returns
returns c = lesser_prefix
