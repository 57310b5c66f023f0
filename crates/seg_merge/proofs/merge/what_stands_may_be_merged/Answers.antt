use Rattle.seg_merge.proofs.Standing.{can_rise}
use Rattle.seg_merge.proofs.merge.what_stands_may_be_merged.Goals as goal

pub returns : goal.returns
returns c = can_rise
