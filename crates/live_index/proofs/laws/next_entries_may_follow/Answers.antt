use Rattle.live_index.proofs.Standing.{may_follow}
use Rattle.live_index.proofs.laws.next_entries_may_follow.Goals as goal

pub returns : goal.returns
returns t h c entry coverage refill old is was = may_follow h c entry coverage refill is old was
